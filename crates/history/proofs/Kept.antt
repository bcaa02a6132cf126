-- What the books of a seat say in the words of its history, and what they allow.
use Rattle.std.proofs.Common.{◌≡◌, ℕ, zero, suc, ◌+◌, ◌-◌, ◌*◌, ◌/◌, ◌<◌, Bool, true, false, cond, not, ◌&&◌, Some, None, Option, sym, refl, ap, ◌∙◌, subst, arith}
use Rattle.std.proofs.lemmas.Bool.{both_ways, cond-true, cond-false}
use Rattle.plan.specs.declared.numbers.Plan.{Plan}
use Rattle.ledger.specs.declared.frame.Frame.{Frame}
use Rattle.ledger.specs.declared.seat.Status.{Status}
use Rattle.ledger.specs.declared.seat.Status.TheVariants.{Empty, Serving, OnNotice}
use Rattle.ledger.specs.declared.seat.Seat.{Seat}
use Rattle.ledger.specs.Seats.{empty_status, one_later, due}
use Rattle.history.specs.History.{
  hands_back,
  Call,
  opening,
  admit,
  notice,
  take,
  hand_back,
  save,
  read,
  tick,
  Deed,
  admitted,
  noticed,
  granted,
  handed_back,
  stored,
  Entry,
  opened,
  did,
  told,
  ticked,
  refused,
  programmed,
  asked,
  erased,
  History,
  count,
  any,
  notice_of,
  storing,
  seat_plan,
  period,
  permits_out,
  charged,
  under_notice,
  emptied,
  elapsed,
  runs_made,
  runs_by_plan,
  runs_of_tick,
  sum_first,
}
use Rattle.history.specs.Promise.{View, Given, Vacant, MayNotice, MayTake, MayReturn, SeatNow}
use Rattle.history.specs.Moves.{InUse, Grants, DeedStep, SaveRefused, RefusalStep, Step, runs_due, Answered, Run, fresh, then_entry}
use Rattle.history.specs.Coupled.{InStep, Left, CoupledBy, DeedAllowed, SaveAnswered, RefusalAllowed, Allowed, AllAllowed, SeatsKept}
use Rattle.history.proofs.Books.{Books, Gone}
use Rattle.history.proofs.Booked.{BookedBy, Booked, given_map, in_use, booked}

and_not : (b : Bool) → (b && not b) ≡ false
and_not true = refl
and_not false = refl

-- ---- what the history counts

module _ {α i : ℕ} {h : History} {s : Seat} {b : Bool} (k : Books α i h s b) where
  out_counted : s.out ≡ permits_out i h
  out_counted = omega (arith, k.grants)

  charge_counted : s.charge ≡ charged i s.plan h
  charge_counted = omega (arith, k.charges)

  not_yet_emptied : emptied i s.plan h ≡ false
  not_yet_emptied = ap (λ x. x && not (any (notice_of i) (period i s.plan h))) k.notices ∙ ap (λ x. b && not x) k.new_notices ∙ and_not b

  in_step : InStep α i h s b
  in_step =
      record {
        pays = k.pays;
        plan_is = k.plan_is;
        elapsed_is = sym k.clock;
        before_turn = k.before_turn;
        runs_are = k.made ∙ ap (λ x. x * s.plan.runs / s.plan.meta_period) (sym k.clock);
        out_is = out_counted;
        charge_is = charge_counted;
        account_is = k.holds;
        charge_splits = k.saves;
        out_charged = omega (arith, k.saves);
        charge_fits = k.fits;
        notice_is = k.notices;
        not_emptied = not_yet_emptied;
        settled = k.settled;
      }

  -- what the plan of the newest admission gives, in place of what a seat's record gives
  by_plan : (P : Type 0) (Q : Plan → Type 0) → Q s.plan → Given (seat_plan i h) P Q
  by_plan P Q q = subst (λ o. Given o P Q) (sym k.plan_is) q

left : {i : ℕ} {h : History} {t : Plan} → Gone i h t → Left i h t
left {i = i} {h = h} {t = t} k =
    record {
      was_noticed = k.notices;
      is_emptied = ap (λ x. x && not (any (notice_of i) (period i t h))) k.notices ∙ ap not k.new_notices;
      none_out = omega (arith, k.balance);
    }

coupled_by : (α i : ℕ) (h : History) (s : Seat) (st : Status) → BookedBy α i h s st → CoupledBy α i h s st
coupled_by α i h s Empty k = given_map (seat_plan i h) (λ t. left) k
coupled_by α i h s Serving k = in_step k
coupled_by α i h s OnNotice k = in_step k

-- ---- what they allow

given_clash : {P Q : Plan → Type 0} (o : Option Plan) → ((t : Plan) → P t → Q t → ⊥) → Given o (Unit {0}) P → Given o ⊥ Q → ⊥
given_clash (Some t) f p q = f t p q
given_clash None f p q = q

serving_used : {st : Status} → st ≡ Serving → st ≡ Empty → ⊥
serving_used q e = let z : ◌≡◌ {A = ℕ} 0 1 = cc in omega arith

on_notice_used : {st : Status} → st ≡ OnNotice → st ≡ Empty → ⊥
on_notice_used q e = let z : ◌≡◌ {A = ℕ} 0 1 = cc in omega arith

module _ (α i : ℕ) (h : History) (a : Seat) where
  vacant : a.status ≡ Empty → Booked α i h a → Vacant i h
  vacant q k = given_map (seat_plan i h) (λ t g. (left g).is_emptied) (subst (BookedBy α i h a) q k)

  may_take : Grants a → Booked α i h a → MayTake i h
  may_take g k =
      let books : Books α i h a false = subst (BookedBy α i h a) g.0 k in
      by_plan books ⊥ (λ t. (under_notice i h ≡ false) × (charged i t h < t.writes)) (books.notices, subst (λ x. x < a.plan.writes) (charge_counted books) g.1)

  may_not_take_by : (st : Status) → a.status ≡ st → (Grants a → ⊥) → BookedBy α i h a st → MayTake i h → ⊥
  may_not_take_by Empty q none k may = given_clash (seat_plan i h) (λ t g m. both_ways (under_notice i h) m.0 g.notices) k may
  may_not_take_by Serving q none k may =
      let m = subst (λ o. Given o ⊥ (λ t. (under_notice i h ≡ false) × (charged i t h < t.writes))) k.plan_is may in
      none (q, subst (λ x. x < a.plan.writes) (sym (charge_counted k)) m.1)
  may_not_take_by OnNotice q none k may =
      let m = subst (λ o. Given o ⊥ (λ t. (under_notice i h ≡ false) × (charged i t h < t.writes))) k.plan_is may in
      both_ways (under_notice i h) m.0 k.notices

  may_notice : a.status ≡ Serving → a.out ≡ 0 → Booked α i h a → MayNotice i h
  may_notice q none k =
      let books : Books α i h a false = subst (BookedBy α i h a) q k in
      by_plan books ⊥ (λ t. (under_notice i h ≡ false) × (permits_out i h ≡ 0)) (books.notices, sym (out_counted books) ∙ none)

  may_not_notice_by : (st : Status) → a.status ≡ st → (a.status ≡ Serving → a.out ≡ 0 → ⊥) → BookedBy α i h a st → MayNotice i h → ⊥
  may_not_notice_by Empty q none k may = given_clash (seat_plan i h) (λ t g m. both_ways (under_notice i h) m.0 g.notices) k may
  may_not_notice_by Serving q none k may =
      let m = subst (λ o. Given o ⊥ (λ t. (under_notice i h ≡ false) × (permits_out i h ≡ 0))) k.plan_is may in
      none q (out_counted k ∙ m.1)
  may_not_notice_by OnNotice q none k may =
      let m = subst (λ o. Given o ⊥ (λ t. (under_notice i h ≡ false) × (permits_out i h ≡ 0))) k.plan_is may in
      both_ways (under_notice i h) m.0 k.notices

  may_return : InUse a → 0 < a.out → Booked α i h a → MayReturn i h
  may_return used some k =
      let o = in_use α i h a used k in
      by_plan o.books ⊥ (λ t. 0 < permits_out i h) (subst (λ x. 0 < x) (out_counted o.books) some)

  none_out : {b : Bool} → Books α i h a b → a.out ≡ 0 → MayReturn i h → ⊥
  none_out k none may =
      let m = subst (λ o. Given o ⊥ (λ t. 0 < permits_out i h)) k.plan_is may in
      omega (arith, out_counted k)

  may_not_return_by : (st : Status) → a.status ≡ st → (InUse a → a.out ≡ 0) → BookedBy α i h a st → MayReturn i h → ⊥
  may_not_return_by Empty q none k may = given_clash (seat_plan i h) (λ t g m. let n = (left g).none_out in omega arith) k may
  may_not_return_by Serving q none k may = none_out k (none (serving_used q)) may
  may_not_return_by OnNotice q none k may = none_out k (none (on_notice_used q)) may

  save_answered : (f : Frame) (x : Bool) (b : Seat) → SaveRefused f i x a b → Booked α i h a → SaveAnswered x i h
  save_answered f true b m k = may_return m.0 m.1 k
  save_answered f false b m k = may_not_return_by a.status refl m.0 k

  -- ---- the runs of a tick

  runs_in_step : {b : Bool} → Books α i h a b
      → due (one_later a) - a.runs ≡ (elapsed i a.plan h + 1) * a.plan.runs / a.plan.meta_period - runs_made i a.plan h
  runs_in_step k =
      let s = in_step k in
      let e = ap (λ x. (x + 1) * a.plan.runs / a.plan.meta_period) s.elapsed_is in
      let r = s.runs_are in
      omega arith

  plan_in_use : {b : Bool} → Books α i h a b
      → runs_by_plan i h (Some a.plan) ≡ (elapsed i a.plan h + 1) * a.plan.runs / a.plan.meta_period - runs_made i a.plan h
  plan_in_use k = cond-false (emptied i a.plan h) 0 _ (not_yet_emptied k)

  runs_by_books : {b : Bool} → Books α i h a b → due (one_later a) - a.runs ≡ runs_by_plan i h (seat_plan i h)
  runs_by_books k = runs_in_step k ∙ sym (plan_in_use k) ∙ sym (ap (runs_by_plan i h) k.plan_is)

  no_runs : (o : Option Plan) → Given o (Unit {0}) (λ t. Gone i h t) → 0 ≡ runs_by_plan i h o
  no_runs None k = refl
  no_runs (Some t) k = sym (cond-true (emptied i t h) 0 _ (left k).is_emptied)

  runs_counted : (st : Status) → BookedBy α i h a st → cond (not (empty_status st)) (due (one_later a) - a.runs) 0 ≡ runs_by_plan i h (seat_plan i h)
  runs_counted Empty k = no_runs (seat_plan i h) k
  runs_counted Serving k = runs_by_books k
  runs_counted OnNotice k = runs_by_books k

module _ (f : Frame) (i : ℕ) (h : History) (a b : Seat) where
  deed_allowed : (d : Deed) → DeedStep f i d a b → Booked f.alpha i h a → DeedAllowed f.alpha i d h
  deed_allowed (admitted p w plan) m k = (m.0, vacant f.alpha i h a m.1 k, m.2)
  deed_allowed noticed m k = may_notice f.alpha i h a m.0 m.1 k
  deed_allowed granted m k = may_take f.alpha i h a m.0 k
  deed_allowed handed_back m k = may_return f.alpha i h a m.0 m.1 k
  deed_allowed (stored n d t) m k = may_return f.alpha i h a m.0 m.1 k

pub sum_same : (n : ℕ) (p q : ℕ → ℕ) → ((i : ℕ) → p i ≡ q i) → sum_first n p ≡ sum_first n q
sum_same zero p q same = refl
sum_same (suc n) p q same = let e = sum_same n p q same in let o = same n in omega arith

module _ (f : Frame) (h : History) (l m : ℕ → Seat) (k : (i : ℕ) → Booked f.alpha i h (l i)) where
  refusal_allowed : (c : Call) (why : ℕ) → ((i : ℕ) → RefusalStep f i c why (l i) (m i)) → RefusalAllowed c why h
  refusal_allowed (opening x y p) why step = tt
  refusal_allowed (admit i p w) why step = tt
  refusal_allowed (notice i) why step = may_not_notice_by f.alpha i h (l i) (l i).status refl ((step i).0 refl) (k i)
  refusal_allowed (take i) why step = may_not_take_by f.alpha i h (l i) (l i).status refl ((step i).0 refl) (k i)
  refusal_allowed (hand_back i) why step = may_not_return_by f.alpha i h (l i) (l i).status refl ((step i).0 refl) (k i)
  refusal_allowed (save i n d) why step = save_answered f.alpha i h (l i) f (hands_back why) (m i) ((step i).0 refl) (k i)
  refusal_allowed (read n r) why step = tt
  refusal_allowed tick why step = tt

  runs_answered : sum_first 8 (λ i. runs_due (l i)) ≡ runs_of_tick h
  runs_answered = sum_same 8 (λ i. runs_due (l i)) (λ i. runs_by_plan i h (seat_plan i h)) (λ i. runs_counted f.alpha i h (l i) (l i).status (k i))

  allowed : (e : Entry) → Answered e l → ((i : ℕ) → Step f i e (l i) (m i)) → Allowed f.alpha e h
  allowed (opened x y p) answer step = tt
  allowed (did i d) answer step = deed_allowed f i h (l i) (m i) d ((step i).0 refl) (k i)
  allowed (told n r d) answer step = tt
  allowed (ticked n r c t) answer step = answer ∙ runs_answered
  allowed (refused c why) answer step = refusal_allowed c why step
  allowed (programmed q p d g) answer step = tt
  allowed (asked b) answer step = tt
  allowed (erased b) answer step = tt

all_allowed : {f : Frame} {h : History} {l : ℕ → Seat} → Run f h l → AllAllowed f.alpha h
all_allowed (fresh none) = tt
all_allowed {f = f} (then_entry {h = h} {l = l} {m = m} e run answer step) = (allowed f h l m (booked run) e answer step, all_allowed run)

-- each seat's record says what its history counts
pub coupled : {f : Frame} {h : History} {l : ℕ → Seat} → Run f h l → (i : ℕ) → CoupledBy f.alpha i h (l i) (l i).status
coupled {f = f} {h = h} {l = l} run i = coupled_by f.alpha i h (l i) (l i).status (booked run i)

-- ---- what can be seen

module _ (f : Frame) (i : ℕ) (h : History) (v : View) (s : Seat) (account : v.account i ≡ s.account) (charge : v.charge i ≡ s.charge) where
  seat_now : {b : Bool} → Books f.alpha i h s b → SeatNow f i s.plan h v
  seat_now k =
      let c = in_step k in
      (ap (λ x. x + count (storing i) (period i s.plan h)) account ∙ c.account_is ∙ ap (λ x. s.plan.writes + f.alpha * x) c.runs_are, charge ∙ c.charge_is)

  seen_by : (st : Status) → BookedBy f.alpha i h s st → Given (seat_plan i h) (Unit {0}) (λ t. emptied i t h ≡ false → SeatNow f i t h v)
  seen_by Empty k = given_map (seat_plan i h) (λ t g here. absurd (both_ways (emptied i t h) here (left g).is_emptied)) k
  seen_by Serving k = by_plan k (Unit {0}) (λ t. emptied i t h ≡ false → SeatNow f i t h v) (λ here. seat_now k)
  seen_by OnNotice k = by_plan k (Unit {0}) (λ t. emptied i t h ≡ false → SeatNow f i t h v) (λ here. seat_now k)

pub seats_kept : SeatsKept
seats_kept f h l v run shows =
    (all_allowed run, coupled run, (λ i. seen_by f i h v (l i) (shows i).0 (shows i).1 (l i).status (booked run i)))
