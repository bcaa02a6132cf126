-- The books of one seat: its record against its history, as sums. Each entry keeps them.
use Rattle.std.proofs.Common.{◌≡◌, ℕ, ◌+◌, ◌-◌, ◌*◌, ◌/◌, ◌%◌, ◌<◌, ◌≤◌, Bool, true, false, cond, ◌||◌, eqb, [], ◌∷◌, length, drop, Some, sym, refl, ap, ◌∙◌, inl, inr, le_trans, mod-lt, le-div_iff_mul-le, mul-add, div-mul-le_self, arith}
use native.Mathlib.Nat.{zero-mod}
use Rattle.std.proofs.lemmas.Bool.{eq-eqb, cond-true, both_ways, cases_lt, and_from}
use Rattle.plan.specs.declared.numbers.Plan.{Plan}
use Rattle.ledger.specs.declared.seat.Status.{Status}
use Rattle.ledger.specs.declared.seat.Status.TheVariants.{Serving, OnNotice}
use Rattle.ledger.specs.declared.seat.Seat.{Seat}
use Rattle.ledger.specs.Seats.{seated, warned, took, gave_back, saved, one_later, due, served, renewed}
use Rattle.history.specs.History.{
  admitted,
  Entry,
  did,
  ticked,
  History,
  count,
  any,
  recent,
  tick_of,
  admission,
  notice_of,
  grant,
  return_of,
  storing,
  seat_plan,
  tenure,
  elapsed,
  period,
  period_start,
  permits_out,
}
use Rattle.history.specs.Moves.{Pays}
use Rattle.history.proofs.Periods.{count_none, any_before, since_now, Goes_on, goes_on_quiet, goes_on_tick, elapsed_quiet, elapsed_tick, elapsed_turn, period_turn, start_turn}

pub record Books (α i : ℕ) (h : History) (s : Seat) (leaving : Bool) : Type 0 where
  pub pays : Pays α s.plan
  pub plan_is : seat_plan i h ≡ Some s.plan
  pub clock : elapsed i s.plan h ≡ s.elapsed
  pub before_turn : s.elapsed < s.plan.meta_period
  pub made : s.runs ≡ s.elapsed * s.plan.runs / s.plan.meta_period
  pub grants : count (grant i) (tenure i h) ≡ s.out + count (return_of i) (tenure i h) + count (storing i) (tenure i h)
  pub charges : permits_out i (period_start i s.plan h) + count (grant i) (period i s.plan h) ≡ s.charge + count (return_of i) (period i s.plan h)
  pub saves : s.charge ≡ s.out + count (storing i) (period i s.plan h)
  pub holds : s.account + count (storing i) (period i s.plan h) ≡ s.plan.writes + α * s.runs
  pub fits : s.charge ≤ s.plan.writes
  pub notices : any (notice_of i) (tenure i h) ≡ leaving
  pub new_notices : any (notice_of i) (period i s.plan h) ≡ leaving
  pub settled : leaving ≡ true → s.out ≡ 0

-- ---- what an entry adds to the counts while a meta-period goes on

abbrev pub one_if : Bool → ℕ
one_if true = 1
one_if false = 0

pub count_more : (f : Entry → Bool) (e : Entry) (h : History) → count f (e ∷ h) ≡ count f h + one_if (f e)
count_more f e h = elim (f e) as (λ b. cond b (count f h + 1) (count f h) ≡ count f h + one_if b) [ true ↦ refl | false ↦ omega arith ]

module _ {i : ℕ} {t : Plan} {e : Entry} {h : History} (on : Goes_on i t e h) (f : Entry → Bool) {b : Bool} (marked : f e ≡ b) where
  tenure_counts : count f (tenure i (e ∷ h)) ≡ count f (tenure i h) + one_if b
  tenure_counts = ap (count f) on.tenure_on ∙ count_more f e (tenure i h) ∙ ap (λ x. count f (tenure i h) + one_if x) marked

  period_counts : count f (period i t (e ∷ h)) ≡ count f (period i t h) + one_if b
  period_counts = ap (count f) on.period_on ∙ count_more f e (period i t h) ∙ ap (λ x. count f (period i t h) + one_if x) marked

  tenure_has : any f (tenure i (e ∷ h)) ≡ (b || any f (tenure i h))
  tenure_has = ap (any f) on.tenure_on ∙ ap (λ x. x || any f (tenure i h)) marked

  period_has : any f (period i t (e ∷ h)) ≡ (b || any f (period i t h))
  period_has = ap (any f) on.period_on ∙ ap (λ x. x || any f (period i t h)) marked

-- what an entry is to a seat: a grant, a return, a stored save, a notice
pub record Marks (i : ℕ) (e : Entry) (granting returning saving warning : Bool) : Type 0 where
  pub old : admission i e ≡ false
  pub grants : grant i e ≡ granting
  pub returns : return_of i e ≡ returning
  pub stores : storing i e ≡ saving
  pub warns : notice_of i e ≡ warning

-- the books after an entry, while the meta-period goes on
pub books_on :
    {α i : ℕ} {e : Entry} {h : History} {s : Seat} {b g r v n : Bool} (st : Status) (a q o c made : ℕ) (b' : Bool) →
    Goes_on i s.plan e h → Marks i e g r v n → Books α i h s b →
    elapsed i s.plan (e ∷ h) ≡ c →
    c < s.plan.meta_period →
    made ≡ c * s.plan.runs / s.plan.meta_period →
    q + one_if r ≡ s.charge + one_if g →
    o + one_if r + one_if v ≡ s.out + one_if g →
    a + one_if v + count (storing i) (period i s.plan h) ≡ s.plan.writes + α * made →
    q ≤ s.plan.writes →
    (n || b) ≡ b' →
    (b' ≡ true → o ≡ 0) →
    Books α i (e ∷ h) (record { status = st; plan = s.plan; account = a; collector = s.collector; charge = q; out = o; elapsed = c; runs = made }) b'
books_on {i = i} {h = h} {s = s} {n = n} st a q o c made b' on m k clock before runs charge out account fits leaves settled =
    let g1 = tenure_counts on (grant i) m.grants in
    let r1 = tenure_counts on (return_of i) m.returns in
    let v1 = tenure_counts on (storing i) m.stores in
    let g2 = period_counts on (grant i) m.grants in
    let r2 = period_counts on (return_of i) m.returns in
    let v2 = period_counts on (storing i) m.stores in
    let x = ap (permits_out i) on.start_on in
    record {
      pays = k.pays;
      plan_is = on.plan_on ∙ k.plan_is;
      clock = clock;
      before_turn = before;
      made = runs;
      grants = omega (arith, k.grants);
      charges = omega (arith, k.charges);
      saves = omega (arith, k.saves);
      holds = omega arith;
      fits = fits;
      notices = tenure_has on (notice_of i) m.warns ∙ ap (λ y. n || y) k.notices ∙ leaves;
      new_notices = period_has on (notice_of i) m.warns ∙ ap (λ y. n || y) k.new_notices ∙ leaves;
      settled = settled;
    }

-- ---- the deeds of a seat in use

module _ {α i : ℕ} {e : Entry} {h : History} {s : Seat} {b : Bool} (quiet : tick_of e ≡ false) (k : Books α i h s b) where
  -- the meta-period goes on, and its time stands
  deed :
      {g r v n : Bool} (st : Status) (a q o : ℕ) (b' : Bool) →
      Marks i e g r v n →
      q + one_if r ≡ s.charge + one_if g →
      o + one_if r + one_if v ≡ s.out + one_if g →
      a + one_if v ≡ s.account →
      q ≤ s.plan.writes →
      (n || b) ≡ b' →
      (b' ≡ true → o ≡ 0) →
      Books α i (e ∷ h) (record { status = st; plan = s.plan; account = a; collector = s.collector; charge = q; out = o; elapsed = s.elapsed; runs = s.runs }) b'
  deed st a q o b' m charge out account fits leaves settled =
      books_on st a q o s.elapsed s.runs b' (goes_on_quiet i s.plan e h m.old quiet) m k
      (elapsed_quiet i s.plan e h m.old quiet ∙ k.clock) k.before_turn k.made charge out
      (omega (arith, k.holds)) fits leaves settled

  pub books_untouched : Marks i e false false false false → Books α i (e ∷ h) s b
  books_untouched m = deed s.status s.account s.charge s.out b m refl (omega arith) (omega arith) k.fits refl k.settled

  pub books_took : Marks i e true false false false → b ≡ false → s.charge < s.plan.writes → Books α i (e ∷ h) (took s) b
  books_took m here room = deed s.status s.account (s.charge + 1) (s.out + 1) b m (omega arith) (omega arith) (omega arith) (omega arith) refl (λ l. absurd (both_ways b here l))

  pub books_gave_back : Marks i e false true false false → 0 < s.out → Books α i (e ∷ h) (gave_back s) b
  books_gave_back m some = deed s.status s.account (s.charge - 1) (s.out - 1) b m (omega (arith, k.saves)) (omega arith) (omega arith) (omega (arith, k.fits)) refl (λ l. omega (arith, k.settled l))

  pub books_saved : Marks i e false false true false → 0 < s.out → Books α i (e ∷ h) (saved s) b
  books_saved m some = deed s.status (s.account - 1) s.charge (s.out - 1) b m (omega arith) (omega arith) (omega (arith, k.holds, k.saves, k.fits)) k.fits refl (λ l. omega (arith, k.settled l))

  pub books_warned : Marks i e false false false true → s.out ≡ 0 → Books α i (e ∷ h) (warned s) true
  books_warned m none = deed OnNotice s.account s.charge s.out true m (omega arith) (omega arith) (omega arith) k.fits refl (λ l. none)

-- ---- time

-- more ticks, no fewer runs due
pub due_grows : (e k m : ℕ) → 1 ≤ m → e * k / m ≤ (e + 1) * k / m
due_grows e k m h = (le-div_iff_mul-le h).1 (le_trans (div-mul-le_self (e * k) m) (omega arith))

-- what was made and what is then due, in tokens
pub tokens : (α r n : ℕ) → r ≤ n → α * (n - r) + α * r ≡ α * n
tokens α r n h =
    let whole : n - r + r ≡ n = omega arith in
    sym (mul-add α (n - r) r) ∙ ap (λ x. α * x) whole

-- the books at the start of a meta-period
books_start :
    (α i : ℕ) (h : History) (st : Status) (t : Plan) (held o : ℕ) →
    Pays α t → seat_plan i h ≡ Some t → elapsed i t h ≡ 0 → period i t h ≡ [] → period_start i t h ≡ h →
    count (grant i) (tenure i h) ≡ o + count (return_of i) (tenure i h) + count (storing i) (tenure i h) →
    o ≤ t.writes → any (notice_of i) (tenure i h) ≡ false →
    Books α i h (record { status = st; plan = t; account = t.writes; collector = held; charge = o; out = o; elapsed = 0; runs = 0 }) false
books_start α i h st t held o pays plan_is clock none start grants fits quiet =
    let g = ap (count (grant i)) none in
    let r = ap (count (return_of i)) none in
    let v = ap (count (storing i)) none in
    let x = ap (permits_out i) start in
    record {
      pays = pays;
      plan_is = plan_is;
      clock = clock;
      before_turn = pays.lasts;
      made = omega arith;
      grants = grants;
      charges = omega arith;
      saves = omega arith;
      holds = omega arith;
      fits = fits;
      notices = quiet;
      new_notices = ap (any (notice_of i)) none;
      settled = λ l. absurd (both_ways false refl l);
    }

-- a tick says nothing of a seat but that time passed
marks_tick : (i : ℕ) (a b c d : ℕ) → Marks i (ticked a b c d) false false false false
marks_tick i a b c d = record { old = refl; grants = refl; returns = refl; stores = refl; warns = refl }

module _ {α i : ℕ} {h : History} {s : Seat} {b : Bool} (n r c t : ℕ) (k : Books α i h s b) where
  pub books_served : s.elapsed + 1 < s.plan.meta_period → Books α i (ticked n r c t ∷ h) (served α s) b
  books_served before =
      let now : elapsed i s.plan h + 1 < s.plan.meta_period = omega (arith, k.clock) in
      let more = due_grows s.elapsed s.plan.runs s.plan.meta_period k.pays.lasts in
      let new : s.runs + (due (one_later s) - s.runs) ≡ due (one_later s) = omega (arith, k.made) in
      let paid = tokens α s.runs (due (one_later s)) (omega (arith, k.made)) in
      let whole = ap (λ x. α * x) new in
      books_on s.status (s.account + α * (due (one_later s) - s.runs)) s.charge s.out (s.elapsed + 1) (s.runs + (due (one_later s) - s.runs)) b
      (goes_on_tick i s.plan (ticked n r c t) h refl refl now) (marks_tick i n r c t) k
      (elapsed_tick i s.plan (ticked n r c t) h refl refl now ∙ ap (λ x. x + 1) k.clock)
      before new (omega arith) (omega arith) (omega (arith, k.holds)) k.fits refl k.settled

  pub books_renewed : b ≡ false → s.elapsed + 1 ≡ s.plan.meta_period → Books α i (ticked n r c t ∷ h) (renewed (served α s)) false
  books_renewed here full =
      let now : elapsed i s.plan h + 1 ≡ s.plan.meta_period = omega (arith, k.clock) in
      let e = ticked n r c t in
      books_start α i (e ∷ h) s.status s.plan s.collector s.out k.pays k.plan_is
      (elapsed_turn i s.plan e h refl refl now) (period_turn i s.plan e h refl refl now) (start_turn i s.plan e h refl refl now)
      k.grants (omega (arith, k.fits, k.saves)) (k.notices ∙ here)

-- ---- the admission

pub books_seated : (α i p w : ℕ) (t : Plan) (held : ℕ) (h : History) → Pays α t → Books α i (did i (admitted p w t) ∷ h) (seated t held) false
books_seated α i p w t held h pays =
    let e = did i (admitted p w t) in
    let same = eq-eqb i i refl in
    let new = since_now (admission i) e h (and_from (eqb i i) true same refl) in
    let clock : elapsed i t (e ∷ h) ≡ 0 = ap (λ x. count tick_of x % t.meta_period) new ∙ zero-mod t.meta_period in
    let none : period i t (e ∷ h) ≡ [] = ap (recent (elapsed i t (e ∷ h))) new in
    books_start α i (e ∷ h) Serving t held 0 pays (cond-true (eqb i i) _ _ same) clock none (ap (λ q. drop (length q) (e ∷ h)) none)
    (let g = ap (count (grant i)) new in let r = ap (count (return_of i)) new in let v = ap (count (storing i)) new in omega arith)
    (omega arith) (ap (any (notice_of i)) new)

-- ---- a seat that was emptied

pub record Gone (i : ℕ) (h : History) (t : Plan) : Type 0 where
  pub lasts : 1 ≤ t.meta_period
  pub balance : count (grant i) (tenure i h) ≡ count (return_of i) (tenure i h) + count (storing i) (tenure i h)
  pub notices : any (notice_of i) (tenure i h) ≡ true
  pub new_notices : any (notice_of i) (period i t h) ≡ false

-- the tick that ends the meta-period of a notice empties the seat
pub gone_vacated : {α i : ℕ} {h : History} {s : Seat} (n r c t : ℕ) → Books α i h s true → s.elapsed + 1 ≡ s.plan.meta_period → Gone i (ticked n r c t ∷ h) s.plan
gone_vacated {i = i} {h = h} {s = s} n r c t k full =
    let now : elapsed i s.plan h + 1 ≡ s.plan.meta_period = omega (arith, k.clock) in
    record {
      lasts = k.pays.lasts;
      balance = omega (arith, k.grants, k.settled refl);
      notices = k.notices;
      new_notices = ap (any (notice_of i)) (period_turn i s.plan (ticked n r c t) h refl refl now);
    }

-- an entry with no deed of the seat leaves it emptied
gone_on : {i : ℕ} {e : Entry} {h : History} {t : Plan} → tenure i (e ∷ h) ≡ e ∷ tenure i h → Marks i e false false false false → Gone i h t → any (notice_of i) (period i t (e ∷ h)) ≡ false → Gone i (e ∷ h) t
gone_on {i = i} {e = e} {h = h} grows m k none =
    let g = ap (count (grant i)) grows ∙ count_none (grant i) e (tenure i h) m.grants in
    let r = ap (count (return_of i)) grows ∙ count_none (return_of i) e (tenure i h) m.returns in
    let v = ap (count (storing i)) grows ∙ count_none (storing i) e (tenure i h) m.stores in
    record {
      lasts = k.lasts;
      balance = omega (arith, k.balance);
      notices = ap (any (notice_of i)) grows ∙ any_before (notice_of i) e (tenure i h) m.warns ∙ k.notices;
      new_notices = none;
    }

pub gone_untouched : {i : ℕ} {e : Entry} {h : History} {t : Plan} → tick_of e ≡ false → Marks i e false false false false → Gone i h t → Gone i (e ∷ h) t
gone_untouched {i = i} {e = e} {h = h} {t = t} quiet m k =
    let on = goes_on_quiet i t e h m.old quiet in
    gone_on on.tenure_on m k (period_has on (notice_of i) m.warns ∙ k.new_notices)

pub gone_tick : {i : ℕ} {h : History} {u : Plan} (n r c t : ℕ) → Gone i h u → Gone i (ticked n r c t ∷ h) u
gone_tick {i = i} {h = h} {u = u} n r c t k =
    let e = ticked n r c t in
    let inside = mod-lt (count tick_of (tenure i h)) k.lasts in
    elim (cases_lt (elapsed i u h + 1) u.meta_period) [
      | inl before ↦ (let on = goes_on_tick i u e h refl refl before in gone_on refl (marks_tick i n r c t) k (period_has on (notice_of i) refl ∙ k.new_notices))
      | inr late ↦ (let full : elapsed i u h + 1 ≡ u.meta_period = omega arith in gone_on refl (marks_tick i n r c t) k (ap (any (notice_of i)) (period_turn i u e h refl refl full)))
    ]
