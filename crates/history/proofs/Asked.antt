-- From the questions that a call asks of the books to the step of every seat.
use Rattle.std.proofs.Common.{◌≡◌, ℕ, ◌<◌, Bool, true, false, not, eqb, ltb, ◌⊎◌, List, length, Some, None, Option, sym, refl, ap, ◌∙◌, subst, inl, inr, arith}
use Rattle.std.proofs.lemmas.List.{get_or_past}
use Rattle.std.proofs.lemmas.Bool.{and_parts, and_from, cases_lt, cond-true, cond-false, eq-eqb, eqb-true, lt-ltb, ltb-true}
use Rattle.plan.specs.declared.numbers.Plan.{Plan}
use Rattle.plan.specs.Plan.{planned}
use Rattle.ledger.specs.declared.refusal.Refusal.{Refusal}
use Rattle.ledger.specs.declared.refusal.Refusal.TheVariants.{NoSuchSeat, SeatInUse, SeatNotInUse, SeatNotServing, AllCharged, PermitsOut, NoPermitOut}
use Rattle.ledger.specs.declared.seat.Status.{Status}
use Rattle.ledger.specs.declared.seat.Status.TheVariants.{Empty, Serving, OnNotice}
use Rattle.ledger.specs.declared.seat.Seat.{Seat}
use Rattle.ledger.specs.Refusals.{number}
use Rattle.ledger.specs.Seats.{nobody, empty_status, serving_status, is_empty, is_serving, in_use, seated, warned, took, gave_back, saved, served, turned, passed}
use Rattle.ledger.specs.Books.{
  Books,
  seat_of,
  collector_share,
  ask,
  asks_plan,
  asks_admit,
  used_seat,
  asks_notice,
  asks_take,
  asks_return,
  taken,
  returned,
  spent,
  admitted as books_admitted,
  noticed as books_noticed,
}
use Rattle.history.specs.History.{hands_back, notice, take, hand_back, save, admitted, noticed, granted, handed_back, stored, did, refused}
use Rattle.history.specs.Moves.{InUse, Grants, SaveRefused, Step}
use Rattle.history.proofs.Moves.{deed_moves, save_refused_moves}

-- ---- one question

ask_none : (t : Bool) (e : Refusal) (rest : Option Refusal) → ask t e rest ≡ None → (t ≡ true) × (rest ≡ None)
ask_none true e rest q = (refl, q)
ask_none false e rest q = let z : ◌≡◌ {A = ℕ} 0 1 = cc in absurd (omega arith)

ask_some : (t : Bool) (e x : Refusal) (rest : Option Refusal) → ask t e rest ≡ Some x → (e ≡ x) ⊎ (rest ≡ Some x)
ask_some true e x rest q = inr q
ask_some false e x rest q = inl (cc)

ask_yes : (t : Bool) (e : Refusal) (rest : Option Refusal) → t ≡ true → ask t e rest ≡ rest
ask_yes t e rest q = ap (λ b. ask b e rest) q

not_both : {x : Refusal} (o : Option Refusal) → o ≡ None → o ≡ Some x → ⊥
not_both o p q = let z : ◌≡◌ {A = ℕ} 0 1 = cc in omega arith

-- ---- the status of a seat

used_status : (st : Status) → not (empty_status st) ≡ true → st ≡ Empty → ⊥
used_status st q is = let e = ap (λ s. not (empty_status s)) is in let z : true ≡ false = sym q ∙ e in let y : ◌≡◌ {A = ℕ} 0 1 = cc in omega arith

status_used : (st : Status) → (st ≡ Empty → ⊥) → not (empty_status st) ≡ true
status_used Empty used = absurd (used refl)
status_used Serving used = refl
status_used OnNotice used = refl

empty_by : (st : Status) → empty_status st ≡ true → st ≡ Empty
empty_by Empty q = refl
empty_by Serving q = let z : ◌≡◌ {A = ℕ} 0 1 = cc in absurd (omega arith)
empty_by OnNotice q = let z : ◌≡◌ {A = ℕ} 0 1 = cc in absurd (omega arith)

serving_by : (st : Status) → serving_status st ≡ true → st ≡ Serving
serving_by Empty q = let z : ◌≡◌ {A = ℕ} 0 1 = cc in absurd (omega arith)
serving_by Serving q = refl
serving_by OnNotice q = let z : ◌≡◌ {A = ℕ} 0 1 = cc in absurd (omega arith)

serving_in_use : (st : Status) → st ≡ Serving → st ≡ Empty → ⊥
serving_in_use st p q = let z : ◌≡◌ {A = ℕ} 0 1 = cc in omega arith

-- a tick of a seat in use, and of an empty one
pub passed_used : (α : ℕ) (s : Seat) → InUse s → passed α s ≡ turned (served α s)
passed_used α s used = cond-true (in_use s) _ _ (status_used s.status used)

pub passed_empty : (α : ℕ) (s : Seat) → s.status ≡ Empty → passed α s ≡ s
passed_empty α s none = cond-false (in_use s) _ _ (ap (λ st. not (empty_status st)) none)

module _ (b : Books) (eight : length b.seats ≡ 8) where
  -- a seat in use is one of the eight
  pub seat_there : (i : ℕ) → InUse (seat_of b i) → i < 8
  seat_there i used =
      elim (cases_lt i 8) [
        | inl there ↦ there
        | inr past ↦ absurd (used (ap (λ s. s.status) (get_or_past b.seats i nobody (omega arith))))
      ]

  used_yes : (i : ℕ) → used_seat b i ≡ true → (i < 8) × InUse (seat_of b i)
  used_yes i q = let p = and_parts (ltb i 8) (in_use (seat_of b i)) q in (ltb-true i 8 p.0, used_status (seat_of b i).status p.1)

  yes_used : (i : ℕ) → InUse (seat_of b i) → used_seat b i ≡ true
  yes_used i used = and_from (ltb i 8) (in_use (seat_of b i)) (lt-ltb i 8 (seat_there i used)) (status_used (seat_of b i).status used)

  -- ---- take

  pub take_granted : (i : ℕ) → asks_take b i ≡ None → (i < 8) × Grants (seat_of b i)
  take_granted i q =
      let x = ask_none (used_seat b i) SeatNotInUse _ q in
      let y = ask_none (is_serving (seat_of b i)) SeatNotServing _ x.1 in
      let z = ask_none (ltb (seat_of b i).charge (seat_of b i).plan.writes) AllCharged _ y.1 in
      ((used_yes i x.0).0, (serving_by (seat_of b i).status y.0, ltb-true _ _ z.0))

  pub take_clear : (i : ℕ) → Grants (seat_of b i) → asks_take b i ≡ None
  take_clear i g =
      ask_yes (used_seat b i) SeatNotInUse _ (yes_used i (serving_in_use (seat_of b i).status g.0))
      ∙ ask_yes (is_serving (seat_of b i)) SeatNotServing _ (ap serving_status g.0)
      ∙ ask_yes (ltb (seat_of b i).charge (seat_of b i).plan.writes) AllCharged _ (lt-ltb _ _ g.1)

  pub granted_step : (i : ℕ) → asks_take b i ≡ None → (k : ℕ) → Step b.frame k (did i granted) (seat_of b k) (seat_of (taken b i) k)
  granted_step i q =
      let g = take_granted i q in
      deed_moves b.frame b.seats i (took (seat_of b i)) (omega (arith, g.0)) granted (g.1, refl)

  pub take_refused_step : (i why : ℕ) (e : Refusal) → asks_take b i ≡ Some e → (k : ℕ) → Step b.frame k (refused (take i) why) (seat_of b k) (seat_of b k)
  take_refused_step i why e q k = ((λ same g. not_both (asks_take b i) (take_clear i (subst (λ x. Grants (seat_of b x)) (sym same) g)) q), refl)

  -- ---- notice

  pub notice_given : (i : ℕ) → asks_notice b i ≡ None → (i < 8) × ((seat_of b i).status ≡ Serving) × ((seat_of b i).out ≡ 0)
  notice_given i q =
      let x = ask_none (used_seat b i) SeatNotInUse _ q in
      let y = ask_none (is_serving (seat_of b i)) SeatNotServing _ x.1 in
      let z = ask_none (eqb (seat_of b i).out 0) PermitsOut _ y.1 in
      ((used_yes i x.0).0, serving_by (seat_of b i).status y.0, eqb-true _ _ z.0)

  notice_clear : (i : ℕ) → (seat_of b i).status ≡ Serving → (seat_of b i).out ≡ 0 → asks_notice b i ≡ None
  notice_clear i serves none =
      ask_yes (used_seat b i) SeatNotInUse _ (yes_used i (serving_in_use (seat_of b i).status serves))
      ∙ ask_yes (is_serving (seat_of b i)) SeatNotServing _ (ap serving_status serves)
      ∙ ask_yes (eqb (seat_of b i).out 0) PermitsOut _ (eq-eqb _ _ none)

  pub noticed_step : (i : ℕ) → asks_notice b i ≡ None → (k : ℕ) → Step b.frame k (did i noticed) (seat_of b k) (seat_of (books_noticed b i) k)
  noticed_step i q =
      let g = notice_given i q in
      deed_moves b.frame b.seats i (warned (seat_of b i)) (omega (arith, g.0)) noticed (g.1, g.2, refl)

  pub notice_refused_step : (i why : ℕ) (e : Refusal) → asks_notice b i ≡ Some e → (k : ℕ) → Step b.frame k (refused (notice i) why) (seat_of b k) (seat_of b k)
  notice_refused_step i why e q k = (
    (λ same serves none.
        not_both (asks_notice b i) (notice_clear i (ap (λ x. (seat_of b x).status) same ∙ serves) (ap (λ x. (seat_of b x).out) same ∙ none)) q),
    refl,
  )

  -- ---- hand back and save

  pub return_given : (i : ℕ) → asks_return b i ≡ None → (i < 8) × InUse (seat_of b i) × (0 < (seat_of b i).out)
  return_given i q =
      let x = ask_none (used_seat b i) SeatNotInUse _ q in
      let y = ask_none (ltb 0 (seat_of b i).out) NoPermitOut _ x.1 in
      let u = used_yes i x.0 in
      (u.0, u.1, ltb-true _ _ y.0)

  return_clear : (i : ℕ) → InUse (seat_of b i) → 0 < (seat_of b i).out → asks_return b i ≡ None
  return_clear i used some =
      ask_yes (used_seat b i) SeatNotInUse _ (yes_used i used) ∙ ask_yes (ltb 0 (seat_of b i).out) NoPermitOut _ (lt-ltb _ _ some)

  none_out : (i : ℕ) (e : Refusal) → asks_return b i ≡ Some e → InUse (seat_of b i) → (seat_of b i).out ≡ 0
  none_out i e q used =
      elim (cases_lt 0 (seat_of b i).out) [
        | inl some ↦ absurd (not_both (asks_return b i) (return_clear i used some) q)
        | inr none ↦ omega arith
      ]

  -- a refusal for want of a seat or a permit hands nothing back
  pub keeps_permit : (i : ℕ) (e : Refusal) → asks_return b i ≡ Some e → hands_back (number e) ≡ false
  keeps_permit i e q =
      elim (ask_some (used_seat b i) SeatNotInUse e _ q) [
        | inl same ↦ sym (ap (λ x. hands_back (number x)) same)
        | inr rest ↦
            elim (ask_some (ltb 0 (seat_of b i).out) NoPermitOut e None rest) [
              | inl same ↦ sym (ap (λ x. hands_back (number x)) same)
              | inr none ↦ (let z : ◌≡◌ {A = ℕ} 0 1 = cc in absurd (omega arith))
            ]
      ]

  pub handed_back_step : (i : ℕ) → asks_return b i ≡ None → (k : ℕ) → Step b.frame k (did i handed_back) (seat_of b k) (seat_of (returned b i) k)
  handed_back_step i q =
      let g = return_given i q in
      deed_moves b.frame b.seats i (gave_back (seat_of b i)) (omega (arith, g.0)) handed_back (g.1, g.2, refl)

  pub return_refused_step : (i why : ℕ) (e : Refusal) → asks_return b i ≡ Some e → (k : ℕ) → Step b.frame k (refused (hand_back i) why) (seat_of b k) (seat_of b k)
  return_refused_step i why e q k = ((λ same. subst (λ x. InUse (seat_of b x) → (seat_of b x).out ≡ 0) same (none_out i e q)), refl)

  pub stored_step : (i n : ℕ) (d : List ℕ) (tries : ℕ) → asks_return b i ≡ None → (k : ℕ) → Step b.frame k (did i (stored n d tries)) (seat_of b k) (seat_of (spent b i) k)
  stored_step i n d tries q =
      let g = return_given i q in
      deed_moves b.frame b.seats i (saved (seat_of b i)) (omega (arith, g.0)) (stored n d tries) (g.1, g.2, refl)

  -- refused for its page number or for its length
  pub save_back_step : (i n : ℕ) (d : List ℕ) (why : ℕ) → hands_back why ≡ true → asks_return b i ≡ None
      → (k : ℕ) → Step b.frame k (refused (save i n d) why) (seat_of b k) (seat_of (returned b i) k)
  save_back_step i n d why back q =
      let g = return_given i q in
      save_refused_moves b.frame b.seats i (gave_back (seat_of b i)) (omega (arith, g.0)) n d why
      (subst (λ x. SaveRefused b.frame i x (seat_of b i) (gave_back (seat_of b i))) (sym back) (g.1, g.2, refl))

  -- refused for want of a seat or a permit
  pub save_refused_step : (i n : ℕ) (d : List ℕ) (e : Refusal) → asks_return b i ≡ Some e
      → (k : ℕ) → Step b.frame k (refused (save i n d) (number e)) (seat_of b k) (seat_of b k)
  save_refused_step i n d e q k = (
    (λ same. subst (λ x. SaveRefused b.frame k x (seat_of b k) (seat_of b k)) (sym (keeps_permit i e q))
        (subst (λ x. InUse (seat_of b x) → (seat_of b x).out ≡ 0) same (none_out i e q), refl)),
    (λ apart. refl),
  )

  -- ---- admit

  pub admit_given : (i p w : ℕ) → asks_admit b i p w ≡ None → (i < 8) × ((seat_of b i).status ≡ Empty) × (asks_plan b (planned b.frame.alpha p w) ≡ None)
  admit_given i p w q =
      let x = ask_none (ltb i 8) NoSuchSeat _ q in
      let y = ask_none (is_empty (seat_of b i)) SeatInUse _ x.1 in
      (ltb-true i 8 x.0, empty_by (seat_of b i).status y.0, y.1)

  pub admitted_step : (i p w : ℕ) (plan : Plan) → asks_admit b i p w ≡ None → planned b.frame.alpha p w ≡ Some plan
      → (k : ℕ) → Step b.frame k (did i (admitted p w plan)) (seat_of b k) (seat_of (books_admitted b i plan) k)
  admitted_step i p w plan q is =
      let g = admit_given i p w q in
      deed_moves b.frame b.seats i (seated plan (collector_share b.frame)) (omega (arith, g.0)) (admitted p w plan) (g.0, g.1, is, refl)
