-- The calls on seats and permits keep what is true of a store and its history.
use Rattle.chip.specs.Meaning.{Meaning}
use Rattle.std.proofs.Common.{◌≡◌, ℕ, ◌∷◌, Some, None, Result, refl, rules}
use Rattle.plan.specs.declared.numbers.Plan.{Plan}
use Rattle.plan.specs.Plan.{plan_of, planned}
use Rattle.ledger.specs.declared.refusal.Refusal.{Refusal}
use Rattle.ledger.specs.Books.{Books, asks_admit, asks_notice, asks_take, asks_return, admitted, noticed, taken, returned}
use Rattle.ledger.specs.Of.{books_of}
use Rattle.ledger.specs.Refusals.{number}
use Rattle.history.specs.History.{History}
use Rattle.history.proofs.Asked.{granted_step, take_refused_step, noticed_step, notice_refused_step, handed_back_step, return_refused_step, admitted_step}
use Rattle.store.specs.State.{Standing}
use Rattle.store.specs.declared.store.Permit.{Permit}
use Rattle.store.specs.Effects.{Admits, Notices, Takes, Returns}
use Rattle.store.specs.Calls.{entry_admit, entry_notice, entry_take, entry_return}
use Rattle.store.proofs.Invariant.{Inv, eight_seats, booked_inv}

-- an accepted admission is of the plan that the job has
plan_is : (b : Books) (i p w : ℕ) → asks_admit b i p w ≡ None → planned b.frame.alpha p w ≡ Some (plan_of b.frame.alpha p w)
plan_is b i p w none = search rules

module _ {C H : Type 0} {means : C → Meaning} (h : History) (s t : Standing means H) (i : ℕ) where
  pub take_inv : (r : Result Permit Refusal) → Takes s i r t → Inv h s → Inv (entry_take i r ∷ h) t
  take_inv r e =
      let b = books_of s.ledger in
      let eight = eight_seats s in
      booked_inv h s t (record { seat = i }) (entry_take i) (taken b i) refl (asks_take b i) r e.0 e.1 refl
      (λ none. (record { call = refl; still = tt; answered = λ l. tt; says = λ f k. tt }, granted_step b eight i none))
      (λ x some. (record { call = refl; still = tt; answered = λ l. tt; says = λ f k. tt }, take_refused_step b eight i (number x) x some))

  pub notice_inv : (r : Result (Unit {0}) Refusal) → Notices s i r t → Inv h s → Inv (entry_notice i r ∷ h) t
  notice_inv r e =
      let b = books_of s.ledger in
      let eight = eight_seats s in
      booked_inv h s t tt (entry_notice i) (noticed b i) refl (asks_notice b i) r e.0 e.1 refl
      (λ none. (record { call = refl; still = tt; answered = λ l. tt; says = λ f k. tt }, noticed_step b eight i none))
      (λ x some. (record { call = refl; still = tt; answered = λ l. tt; says = λ f k. tt }, notice_refused_step b eight i (number x) x some))

  pub return_inv : (r : Result (Unit {0}) Refusal) → Returns s i r t → Inv h s → Inv (entry_return i r ∷ h) t
  return_inv r e =
      let b = books_of s.ledger in
      let eight = eight_seats s in
      booked_inv h s t tt (entry_return i) (returned b i) refl (asks_return b i) r e.0 e.1 refl
      (λ none. (record { call = refl; still = tt; answered = λ l. tt; says = λ f k. tt }, handed_back_step b eight i none))
      (λ x some. (record { call = refl; still = tt; answered = λ l. tt; says = λ f k. tt }, return_refused_step b eight i (number x) x some))

  pub admit_inv : (p w : ℕ) (r : Result Plan Refusal) → Admits s i p w r t → Inv h s → Inv (entry_admit i p w r ∷ h) t
  admit_inv p w r e =
      let b = books_of s.ledger in
      let eight = eight_seats s in
      let plan = plan_of b.frame.alpha p w in
      booked_inv h s t plan (entry_admit i p w) (admitted b i plan) refl (asks_admit b i p w) r e.0 e.1 refl
      (λ none. (record { call = refl; still = tt; answered = λ l. tt; says = λ f k. tt }, admitted_step b eight i p w plan none (plan_is b i p w none)))
      (λ x some. (record { call = refl; still = tt; answered = λ l. tt; says = λ f k. tt }, (λ k. refl)))
