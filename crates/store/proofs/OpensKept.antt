-- An opening keeps what is true of a store and its history; and so does a tick of a store that is shut.
use Rattle.std.proofs.Common.{◌≡◌, ℕ, zero, suc, ◌+◌, ◌<◌, Bool, true, false, ◌&&◌, leb, List, ◌∷◌, get_or, replicate, Some, None, Ok, Err, Option, Result, sym, refl, ap, ◌∙◌, subst, arith}
use Rattle.chip.specs.Meaning.{Meaning}
use Rattle.plan.specs.Yield.{yield_rule}
use Rattle.ledger.specs.declared.seat.Status.TheVariants.{Empty}
use Rattle.ledger.specs.declared.refusal.Refusal.{Refusal}
use Rattle.ledger.specs.declared.refusal.Refusal.TheVariants.{AlreadyOpen, BlocksOutOfRange, NumbersOutOfRange, AlphaOutOfRange, YieldRuleFails}
use Rattle.ledger.specs.Seats.{nobody}
use Rattle.ledger.specs.Books.{Books, seat_of, ask}
use Rattle.ledger.specs.Of.{books_of}
use Rattle.ledger.specs.Refusals.{number}
use Rattle.history.specs.History.{opening, tick, opened, refused, History}
use Rattle.history.specs.Promise.{ShutPromise}
use Rattle.history.specs.Work.{erased_first}
use Rattle.history.specs.Follows.{Follows}
use Rattle.history.proofs.Follows.{opening_follows, reopening_follows}
use Rattle.pages.specs.Tied.{maps_of}
use Rattle.store.specs.State.{Standing}
use Rattle.store.specs.State.{frame_for, Sound}
use Rattle.store.specs.Effects.{asks_open, Opened, Opens, Same, Ticks}
use Rattle.store.specs.Calls.{entry_open, erases, entry_tick}
use Rattle.store.proofs.Booking.{sound_open}
use Rattle.store.proofs.Invariant.{Inv, inv_open, inv_shut, open_inv, shut_call, same_inv}

-- a list of one thing has it everywhere
filled : {X : Type 0} (x : X) (n i : ℕ) → get_or (replicate n x) i x ≡ x
filled x zero i = refl
filled x (suc n) zero = refl
filled x (suc n) (suc i) = filled x n i

-- a question that was answered "no", or the questions after it
pub question : (t : Bool) (e : Refusal) (rest : Option Refusal) (x : Refusal) (P : Refusal → Type 0) → ask t e rest ≡ Some x → P e → (rest ≡ Some x → P x) → P x
question true e rest x P is here later = later is
question false e rest x P is here later = subst P (cc) here

pub no_question : (x : Refusal) (P : Type 0) → None ≡ Some x → P
no_question x P is = let z : ◌≡◌ {A = ℕ} 0 1 = cc in absurd (omega arith)

-- a store that is shut refuses an opening for its numbers
refused_for : (m : Meaning) (numbers alpha pool : ℕ) (e : Refusal) → asks_open false m numbers alpha pool ≡ Some e → (1 < number e) × (number e < 6)
refused_for m numbers alpha pool e is =
    let P : Refusal → Type 0 = λ x. (1 < number x) × (number x < 6) in
    question (leb 2 m.blocks && leb m.blocks 64) BlocksOutOfRange _ e P is (omega arith, omega arith)
    (λ is. question (leb 1 numbers && leb numbers 1920) NumbersOutOfRange _ e P is (omega arith, omega arith)
    (λ is. question (leb 1 alpha && leb alpha m.per_block) AlphaOutOfRange _ e P is (omega arith, omega arith)
    (λ is. question (yield_rule m.blocks m.per_block numbers (pool + m.allowance) alpha) YieldRuleFails None e P is (omega arith, omega arith)
    (λ is. no_question e (P e) is))))

module _ {C H : Type 0} {means : C → Meaning} (h : History) (s t : Standing means H) where
  opened_follows : (numbers alpha pool : ℕ) → Opened s numbers alpha pool t → ShutPromise h
      → Follows t.ledger.frame (opened numbers alpha pool ∷ erased_first s.chip.blocks h) (λ i. seat_of (books_of t.ledger) i) (maps_of t.tables) t.chip.pages
  opened_follows numbers alpha pool o shut =
      let f = frame_for s.chip numbers alpha pool in
      let seats : (i : ℕ) → (seat_of (books_of t.ledger) i).status ≡ Empty =
      λ i. ap (λ (b : Books). (seat_of b i).status) o.books ∙ ap (λ x. x.status) (filled nobody 8 i) in
      let unmapped : (n : ℕ) → maps_of t.tables n ≡ None =
      λ n. ap (λ (x : List (Option ℕ)). get_or x n None) o.tables.map ∙ filled None 1920 n in
      let past = opened numbers alpha pool ∷ erased_first s.chip.blocks h in
      subst (λ g. Follows g past (λ i. seat_of (books_of t.ledger) i) (maps_of t.tables) t.chip.pages) (sym (ap (λ (b : Books). b.frame) o.books))
      (subst (λ m. Follows f past (λ i. seat_of (books_of t.ledger) i) (maps_of t.tables) m.pages) (sym o.chip)
      (opening_follows f h (λ i. seat_of (books_of t.ledger) i) (maps_of t.tables) shut seats unmapped))

  open_ok : (numbers alpha pool : ℕ) (u : Unit {0}) (o : Bool) → s.is_open ≡ o → asks_open o s.chip numbers alpha pool ≡ None → Opened s numbers alpha pool t → Sound t
      → Inv h s → Inv (opened numbers alpha pool ∷ erased_first s.chip.blocks h) t
  open_ok numbers alpha pool u true is none o sound inv = let z : ◌≡◌ {A = ℕ} 0 1 = cc in absurd (omega arith)
  open_ok numbers alpha pool u false is none o sound inv =
      open_inv _ t o.is_open (record { sound = sound_open t o.is_open sound; follows = opened_follows numbers alpha pool o (inv_shut h s is inv) })

  open_err : (numbers alpha pool : ℕ) (e : Refusal) (o : Bool) → s.is_open ≡ o → asks_open o s.chip numbers alpha pool ≡ Some e → Same s t
      → Inv h s → Inv (refused (opening numbers alpha pool) (number e) ∷ h) t
  open_err numbers alpha pool e true is some same inv =
      let here = inv_open h s is inv in
      let why : AlreadyOpen ≡ e = cc in
      subst (λ x. Inv (refused (opening numbers alpha pool) (number x) ∷ h) t) why
      (same_inv h s t (refused (opening numbers alpha pool) 1) is same here (reopening_follows here.follows numbers alpha pool))
  open_err numbers alpha pool e false is some same inv =
      shut_call h s t (refused (opening numbers alpha pool) (number e)) is same.rest (refused_for s.chip numbers alpha pool e some) inv

  pub open_call_inv : (numbers alpha pool : ℕ) (r : Result (Unit {0}) Refusal) → Opens s numbers alpha pool r t
      → Inv h s → Inv (entry_open numbers alpha pool r ∷ erases s.chip.blocks r h) t
  open_call_inv numbers alpha pool (Ok u) e inv = open_ok numbers alpha pool u s.is_open refl e.0 e.1 e.2 inv
  open_call_inv numbers alpha pool (Err x) e inv = open_err numbers alpha pool x s.is_open refl e.0 e.1 inv

  -- a tick is refused by a store that is shut
  pub no_tick_inv : (e : Refusal) → Ticks s (Err e) t → Inv h s → Inv (entry_tick (Err e) ∷ h) t
  no_tick_inv e x inv = shut_call h s t (refused tick (number e)) x.0 x.2.rest (ap number x.1) inv
