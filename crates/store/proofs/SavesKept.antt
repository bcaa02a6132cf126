-- A save, stored or refused, keeps what is true of a store and its history.
use Rattle.chip.specs.Meaning.{Meaning}
use Rattle.std.proofs.lemmas.Grind.{common_steps}
use Rattle.std.proofs.Common.{◌≡◌, ℕ, ◌<◌, ◌≤◌, Bool, true, false, cond, ltb, leb, List, ◌∷◌, length, Some, None, Ok, Err, Option, sym, refl, ap, ◌∙◌, subst, arith, rules}
use Rattle.std.proofs.lemmas.Bool.{cond-false}
use Rattle.ledger.specs.declared.refusal.Refusal.{Refusal}
use Rattle.ledger.specs.declared.refusal.Refusal.TheVariants.{NoSuchNumber, DataTooLong}
use Rattle.ledger.specs.Books.{Books, seat_of, ask, asks_return, returned}
use Rattle.ledger.specs.Of.{books_of}
use Rattle.ledger.specs.Refusals.{number}
use Rattle.history.specs.History.{hands_back, save, stored, did, refused, History}
use Rattle.history.specs.Moves.{Step}
use Rattle.history.specs.Promise.{OutOfRange}
use Rattle.history.specs.Follows.{Follows}
use Rattle.history.proofs.Asked.{keeps_permit, stored_step, save_back_step, save_refused_step}
use Rattle.history.proofs.Follows.{save_follows}
use Rattle.pages.specs.Tied.{maps_of}
use Rattle.store.specs.State.{Standing}
use Rattle.store.specs.State.{Sound}
use Rattle.store.specs.Effects.{and_then, asks_save, SameButBooks, Stored, Saves}
use Rattle.store.specs.Calls.{entry_save}
use Rattle.store.proofs.Booking.{sound_open}
use Rattle.store.proofs.Invariant.{Inv, OpenInv, inv_open, open_inv, call_open, eight_seats}

-- what a save has to bring
abbrev brings : Books → ℕ → ℕ → Option Refusal
brings b n size = ask (ltb n b.frame.numbers) NoSuchNumber (ask (leb size b.frame.page_size) DataTooLong None)

pub record Savable (b : Books) (i n size : ℕ) : Type 0 where
  pub permit : asks_return b i ≡ None
  pub known : n < b.frame.numbers
  pub fits : size ≤ b.frame.page_size

pub savable : (o : Bool) (b : Books) (i n size : ℕ) → asks_save o b i n size ≡ None → (o ≡ true) × Savable b i n size
savable o b i n size none = search rules

-- a save with a permit that is refused
pub record Back (b : Books) (n : ℕ) (d : List ℕ) (e : Refusal) : Type 0 where
  pub back : hands_back (number e) ≡ true
  pub outside : OutOfRange b.frame n d (number e)

sent_back : (b : Books) (n : ℕ) (d : List ℕ) (e : Refusal) (t : Bool) → ltb n b.frame.numbers ≡ t → ask t NoSuchNumber (ask (leb (length d) b.frame.page_size) DataTooLong None) ≡ Some e → Back b n d e
sent_back b n d e true is some = search rules
sent_back b n d e false is some = search rules

-- a refusal that hands nothing back says nothing of number and length
not_for_range : (b : Books) (n : ℕ) (d : List ℕ) (e : Refusal) → hands_back (number e) ≡ false → OutOfRange b.frame n d (number e)
not_for_range b n d e keeps = search rules

module _ {C H : Type 0} {means : C → Meaning} (s t : Standing means H) (i n : ℕ) (d : List ℕ) where
  pub stored_inv : (h h' : History) (tries : ℕ) → asks_save s.is_open (books_of s.ledger) i n (length d) ≡ None → Stored s i n d tries h h' t
      → Inv h s → Inv (entry_save i n d (Ok tries) ∷ h') t
  stored_inv h h' tries none e inv =
      let b = books_of s.ledger in
      let can = savable s.is_open b i n (length d) none in
      let still_open = e.is_open ∙ can.0 in
      let here = inv_open h s can.0 inv in
      let past = did i (stored n d tries) ∷ h' in
      let seats = λ (k : ℕ). seat_of (books_of t.ledger) k in
      let step : (k : ℕ) → Step s.ledger.frame k (did i (stored n d tries)) (seat_of b k) (seats k) =
      subst (λ (c : Books). (k : ℕ) → Step s.ledger.frame k (did i (stored n d tries)) (seat_of b k) (seat_of c k)) (sym e.books)
      (stored_step b (eight_seats s) i n d tries can.1.permit) in
      open_inv past t still_open (record {
        sound = sound_open t still_open e.sound;
        follows = subst (λ f. Follows f past seats (maps_of t.tables) t.chip.pages) (sym (ap (λ (c : Books). c.frame) e.books))
            (save_follows here.follows seats i n d can.1.known can.1.fits e.wrote step);
      })

  module _ (h : History) (e : Refusal) (rest : SameButBooks s t) where
    -- with a permit or without one
    unsaved : (q : Option Refusal) → asks_return (books_of s.ledger) i ≡ q → and_then q (brings (books_of s.ledger) n (length d)) ≡ Some e → s.is_open ≡ true
        → books_of t.ledger ≡ cond (hands_back (number e)) (returned (books_of s.ledger) i) (books_of s.ledger) → Sound t
        → OpenInv h s → Inv (refused (save i n d) (number e) ∷ h) t
    unsaved (Some x) asks some is books sound inv =
        let b = books_of s.ledger in
        let same : x ≡ e = cc in
        let why : asks_return b i ≡ Some e = asks ∙ ap Some same in
        let keeps = keeps_permit b (eight_seats s) i e why in
        call_open h s t (refused (save i n d) (number e)) b is rest (books ∙ cond-false (hands_back (number e)) _ _ keeps) refl sound refl tt tt (not_for_range b n d e keeps)
        (save_refused_step b (eight_seats s) i n d e why) inv
    unsaved None asks some is books sound inv =
        let b = books_of s.ledger in
        let sent = sent_back b n d e (ltb n b.frame.numbers) refl some in
        call_open h s t (refused (save i n d) (number e)) (returned b i) is rest (books ∙ ap (λ (x : Bool). cond x (returned b i) b) sent.back) refl sound refl tt tt sent.outside
        (save_back_step b (eight_seats s) i n d (number e) sent.back asks) inv

    unsaved_either : (o : Bool) → s.is_open ≡ o → asks_save o (books_of s.ledger) i n (length d) ≡ Some e
        → books_of t.ledger ≡ cond (hands_back (number e)) (returned (books_of s.ledger) i) (books_of s.ledger) → (Sound s → Sound t)
        → Inv h s → Inv (refused (save i n d) (number e) ∷ h) t
    unsaved_either true is some books sound inv = grind (arith, common_steps, unsaved)
    unsaved_either false is some books sound inv = search rules

  pub no_store_inv : (h : History) (e : Refusal) → Saves s i n d (Err e) t → Inv h s → Inv (entry_save i n d (Err e) ∷ h) t
  no_store_inv h e x inv = grind (arith, common_steps, unsaved_either)
