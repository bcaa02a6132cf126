-- What is true of a store and of the history of its calls, and how a call that leaves chip and tables alone keeps it.
--
-- OpenInv       an open store is sound, and seats, map and pages follow from the history
-- Inv           that, or a store that is shut and has refused every call
-- Plain         an entry that says nothing of pages
use Rattle.chip.specs.Meaning.{Meaning}
use Rattle.std.proofs.Common.{◌≡◌, ℕ, ◌<◌, Bool, true, false, ◌∷◌, length, Some, None, Ok, Err, MatchBool, Option, Result, sym, refl, ap, ◌∙◌, subst, arith}
use Rattle.ledger.specs.declared.frame.Frame.{Frame}
use Rattle.ledger.specs.declared.seat.Seat.{Seat}
use Rattle.ledger.specs.declared.refusal.Refusal.{Refusal}
use Rattle.ledger.specs.declared.refusal.Refusal.TheVariants.{NotOpen}
use Rattle.ledger.specs.Books.{Books, seat_of, answer, unless}
use Rattle.ledger.specs.Of.{books_of}
use Rattle.ledger.specs.Settled.{Settled}
use Rattle.ledger.proofs.Facts.{fair_of}
use Rattle.history.specs.History.{Entry, History}
use Rattle.history.specs.Promise.{is_call, ShutEntry, ShutPromise}
use Rattle.history.specs.Work.{Still}
use Rattle.history.specs.Moves.{Step, Answered}
use Rattle.history.specs.Joined.{OnPages}
use Rattle.history.specs.Follows.{Follows}
use Rattle.history.proofs.Follows.{call_follows}
use Rattle.pages.specs.Tied.{maps_of}
use Rattle.store.specs.State.{Standing}
use Rattle.store.specs.State.{SoundAt, OpenSound, Sound}
use Rattle.store.specs.Effects.{if_open, ledger_asks, SameButBooks, Same, Booked}
use Rattle.store.proofs.Booking.{sound_open, open_sound}

pub record Plain (e : Entry) : Type 0 where
  pub call : is_call e ≡ true
  pub still : Still e
  pub answered : (l : ℕ → Seat) → Answered e l
  pub says : (f : Frame) (h : History) → OnPages f e h

module _ {C H : Type 0} {means : C → Meaning} where
  abbrev pub FollowsFrom : History → Standing means H → Type 0
  FollowsFrom h s = Follows s.ledger.frame h (λ i. seat_of (books_of s.ledger) i) (maps_of s.tables) s.chip.pages

  pub record OpenInv (h : History) (s : Standing means H) : Type 0 where
    pub sound : OpenSound s
    pub follows : FollowsFrom h s

  abbrev pub Inv : History → Standing means H → Type 0
  Inv h s = MatchBool s.is_open (OpenInv h s) (ShutPromise h)

  pub inv_open : (h : History) (s : Standing means H) → s.is_open ≡ true → Inv h s → OpenInv h s
  inv_open h s is inv = subst (λ o. MatchBool o (OpenInv h s) (ShutPromise h)) is inv

  pub inv_shut : (h : History) (s : Standing means H) → s.is_open ≡ false → Inv h s → ShutPromise h
  inv_shut h s is inv = subst (λ o. MatchBool o (OpenInv h s) (ShutPromise h)) is inv

  pub open_inv : (h : History) (s : Standing means H) → s.is_open ≡ true → OpenInv h s → Inv h s
  open_inv h s is inv = subst (λ o. MatchBool o (OpenInv h s) (ShutPromise h)) (sym is) inv

  pub shut_inv : (h : History) (s : Standing means H) → s.is_open ≡ false → ShutPromise h → Inv h s
  shut_inv h s is inv = subst (λ o. MatchBool o (OpenInv h s) (ShutPromise h)) (sym is) inv

  -- the ledger keeps these at all times
  pub eight_seats : (s : Standing means H) → length (books_of s.ledger).seats ≡ 8
  eight_seats s = (fair_of s.ledger).eight

  pub some_pages : (s : Standing means H) → 0 < s.ledger.frame.pages_per_block
  some_pages s = let low = (fair_of s.ledger).yields in let high = (fair_of s.ledger).yields_within in omega arith

  -- what follows is of frame, map and pages alone
  pub follows_along : (h : History) (s t : Standing means H) → t.ledger.frame ≡ s.ledger.frame → SameButBooks s t
      → Follows s.ledger.frame h (λ i. seat_of (books_of t.ledger) i) (maps_of s.tables) s.chip.pages → FollowsFrom h t
  follows_along h s t frame rest follows =
      subst (λ f. Follows f h (λ i. seat_of (books_of t.ledger) i) (maps_of t.tables) t.chip.pages) (sym frame)
      (subst (λ m. Follows s.ledger.frame h (λ i. seat_of (books_of t.ledger) i) (maps_of t.tables) m.pages) (sym rest.chip)
      (subst (λ x. Follows s.ledger.frame h (λ i. seat_of (books_of t.ledger) i) (maps_of x) s.chip.pages) (sym rest.tables) follows))

  -- ---- a call that touches the ledger alone

  module _ (h : History) (s t : Standing means H) where
    -- by the books after it
    pub call_open : (e : Entry) (after : Books) → s.is_open ≡ true → SameButBooks s t → books_of t.ledger ≡ after → after.frame ≡ s.ledger.frame → Sound t
        → is_call e ≡ true → Still e → Answered e (λ i. seat_of (books_of s.ledger) i) → OnPages s.ledger.frame e h
        → ((k : ℕ) → Step s.ledger.frame k e (seat_of (books_of s.ledger) k) (seat_of after k))
        → OpenInv h s → Inv (e ∷ h) t
    call_open e after is rest books frame sound call still answered says step inv =
        let still_open = rest.is_open ∙ is in
        open_inv (e ∷ h) t still_open (record {
          sound = sound_open t still_open sound;
          follows = follows_along (e ∷ h) s t (ap (λ b. b.frame) books ∙ frame) rest
              (call_follows inv.follows e (λ i. seat_of (books_of t.ledger) i) call still answered says
              (subst (λ b. (k : ℕ) → Step s.ledger.frame k e (seat_of (books_of s.ledger) k) (seat_of b k)) (sym books) step));
        })

    pub shut_call : (e : Entry) → s.is_open ≡ false → SameButBooks s t → ShutEntry e → Inv h s → Inv (e ∷ h) t
    shut_call e is rest refused inv = shut_inv (e ∷ h) t (rest.is_open ∙ is) (refused, inv_shut h s is inv)

    module _ {X : Type 0} (x : X) (entry : Result X Refusal → Entry) (after : Books) (frame : after.frame ≡ s.ledger.frame) where
      booked_by : (q : Option Refusal) (r : Result X Refusal) → r ≡ answer q x → s.is_open ≡ true → SameButBooks s t → books_of t.ledger ≡ unless q after (books_of s.ledger) → Sound t
          → (q ≡ None → Plain (entry (Ok x)) × ((k : ℕ) → Step s.ledger.frame k (entry (Ok x)) (seat_of (books_of s.ledger) k) (seat_of after k)))
          → ((e : Refusal) → q ≡ Some e → Plain (entry (Err e)) × ((k : ℕ) → Step s.ledger.frame k (entry (Err e)) (seat_of (books_of s.ledger) k) (seat_of (books_of s.ledger) k)))
          → OpenInv h s → Inv (entry r ∷ h) t
      booked_by None r told is rest books sound granted refused inv =
          let p = granted refl in
          subst (λ y. Inv (entry y ∷ h) t) (sym told)
          (call_open (entry (Ok x)) after is rest books frame sound p.0.call p.0.still (p.0.answered _) (p.0.says s.ledger.frame h) p.1 inv)
      booked_by (Some e) r told is rest books sound granted refused inv =
          let p = refused e refl in
          subst (λ y. Inv (entry y ∷ h) t) (sym told)
          (call_open (entry (Err e)) (books_of s.ledger) is rest books refl sound p.0.call p.0.still (p.0.answered _) (p.0.says s.ledger.frame h) p.1 inv)

      booked_either : (o : Bool) → s.is_open ≡ o → (q : Option Refusal) (r : Result X Refusal) → r ≡ answer (if_open o q) x → SameButBooks s t
          → books_of t.ledger ≡ unless (if_open o q) after (books_of s.ledger) → (Sound s → Sound t)
          → ShutEntry (entry (Err NotOpen))
          → (q ≡ None → Plain (entry (Ok x)) × ((k : ℕ) → Step s.ledger.frame k (entry (Ok x)) (seat_of (books_of s.ledger) k) (seat_of after k)))
          → ((e : Refusal) → q ≡ Some e → Plain (entry (Err e)) × ((k : ℕ) → Step s.ledger.frame k (entry (Err e)) (seat_of (books_of s.ledger) k) (seat_of (books_of s.ledger) k)))
          → Inv h s → Inv (entry r ∷ h) t
      booked_either true is q r told rest books sound shut granted refused inv =
          let here = inv_open h s is inv in
          booked_by q r told is rest books (sound (open_sound s is here.sound)) granted refused here
      booked_either false is q r told rest books sound shut granted refused inv =
          subst (λ y. Inv (entry y ∷ h) t) (sym told) (shut_call (entry (Err NotOpen)) is rest shut inv)

      pub booked_inv : (q : Option Refusal) (r : Result X Refusal) → r ≡ answer (ledger_asks s q) x → Booked s q after t
          → ShutEntry (entry (Err NotOpen))
          → (q ≡ None → Plain (entry (Ok x)) × ((k : ℕ) → Step s.ledger.frame k (entry (Ok x)) (seat_of (books_of s.ledger) k) (seat_of after k)))
          → ((e : Refusal) → q ≡ Some e → Plain (entry (Err e)) × ((k : ℕ) → Step s.ledger.frame k (entry (Err e)) (seat_of (books_of s.ledger) k) (seat_of (books_of s.ledger) k)))
          → Inv h s → Inv (entry r ∷ h) t
      booked_inv q r told b shut granted refused inv =
          booked_either s.is_open refl q r told b.rest b.books b.sound shut granted refused inv

  -- ---- a call that changes nothing

  pub same_sound : (s t : Standing means H) → Same s t → OpenSound s → OpenSound t
  same_sound s t same sound =
      record {
        at = subst (λ m. SoundAt m (books_of t.ledger) t.tables) (sym same.rest.chip)
            (subst (λ l. SoundAt s.chip (books_of l) t.tables) (sym same.ledger)
            (subst (λ x. SoundAt s.chip (books_of s.ledger) x) (sym same.rest.tables) sound.at));
        settled = subst (λ l. Settled (books_of l)) (sym same.ledger) sound.settled;
      }

  pub same_inv : (h : History) (s t : Standing means H) (e : Entry) → s.is_open ≡ true → Same s t → OpenInv h s → FollowsFrom (e ∷ h) s → Inv (e ∷ h) t
  same_inv h s t e is same inv follows =
      open_inv (e ∷ h) t (same.rest.is_open ∙ is) (record {
        sound = same_sound s t same inv.sound;
        follows = follows_along (e ∷ h) s t (ap (λ l. l.frame) same.ledger) same.rest
            (subst (λ l. Follows s.ledger.frame (e ∷ h) (λ i. seat_of (books_of l) i) (maps_of s.tables) s.chip.pages) (sym same.ledger) follows);
      })
