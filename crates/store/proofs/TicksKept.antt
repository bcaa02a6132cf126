-- A tick keeps what is true of a store and its history.
use Rattle.chip.specs.Meaning.{Meaning}
use Rattle.std.proofs.Common.{◌≡◌, ℕ, List, ◌∷◌, get_or, Ok, sym, ap, ◌∙◌, subst, arith}
use Rattle.ledger.specs.declared.frame.Frame.{Frame}
use Rattle.ledger.specs.declared.seat.Seat.{Seat}
use Rattle.ledger.specs.Seats.{nobody, passed}
use Rattle.ledger.specs.Books.{seat_of}
use Rattle.ledger.specs.Of.{books_of}
use Rattle.history.specs.History.{History}
use Rattle.history.specs.Follows.{Follows}
use Rattle.history.proofs.Follows.{tick_begins, tick_follows}
use Rattle.pages.specs.Tied.{maps_of}
use Rattle.store.specs.State.{Standing}
use Rattle.store.specs.declared.ticked.Ticked.{Ticked}
use Rattle.store.specs.Effects.{desk_of, Passed}
use Rattle.store.specs.Calls.{entry_tick}
use Rattle.store.proofs.Booking.{sound_open}
use Rattle.store.proofs.Invariant.{Inv, inv_open, open_inv, eight_seats, some_pages}
use Rattle.store.proofs.WalksKept.{walked_at, walk_reached}

pub tick_inv : {C H : Type 0} {means : C → Meaning} (h h' : History) (s t : Standing means H) (k : Ticked) → Passed s k h h' t → Inv h s → Inv (entry_tick (Ok k) ∷ h') t
tick_inv h h' s t k e inv =
    let b = books_of s.ledger in
    let eight = eight_seats s in
    let here = inv_open h s e.open_before inv in
    let done = walk_reached b eight (desk_of h s) (some_pages s) (tick_begins here.follows) e.walk in
    let past = entry_tick (Ok k) ∷ h' in
    let seats = λ (i : ℕ). seat_of (books_of t.ledger) i in
    let step : (i : ℕ) → seats i ≡ passed b.frame.alpha (seat_of b i) =
    λ i. ap (λ (xs : List Seat). get_or xs i nobody) done.at.walked_to ∙ walked_at b.frame.alpha 8 b.seats (omega arith) i in
    open_inv past t e.is_open (record {
      sound = sound_open t e.is_open e.sound;
      follows = subst (λ (f : Frame). Follows f past seats (maps_of t.tables) t.chip.pages) (sym done.frame) (tick_follows done.doing k.runs seats done.at.made step);
    })
