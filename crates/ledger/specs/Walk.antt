-- A tick's walk over the seats.
--
-- walked      the seats once a tick has passed the first so many of them
use Rattle.std.specs.Prelude.{ℕ, zero, suc, List, [], ◌∷◌}
use Rattle.ledger.specs.declared.seat.Seat.{Seat}
use Rattle.ledger.specs.Seats.{passed}

abbrev pub walked : ℕ → ℕ → List Seat → List Seat
walked α zero xs = xs
walked α (suc n) [] = []
walked α (suc n) (x ∷ xs) = passed α x ∷ walked α n xs
