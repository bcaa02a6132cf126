-- How a seat's clock and its runs stand between the calls, and inside a tick.
--
-- SeatSettled    a seat in use is inside its meta-period, and the runs that are due have been made
-- Settled        so is every seat: this holds between the calls
-- SettledBut     so is every seat but the one that a tick is at
-- Below          no seat in use has made all runs of its meta-period: this holds whenever a block is chosen
use Rattle.std.specs.Prelude.{◌≡◌, ℕ, ◌<◌, true, ◌≢◌}
use Rattle.ledger.specs.declared.seat.Seat.{Seat}
use Rattle.ledger.specs.Seats.{in_use, due}
use Rattle.ledger.specs.Books.{Books, seat_of}

abbrev pub SeatSettled : Seat → Type 0
SeatSettled s = in_use s ≡ true → (s.elapsed < s.plan.meta_period) × (s.runs ≡ due s)

abbrev pub Settled : Books → Type 0
Settled b = (i : ℕ) → i < 8 → SeatSettled (seat_of b i)

abbrev pub SettledBut : ℕ → Books → Type 0
SettledBut at b = (i : ℕ) → i < 8 → (i ≢ at) → SeatSettled (seat_of b i)

abbrev pub Below : Books → Type 0
Below b = (i : ℕ) → i < 8 → in_use (seat_of b i) ≡ true → (seat_of b i).runs < (seat_of b i).plan.runs
