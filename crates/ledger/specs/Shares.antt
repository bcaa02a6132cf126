-- What one seat has of each sum over the seats.
--
-- holds       the tokens of its account and of its collector
-- had         what it has had from the pool
-- adds        what it adds to the most tokens that can be out
use Rattle.std.specs.Prelude.{ℕ, ◌+◌, ◌-◌, ◌*◌, cond}
use Rattle.ledger.specs.declared.frame.Frame.{Frame}
use Rattle.ledger.specs.declared.seat.Seat.{Seat}
use Rattle.ledger.specs.Seats.{in_use}
use Rattle.ledger.specs.Books.{collector_share}

abbrev pub holds : Seat → ℕ
holds s = s.account + s.collector

abbrev pub had : Frame → Seat → ℕ
had f s = cond (in_use s) (s.plan.writes + collector_share f) 0

abbrev pub adds : ℕ → Seat → ℕ
adds α s = cond (in_use s) ((s.plan.runs - 1) * α) 0
