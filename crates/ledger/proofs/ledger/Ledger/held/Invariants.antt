use Rattle.std.proofs.Common.{◌≡◌, ◌*◌, ◌≤◌, take}
use Rattle.ledger.specs.Books.{held}
use Rattle.ledger.proofs.ledger.Ledger.held.Given as goal

abbrev pub invariant-loop-seat : goal.invariant-loop-seat
invariant-loop-seat l = (l.sum ≡ held (take l.seat-index l.self.seats)) × (l.sum ≤ l.seat-index * 33824)
