use Rattle.std.proofs.Common.{◌≡◌, ◌*◌, ◌≤◌, take}
use Rattle.ledger.specs.Books.{extra}
use Rattle.ledger.proofs.ledger.Ledger.extra.Given as goal

abbrev pub invariant-loop-seat : goal.invariant-loop-seat
invariant-loop-seat l = (l.sum ≡ extra l.self.frame.alpha (take l.seat-index l.self.seats)) × (l.sum ≤ l.seat-index * 32736)
