use Rattle.std.proofs.Common.{rules}
use Rattle.ledger.proofs.Puts.{put_as, one_later_put}
use Rattle.ledger.specs.Books.{with_seat}
use Rattle.ledger.specs.Of.{books_of}
use Rattle.ledger.proofs.Facts.{fair_of}
use Rattle.ledger.proofs.Kept.{step_keeps}
use Rattle.ledger.proofs.ledger.Ledger.enter.Goals as goal

pub invariant_of-self : goal.invariant_of-self
invariant_of-self c =
    let l = c.args.self.now in
    let found = c.in-Ok.ensures.found in
    record { fair = ∣ put_as l found c.from.ensures c.one_later.ensures (one_later_put l found c.if-found.true) ∣₁ }

pub returns-then-found-clause-tokens : goal.returns-then-found-clause-tokens
returns-then-found-clause-tokens c = step_keeps {c = with_seat (books_of c.args.self.now) c.from.result c.one_later.result} (fair_of c.args.self.now) c.args.seat (search rules)
