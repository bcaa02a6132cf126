use Rattle.std.proofs.Common.{rules, ◌≡◌, ◌+◌}
use Rattle.ledger.specs.Books.{with_seat, with_pool}
use Rattle.ledger.specs.Of.{books_of}
use Rattle.ledger.proofs.Ends.{back, turned_put}
use Rattle.ledger.proofs.Facts.{fair_of}
use Rattle.ledger.proofs.Kept.{end_keeps}
use Rattle.ledger.proofs.Puts.{put_as_with}
use Rattle.ledger.proofs.ledger.Ledger.end.Goals as goal

pub invariant_of-self : goal.invariant_of-self
invariant_of-self c =
    let l = c.args.self.now in
    let pool : l.pool + c.if-leaves.back ≡ l.pool + back l.frame c.in-Ok.found = search rules in
    record { fair = ∣ put_as_with l c.args.seat c.from.ensures c.turned.ensures pool (turned_put l c.in-Ok.ensures.found) ∣₁ }

pub returns-clause-tokens : goal.returns-clause-tokens
returns-clause-tokens c = end_keeps {c = with_pool (with_seat (books_of c.args.self.now) c.from.result c.turned.result) (c.args.self.now.pool + c.if-leaves.back)} (fair_of c.args.self.now) c.args.seat (search rules)
