use Rattle.std.proofs.Common.{rules}
use Rattle.ledger.specs.Of.{books_of}
use Rattle.ledger.proofs.Facts.{fair_of}
use Rattle.ledger.proofs.Settles.{below_owing}
use Rattle.ledger.proofs.ledger.Ledger.runs_due.Goals as goal

pub returns-clause-below : goal.returns-clause-below
returns-clause-below c =
    let l = c.args.self.now in
    λ some but. below_owing (books_of l) c.args.seat (fair_of l) but (search rules)
