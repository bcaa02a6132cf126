use Rattle.std.proofs.Common.{arith}
use Rattle.std.proofs.lemmas.Grind.{common_steps}
use Rattle.ledger.proofs.Facts.{fair_of}
use Rattle.ledger.proofs.ledger.Ledger.find.Goals as goal

pub returns-clause-found : goal.returns-clause-found
returns-clause-found c = let b = fair_of c.args.self.now in grind (arith, common_steps)
