use Rattle.std.proofs.Common.{rules, arith}
use Rattle.ledger.proofs.Ends.{tokens_few}
use Rattle.ledger.proofs.Facts.{fair_of}
use Rattle.ledger.specs.Of.{books_of}
use Rattle.ledger.proofs.Tokens.{tokens_capped}
use Rattle.ledger.proofs.ledger.Ledger.tokens.Goals as goal

pub overflow_add-result : goal.overflow_add-result
overflow_add-result c = let b = fair_of c.args.self.now in let few = tokens_few b in search rules

pub overflow_add-result-2 : goal.overflow_add-result-2
overflow_add-result-2 c = let b = fair_of c.args.self.now in let few = tokens_few b in search rules

pub returns-clause-cap : goal.returns-clause-cap
returns-clause-cap c =
    let l = c.args.self.now in
    λ below. (let capped = tokens_capped (books_of l) (fair_of l) below in omega arith)
