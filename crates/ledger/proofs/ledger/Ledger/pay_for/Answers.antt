use Rattle.std.proofs.Common.{rules}
use Rattle.ledger.proofs.Facts.{fair_of}
use Rattle.ledger.proofs.ledger.Ledger.pay_for.Goals as goal

pub invariant_of-self : goal.invariant_of-self
invariant_of-self c = let b = fair_of c.args.self.now in record { fair = ∣ search rules ∣₁ }
