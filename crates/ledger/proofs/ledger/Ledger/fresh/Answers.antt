use Rattle.std.proofs.Common.{rules}
use Rattle.ledger.proofs.ledger.Ledger.fresh.Goals as goal

pub invariant_of-result : goal.invariant_of-result
invariant_of-result c = record { fair = ∣ search rules ∣₁ }
