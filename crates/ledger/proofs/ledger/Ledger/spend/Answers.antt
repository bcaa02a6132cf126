use Rattle.std.proofs.Common.{rules, Ok}
use Rattle.ledger.proofs.Puts.{put_as, saved_put}
use Rattle.ledger.proofs.Facts.{fair_of}
use Rattle.ledger.proofs.Kept.{spend_keeps}
use Rattle.ledger.proofs.ledger.Ledger.spend.Goals as goal

pub invariant_of-self : goal.invariant_of-self
invariant_of-self c =
    let l = c.args.self.now in
    let told = c.in_ok-found.ensures in
    record { fair = ∣ put_as l told.found c.from.ensures c.saved.ensures (saved_put l told.found told.out) ∣₁ }

pub returns-clause-law : goal.returns-clause-law
returns-clause-law c = spend_keeps (fair_of c.args.self.now) c.args.seat (Ok tt) (search rules) (search rules)
