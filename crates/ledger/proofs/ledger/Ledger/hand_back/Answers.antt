use Rattle.std.proofs.Common.{rules}
use Rattle.ledger.proofs.Puts.{put_as, gave_back_put}
use Rattle.ledger.proofs.Facts.{fair_of}
use Rattle.ledger.proofs.Kept.{return_keeps}
use Rattle.ledger.proofs.ledger.Ledger.hand_back.Goals as goal

pub invariant_of-self : goal.invariant_of-self
invariant_of-self c =
    let l = c.args.self.now in
    let told = c.in_ok-found.ensures in
    record { fair = ∣ put_as l told.found c.from.ensures c.gave_back.ensures (gave_back_put l told.found told.out) ∣₁ }

pub returns-clause-law : goal.returns-clause-law
returns-clause-law c = return_keeps (fair_of c.args.self.now) c.args.seat (search rules)
