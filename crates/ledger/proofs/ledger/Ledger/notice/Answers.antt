use Rattle.std.proofs.Common.{rules}
use Rattle.ledger.proofs.Puts.{put_as, warned_put}
use Rattle.ledger.proofs.Facts.{fair_of}
use Rattle.ledger.proofs.Kept.{notice_keeps}
use Rattle.ledger.proofs.ledger.Ledger.notice.Goals as goal

pub invariant_of-self : goal.invariant_of-self
invariant_of-self c =
    let l = c.args.self.now in
    let found = c.in_ok-found.ensures.found in
    record { fair = ∣ put_as l found c.from.ensures c.warned.ensures (warned_put l found c.if-found-ne0.false) ∣₁ }

pub returns-clause-law : goal.returns-clause-law
returns-clause-law c = notice_keeps (fair_of c.args.self.now) c.args.seat (search rules)
