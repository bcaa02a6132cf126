use Rattle.std.proofs.Common.{rules, ◌≡◌, ◌<◌, false, get_or, ap, ◌∙◌, arith}
use Rattle.ledger.specs.Seats.{nobody, in_use, seated}
use Rattle.ledger.proofs.Admits.{seated_put}
use Rattle.ledger.proofs.Facts.{fair_of}
use Rattle.ledger.proofs.Kept.{admit_keeps}
use Rattle.ledger.proofs.Puts.{put_as_with}
use Rattle.ledger.proofs.ledger.Ledger.admit.Goals as goal

pub invariant_of-self : goal.invariant_of-self
invariant_of-self c =
    let l = c.args.self.now in
    let plan = c.in_ok-plan.plan in
    let share = c.collector_share-share.ensures in
    let there : c.args.seat < 8 = search rules in
    let empty : in_use (get_or l.seats c.args.seat nobody) ≡ false = search rules in
    record { fair = ∣ put_as_with l c.args.seat c.from-2.ensures (c.admitted.ensures ∙ ap (seated plan) share) (omega arith) (seated_put l c.args.seat plan there empty c.in_ok-plan.ensures.affordable) ∣₁ }

pub returns-clause-law : goal.returns-clause-law
returns-clause-law c = admit_keeps (fair_of c.args.self.now) c.args.seat c.args.job.period c.args.job.writes (search rules)
