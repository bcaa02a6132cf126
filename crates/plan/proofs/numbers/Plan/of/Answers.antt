use Rattle.std.proofs.Common.{arith}
use Rattle.std.proofs.lemmas.Bool.Decides.{nat_tests}
use Rattle.plan.proofs.Law.{rounded_up, planned_law}
use Rattle.plan.proofs.numbers.Plan.of.Goals as goal

pub returns-then-writes-alpha : goal.returns-then-writes-alpha
returns-then-writes-alpha c =
    let up = rounded_up c.args.job.writes c.args.alpha (grind arith) in
    record { plan = grind (arith, nat_tests, up); law = λ plan is. planned_law _ _ _ plan (grind (arith, nat_tests, up, is)) }

pub returns : goal.returns
returns c = record { plan = grind (arith, nat_tests); law = λ plan is. planned_law _ _ _ plan (grind (arith, nat_tests, is)) }
