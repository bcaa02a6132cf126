use Rattle.std.proofs.Common.{◌≡◌, rules}
use Rattle.plan.specs.Yield.{yield_rule}
use Rattle.plan.proofs.Integers.{over_integers}
use Rattle.plan.proofs.yields.yield_rule.Goals as goal

pub returns-clause-integers : goal.returns-clause-integers
returns-clause-integers c =
    let a = c.args in
    let sums : c.is_some_and.result ≡ yield_rule a.blocks a.pages a.offered a.held a.alpha = search rules in
    over_integers _ _ _ _ _ _ sums
