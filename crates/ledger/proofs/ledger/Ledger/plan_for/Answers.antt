use Rattle.std.proofs.Common.{◌≡◌, Some, sym, ◌∙◌, arith}
use Rattle.plan.specs.Plan.{planned}
use Rattle.ledger.proofs.Admits.{Sized, planned_sized}
use Rattle.ledger.proofs.ledger.Ledger.plan_for.Goals as goal
use Rattle.ledger.proofs.ledger.Ledger.plan_for.Goals.{In_ok-plan}

as_planned : (c : In_ok-plan) → planned c.args.self.now.frame.alpha c.args.job.period c.args.job.writes ≡ Some c.in_ok-plan.plan
as_planned c = sym c.of.ensures.plan ∙ c.in_ok-plan.ensures.ok_part

sized : (c : In_ok-plan) → Sized c.args.self.now.frame.alpha c.args.job.period c.args.job.writes c.in_ok-plan.plan
sized c = planned_sized _ _ _ c.in_ok-plan.plan (as_planned c) (c.of.ensures.law c.in_ok-plan.plan c.in_ok-plan.ensures.ok_part)

pub rule_with-requires-clause-few : goal.rule_with-requires-clause-few
rule_with-requires-clause-few c = (sized (goal.at.rule_with-requires-clause-few c).In_ok-plan).runs_few

pub returns-clause-affordable : goal.returns-clause-affordable
returns-clause-affordable c =
    let s = sized (goal.at.returns-clause-affordable c).In_ok-plan in
    let law = c.of.ensures.law c.in_ok-plan.plan c.in_ok-plan.ensures.ok_part in
    record {
      lasts = law.lasts;
      writes_some = law.writes_some;
      writes_few = s.writes_few;
      runs_few = s.runs_few;
      won_back = law.won_back;
      in_pool = omega arith;
      rule = sym c.if-not-rule_with.ensures;
    }
