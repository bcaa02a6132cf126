-- Ten worked figures.
--
-- numbers      the plan with meta-period σ, writes W and runs k
-- Figures      eight plans, from α, p and w, and the yield rule on either side of its edge
use Rattle.std.specs.Prelude.{◌≡◌, ℕ, true, false, Some, Option}
use Rattle.plan.specs.Plan.{planned}
use Rattle.plan.specs.Yield.{yield_rule}
use Rattle.plan.specs.declared.numbers.Plan.{Plan}

abbrev pub numbers : ℕ → ℕ → ℕ → Option Plan
numbers σ W k = Some (record { meta_period = σ; writes = W; runs = k })

pub record Figures : Type 0 where
  pub eight_periods : planned 16 20 2 ≡ numbers 160 16 1
  pub three_periods : planned 16 200 5 ≡ numbers 600 15 1
  pub six_periods : planned 13 20 2 ≡ numbers 120 12 1
  pub one_period : planned 8 200 5 ≡ numbers 200 5 1
  pub two_runs : planned 16 20 30 ≡ numbers 20 30 2
  pub at_the_yield : planned 16 20 16 ≡ numbers 20 16 1
  pub past_the_yield : planned 16 20 17 ≡ numbers 20 17 2
  pub the_least : planned 1 1 1 ≡ numbers 1 1 1
  pub room_enough : yield_rule 4 4 6 4 2 ≡ true
  pub one_short : yield_rule 4 4 6 5 2 ≡ false
