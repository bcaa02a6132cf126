-- The plan of a seat.
--
-- α            the yield: how many pages a run of the collector wins back
-- p, w         the job: w page writes in each period of p ticks
-- in_range     the numbers that have a plan: α 1 to 32, p 1 to 60,000, w 1 to 1,024
-- ⌈_/_⌉        division rounded up
-- plan_of      the plan: meta-period σ, writes W and runs k
-- planned      the plan of numbers in range, and nothing of any others
-- PlanLaw      what makes three numbers a plan of that job at that yield
use Rattle.std.specs.Prelude.{◌≡◌, ℕ, ◌+◌, ◌-◌, ◌*◌, ◌/◌, ◌<◌, ◌≤◌, Bool, cond, ◌&&◌, Some, None, Option, nat_le, nat_lt}
use Rattle.plan.specs.declared.numbers.Plan.{Plan}

abbrev pub in_range : ℕ → ℕ → ℕ → Bool
in_range α p w = (nat_le 1 α && nat_le α 32) && ((nat_le 1 p && nat_le p 60000) && (nat_le 1 w && nat_le w 1024))

abbrev pub ⌈◌/◌⌉ : ℕ → ℕ → ℕ
⌈ a / b ⌉ = (a + (b - 1)) / b

-- more writes in a period than a run wins back: several runs to one period
abbrev pub many_runs : ℕ → ℕ → ℕ → Plan
many_runs α p w = record { meta_period = p; writes = w; runs = ⌈ w / α ⌉ }

-- no more: as many whole periods as one run pays for
abbrev pub one_run : ℕ → ℕ → ℕ → Plan
one_run α p w = record { meta_period = p * (α / w); writes = w * (α / w); runs = 1 }

abbrev pub plan_of : ℕ → ℕ → ℕ → Plan
plan_of α p w = cond (nat_lt α w) (many_runs α p w) (one_run α p w)

abbrev pub planned : ℕ → ℕ → ℕ → Option Plan
planned α p w = cond (in_range α p w) (Some (plan_of α p w)) None

pub record PlanLaw (α p w : ℕ) (plan : Plan) : Type 0 where
  -- the rate that the job asked for is kept
  pub rate : plan.writes * p ≡ w * plan.meta_period
  pub lasts : 1 ≤ plan.meta_period
  pub writes_some : 1 ≤ plan.writes
  -- what a meta-period may write, its runs win back
  pub won_back : plan.writes ≤ plan.runs * α
  -- with one run fewer they would not
  pub none_to_spare : plan.runs * α < plan.writes + α
  -- where one run pays for a period, no further whole period fits
  pub full : w ≤ α → α < plan.writes + w
  pub single : w ≤ α → plan.runs ≡ 1
