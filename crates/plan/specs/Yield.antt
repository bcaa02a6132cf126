-- The yield rule: a chip with this much room always has a block that is worth emptying.
--
-- N, π         blocks of the chip, pages of a block
-- M            page numbers offered
-- H            the most tokens that can be out when a block is chosen
-- α            the yield: how many pages a run of the collector wins back
-- YieldRule    the rule with every subtraction moved across, so that it speaks of sums alone
-- yield_rule   the same as a test
-- IntegerRule  N·π − M − H − (α − 1) > (α − 1)·N, over the integers
use Rattle.std.specs.Prelude.{ℕ, ◌+◌, ◌*◌, ◌<◌, Bool, pos, ◌-ℤ◌, ◌*ℤ◌, ◌<ℤ◌, nat_lt}

abbrev pub YieldRule : ℕ → ℕ → ℕ → ℕ → ℕ → Type 0
YieldRule N π M H α = M + H + α + α * N < N * π + N + 1

abbrev pub yield_rule : ℕ → ℕ → ℕ → ℕ → ℕ → Bool
yield_rule N π M H α = nat_lt (M + H + α + α * N) (N * π + N + 1)

abbrev pub IntegerRule : ℕ → ℕ → ℕ → ℕ → ℕ → Type 0
IntegerRule N π M H α = ((pos α -ℤ pos 1) *ℤ pos N) <ℤ ((((pos N *ℤ pos π) -ℤ pos M) -ℤ pos H) -ℤ (pos α -ℤ pos 1))
