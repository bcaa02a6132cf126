-- What a list of counts comes to.
--
-- total_of       the sum of a list that a chooser has to answer; none of any other
-- Fullest        no block has more dead pages than this one
-- below_average  a count that, times the number of blocks, does not reach the sum
-- next_from      going up from a block, the first that is not below the average; the number of blocks where there is none
-- first_from     the same, as an option
use Rattle.std.specs.Prelude.{ℕ, ◌+◌, ◌*◌, ◌<◌, ◌≤◌, Bool, cond, List, length, drop, Some, None, sum, Option, nat_lt, slice_index}
use Rattle.std.specs.List.{prefix_len}
use Rattle.chooser.specs.Law.{askable}

abbrev pub total_of : List ℕ → Option ℕ
total_of dead = cond (askable dead) (Some (sum dead)) None

pub record Fullest (dead : List ℕ) (block : ℕ) : Type 0 where
  pub there : block < length dead
  pub most : (other : ℕ) → other < length dead → slice_index dead other ≤ slice_index dead block

abbrev pub below_average : List ℕ → ℕ → Bool
below_average dead count = nat_lt (count * length dead) (sum dead)

abbrev pub next_from : List ℕ → ℕ → ℕ
next_from dead from = from + prefix_len (below_average dead) (drop from dead)

abbrev pub first_from : List ℕ → ℕ → Option ℕ
first_from dead from = cond (nat_lt (next_from dead from) (length dead)) (Some (next_from dead from)) None
