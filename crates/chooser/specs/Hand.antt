-- The hand.
--
-- round        the counts in the order in which a hand that begins at a block meets them: upwards, and round
-- passed_over  how many blocks it meets before the first that is not below the average
-- first_round  that block
-- Passes       the hand passes over fewer blocks than there are, and each of them lies below the average
-- hand_from    where the hand begins: where it stands, or 0 where that is past the list's end
-- hand_names   the block that the hand names; 0 on a list that no chooser has to answer
-- hand_stands  where the hand stands afterwards: after the block named, or as before
use Rattle.std.specs.Prelude.{ℕ, ◌+◌, ◌*◌, ◌%◌, ◌<◌, cond, List, ◌++◌, length, take, drop, sum, nat_lt, slice_index}
use Rattle.std.specs.List.{prefix_len}
use Rattle.chooser.specs.Counts.{below_average}
use Rattle.chooser.specs.Law.{askable}

abbrev pub round : List ℕ → ℕ → List ℕ
round dead from = drop from dead ++ take from dead

abbrev pub passed_over : List ℕ → ℕ → ℕ
passed_over dead from = prefix_len (below_average dead) (round dead from)

abbrev pub first_round : List ℕ → ℕ → ℕ
first_round dead from = (from + passed_over dead from) % length dead

pub record Passes (dead : List ℕ) (from : ℕ) : Type 0 where
  pub ends : passed_over dead from < length dead
  pub below : (k : ℕ) → k < passed_over dead from → slice_index dead ((from + k) % length dead) * length dead < sum dead

abbrev pub hand_from : List ℕ → ℕ → ℕ
hand_from dead stands = cond (nat_lt stands (length dead)) stands 0

abbrev pub hand_names : List ℕ → ℕ → ℕ
hand_names dead stands = cond (askable dead) (first_round dead (hand_from dead stands)) 0

abbrev pub hand_stands : List ℕ → ℕ → ℕ
hand_stands dead stands = cond (askable dead) (hand_names dead stands + 1) stands
