-- Some block has at least the average.
use Rattle.std.proofs.Common.{◌≡◌, ℕ, ◌-◌, ◌*◌, ◌/◌, ◌<◌, ◌≤◌, false, List, length, get_or, drop, sum, ⊎_elim, mul_comm, le-div_iff_mul-le, div-mul-le_self, arith, length-drop, ltb-false, ltb-true}
use Rattle.std.specs.List.{prefix_len}
use Rattle.std.proofs.ByRecursion.{All-from_get_or, sum_by_le}
use Rattle.std.proofs.lemmas.List.{get_or-drop}
use Rattle.std.proofs.lemmas.List.Sums.{prefix_len_passes, prefix_len_stops}
use Rattle.std.proofs.lemmas.Bool.{cases_lt}
use Rattle.chooser.specs.Counts.{below_average, next_from}
use Rattle.chooser.specs.Law.{Yields}

module _ (dead : List ℕ) where
  -- not all counts can lie below the average
  not_all_below : 1 ≤ length dead → ((block : ℕ) → block < length dead → get_or dead block 0 * length dead < sum dead) → ⊥
  not_all_below some each =
      let n = length dead in
      let most = (sum dead - 1) / n in
      let low = sum_by_le (λ x. x) most dead (All-from_get_or (λ x. x ≤ most) dead 0 (λ block there. (le-div_iff_mul-le some).1 (let h = each block there in omega arith))) in
      omega (arith, low, div-mul-le_self (sum dead - 1) n, mul_comm n most, each 0 some)

  pub some_reaches : 1 ≤ length dead → next_from dead 0 < length dead
  some_reaches some =
      ⊎_elim (λ short. short)
      (λ long. absurd (not_all_below some (λ block there.
      ltb-true (get_or dead block 0 * length dead) (sum dead) (prefix_len_passes (below_average dead) dead block 0 (omega arith)))))
      (cases_lt (next_from dead 0) (length dead))

  -- the block that a search upwards ends at yields
  pub next_yields : (from : ℕ) → next_from dead from < length dead → Yields dead (next_from dead from)
  next_yields from short =
      let ahead = drop from dead in
      let count = get_or dead (next_from dead from) 0 in
      let stops = prefix_len_stops (below_average dead) ahead 0 (omega (arith, length-drop from dead)) in
      let here = get_or-drop from dead (prefix_len (below_average dead) ahead) 0 in
      let reaches : below_average dead count ≡ false = cc in
      record { there = short; worth = ltb-false (count * length dead) (sum dead) reaches }
