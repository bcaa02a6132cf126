-- A search upwards, and again from 0 where it finds none, is a search round.
use Rattle.std.proofs.Common.{◌≡◌, ℕ, ◌+◌, ◌-◌, ◌*◌, ◌%◌, ◌<◌, ◌≤◌, ltb, List, length, get_or, take, drop, Bool, eqb, ◌++◌, Some, None, sum, sym, ap, ◌∙◌, subst, ⊎_elim, mod-eq_of_lt, arith, length-drop, ltb-true, lt-ltb}
use native.Mathlib.Nat.{add-mod_left}
use Rattle.std.specs.List.{prefix_len}
use Rattle.std.proofs.lemmas.List.{get_or_append_left, get_or-append_right, get_or-drop, get_or-take, length-take-le, take-append-drop}
use Rattle.std.proofs.lemmas.List.Sums.{prefix_len-le-length, prefix_len_passes}
use Rattle.std.proofs.lemmas.List.Folds.{prefix_len-append}
use Rattle.std.proofs.lemmas.Bool.{cases_lt, cond-true, cond-false, eq-eqb, ne_eqb}
use Rattle.std.proofs.lemmas.Option.{cond_some, none-some}
use Rattle.chooser.specs.Counts.{below_average, next_from, first_from}
use Rattle.chooser.specs.Hand.{Passes, round, passed_over, first_round}
use Rattle.chooser.specs.Law.{Yields}
use Rattle.chooser.proofs.Reaching.{next_yields, some_reaches}

-- what a search tells that found a block
found_one : (dead : List ℕ) (from block : ℕ) → Some block ≡ first_from dead from → (next_from dead from < length dead) × (block ≡ next_from dead from)
found_one dead from block is =
    let next = next_from dead from in
    let found = cond_some (ltb next (length dead)) next block (sym is) in
    (ltb-true next (length dead) found.0, sym found.1)

found_short : (dead : List ℕ) (from : ℕ) → next_from dead from < length dead → first_from dead from ≡ Some (next_from dead from)
found_short dead from short =
    let next = next_from dead from in
    cond-true (ltb next (length dead)) (Some next) None (lt-ltb next (length dead) short)

-- and one that found none
found_none : (dead : List ℕ) (from : ℕ) → None ≡ first_from dead from → length dead ≤ next_from dead from
found_none dead from is =
    ⊎_elim (λ short. absurd (none-some (next_from dead from) (is ∙ found_short dead from short))) (λ long. long)
    (cases_lt (next_from dead from) (length dead))

-- a search from 0 finds one always
pub found_always : (dead : List ℕ) → 1 ≤ length dead → first_from dead 0 ≡ Some (next_from dead 0)
found_always dead some = found_short dead 0 (some_reaches dead some)

-- a front that ends within its list is one of the whole, and one that is its list goes on in what follows
module _ (p : ℕ → Bool) (xs ys : List ℕ) where
  leading_within : prefix_len p xs < length xs → prefix_len p (xs ++ ys) ≡ prefix_len p xs
  leading_within short = prefix_len-append p xs ys ∙ cond-false (eqb (prefix_len p xs) (length xs)) _ _ (ne_eqb _ _ (λ same. omega arith))

  leading_through : length xs ≤ prefix_len p xs → prefix_len p (xs ++ ys) ≡ length xs + prefix_len p ys
  leading_through long = prefix_len-append p xs ys ∙ cond-true (eqb (prefix_len p xs) (length xs)) _ _ (eq-eqb _ _ (omega (arith, prefix_len-le-length p xs)))

module _ (dead : List ℕ) (from : ℕ) (there : from < length dead) where
  -- found going up
  over_up : next_from dead from < length dead → from + passed_over dead from ≡ next_from dead from
  over_up short =
      let p = below_average dead in
      ap (λ n. from + n) (leading_within p (drop from dead) (take from dead) (omega (arith, length-drop from dead)))

  round_up : next_from dead from < length dead → next_from dead from ≡ first_round dead from
  round_up short = sym (ap (λ n. n % length dead) (over_up short) ∙ mod-eq_of_lt short)

  -- found after the list's end
  over_again : length dead ≤ next_from dead from → next_from dead 0 < length dead → (from + passed_over dead from ≡ length dead + next_from dead 0) × (next_from dead 0 < from)
  over_again none short =
      let p = below_average dead in
      let up = drop from dead in
      let low = take from dead in
      let long-up = length-drop from dead in
      let long-low = length-take-le from dead (omega arith) in
      let over = leading_through p up low (omega (arith, long-up)) in
      let whole = ap (prefix_len p) (take-append-drop from dead) in
      let all_up = prefix_len-le-length p up in
      let found : prefix_len p low < from = ⊎_elim (λ h. h) (λ h. let through = leading_through p low up (omega (arith, long-low)) in absurd (omega (arith, through, whole, long-low, long-up, all_up))) (cases_lt (prefix_len p low) from) in
      let within = leading_within p low up (omega (arith, long-low)) in
      (omega (arith, over, long-up, within, whole), omega (arith, within, whole))

  round_again : length dead ≤ next_from dead from → next_from dead 0 < length dead → next_from dead 0 ≡ first_round dead from
  round_again none short =
      sym (ap (λ n. n % length dead) (over_again none short).0 ∙ add-mod_left (length dead) (next_from dead 0) ∙ mod-eq_of_lt short)

  pub met_up : (block : ℕ) → Some block ≡ first_from dead from → (block ≡ first_round dead from) × Yields dead block
  met_up block is =
      let one = found_one dead from block is in
      (one.1 ∙ round_up one.0, subst (Yields dead) (sym one.1) (next_yields dead from one.0))

  pub met_again : (block : ℕ) → None ≡ first_from dead from → Some block ≡ first_from dead 0 → (block ≡ first_round dead from) × Yields dead block
  met_again block none is =
      let one = found_one dead 0 block is in
      (one.1 ∙ round_again (found_none dead from none) one.0, subst (Yields dead) (sym one.1) (next_yields dead 0 one.0))

  -- one round suffices
  round_ends : 1 ≤ length dead → passed_over dead from < length dead
  round_ends some =
      ⊎_elim (λ short. let over = over_up short in omega arith)
      (λ none. let over = over_again none (some_reaches dead some) in omega arith)
      (cases_lt (next_from dead from) (length dead))

  -- the block that the hand meets after k others
  met_after : (k : ℕ) → k < length dead → get_or (round dead from) k 0 ≡ get_or dead ((from + k) % length dead) 0
  met_after k few =
      let n = length dead in
      let up = drop from dead in
      let low = take from dead in
      let long-up = length-drop from dead in
      ⊎_elim (λ short. get_or_append_left up low 0 k (omega arith) ∙ get_or-drop from dead k 0 ∙ ap (λ i. get_or dead i 0) (sym (mod-eq_of_lt short)))
      (λ past.
      let at = k - (n - from) in
      let is : from + k ≡ n + at = omega arith in
      let turned = ap (λ i. i % n) is ∙ add-mod_left n at ∙ mod-eq_of_lt (omega arith) in
      get_or-append_right up low (n - from) k 0 long-up (omega arith) ∙ get_or-take from dead at 0 (omega arith) ∙ ap (λ i. get_or dead i 0) (sym turned))
      (cases_lt (from + k) n)

  pub passes : 1 ≤ length dead → Passes dead from
  passes some =
      let ends = round_ends some in
      record {
        ends = ends;
        below = λ k early. ltb-true (get_or dead ((from + k) % length dead) 0 * length dead) (sum dead) (let met = met_after k (omega arith) in let low = prefix_len_passes (below_average dead) (round dead from) k 0 early in cc);
      }
