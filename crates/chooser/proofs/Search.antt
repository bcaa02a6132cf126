-- A search upwards for the first block that is not below the average.
use Rattle.std.proofs.Common.{◌≡◌, ℕ, ◌+◌, ◌-◌, ◌*◌, ◌<◌, ◌≤◌, ltb, List, length, get_or, drop, Some, None, Option, sum, MatchOption, sym, ap, ◌∙◌, arith, lt-ltb, length-drop}
use Rattle.std.proofs.lemmas.List.{get_or-drop}
use Rattle.std.proofs.lemmas.List.Sums.{prefix_len_is}
use Rattle.std.proofs.lemmas.Bool.{cond-true, cond-false, le-ltb}
use Rattle.chooser.specs.Counts.{below_average, next_from, first_from}

module _ (dead : List ℕ) (from : ℕ) where
  -- all blocks from `from` on, up to another, lie below the average
  abbrev Low : ℕ → Type 0
  Low end = (block : ℕ) → from ≤ block → block < end → get_or dead block 0 * length dead < sum dead

  over : (n : ℕ) → n ≤ length dead - from → Low (from + n) → (n < length dead - from → sum dead ≤ get_or dead (from + n) 0 * length dead) → next_from dead from ≡ from + n
  over n within low stops =
      ap (λ m. from + m) (prefix_len_is (below_average dead) (drop from dead) n 0 (omega (arith, length-drop from dead))
      (λ k short. ap (below_average dead) (get_or-drop from dead k 0) ∙ lt-ltb _ _ (low (from + k) (omega arith) (omega arith)))
      (λ short. ap (below_average dead) (get_or-drop from dead n 0) ∙ le-ltb _ _ (stops (omega (arith, length-drop from dead)))))

  -- what a search tells
  pub searched : (found : Option ℕ) → MatchOption found (Low (length dead)) (λ block. (from ≤ block) × (block < length dead) × (sum dead ≤ get_or dead block 0 * length dead) × Low block) → found ≡ first_from dead from
  searched None low =
      let next = over (length dead - from) (omega arith) (λ block up short. low block up (omega arith)) (λ short. absurd (omega arith)) in
      sym (cond-false (ltb (next_from dead from) (length dead)) (Some (next_from dead from)) None (le-ltb _ _ (omega arith)))
  searched (Some block) one =
      let on : from + (block - from) ≡ block = omega (arith, one.0) in
      let next = over (block - from) (omega (arith, one.1)) (λ other up short. one.3 other up (omega arith)) (λ short. rw on one.2) ∙ on in
      ap Some (sym next) ∙ sym (cond-true (ltb (next_from dead from) (length dead)) (Some (next_from dead from)) None (lt-ltb _ _ (omega (arith, one.1))))
