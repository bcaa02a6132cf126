-- A part of a list is replaced by another of the same length: what a window of the list then shows.
use Rattle.std.proofs.Common.{◌≡◌, ℕ, ◌+◌, ◌<◌, ◌≤◌, List, ◌++◌, length, get_or, take, drop, arith, rules}
use Rattle.std.proofs.lemmas.List.{length-take, length-append, length-drop, places, same_lists}

module _ {X : Type 0} (xs part : List X) (at w : ℕ) (fits : at + w ≤ length xs) (full : length part ≡ w) where
  abbrev patched : List X
  patched = take at xs ++ (part ++ drop (at + w) xs)

  pub length_patched : length patched ≡ length xs
  length_patched = simp (length-append, length-drop, length-take) (omega arith)

  pub byte_outside : (k : ℕ) (d : X) → (k < at → get_or patched k d ≡ get_or xs k d) × (at + w ≤ k → get_or patched k d ≡ get_or xs k d)
  byte_outside k d = ((λ h. grind (arith, places)), (λ h. grind (arith, places)))

  pub window_below : (j n : ℕ) → j + n ≤ at → take n (drop j patched) ≡ take n (drop j xs)
  window_below j n h = same_lists _ _ (search (rules, places)) (λ k d l. grind (arith, places))

  pub window_above : (j n : ℕ) → at + w ≤ j → take n (drop j patched) ≡ take n (drop j xs)
  window_above j n h = same_lists _ _ (search (rules, places)) (λ k d l. grind (arith, places))

  pub window_inside : (j n : ℕ) → j + n ≤ w → take n (drop (at + j) patched) ≡ take n (drop j part)
  window_inside j n h = same_lists _ _ (search (rules, places)) (λ k d l. grind (arith, places))
