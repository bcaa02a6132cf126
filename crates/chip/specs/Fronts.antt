-- Which chip of a pair a page or a block lies in, and its number there.
--
-- front_of    the shape of the first chip, if the two fit together
-- Splits      numbers below the first chip's count lie in it, and the others in the second
-- PageIn      where a page lies; `BlockIn` where a block lies
use Rattle.std.specs.Prelude.{◌≡◌, ℕ, ◌-◌, ◌<◌, ◌≤◌, true, false, cond, length, Ok, Err, Result}
use Rattle.chip.specs.declared.pair.Half.{Half}
use Rattle.chip.specs.declared.pair.Half.TheVariants.{First, Second}
use Rattle.chip.specs.declared.words.Refusal.{Refusal}
use Rattle.chip.specs.declared.words.Refusal.TheVariants.{NotThere}
use Rattle.chip.specs.declared.words.Shape.{Shape}
use Rattle.chip.specs.Meaning.{Meaning}
use Rattle.chip.specs.Calls.{shape_of}
use Rattle.chip.specs.Pairs.{joinable}

abbrev pub front_of : Meaning → Meaning → Result Shape Refusal
front_of m n = cond (joinable m n) (Ok (shape_of m)) (Err NotThere)

abbrev pub Splits : ℕ → ℕ → Half → Type 0
Splits q first (First p) = (q < first) × (p ≡ q)
Splits q first (Second p) = (first ≤ q) × (p ≡ q - first)

abbrev pub PageIn : Meaning → Meaning → ℕ → Result Half Refusal → Type 0
PageIn m n q (Ok half) = (joinable m n ≡ true) × Splits q (length m.pages) half
PageIn m n q (Err e) = (joinable m n ≡ false) × (e ≡ NotThere)

abbrev pub BlockIn : Meaning → Meaning → ℕ → Result Half Refusal → Type 0
BlockIn m n b (Ok half) = (joinable m n ≡ true) × Splits b m.blocks half
BlockIn m n b (Err e) = (joinable m n ≡ false) × (e ≡ NotThere)
