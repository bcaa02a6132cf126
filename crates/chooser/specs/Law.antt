-- The yield law.
--
-- sum          of a list of counts
-- all_at_most  no count of a list is above a number
-- askable      a list that a chooser has to answer: 1 to 64 counts, each at most 32
-- Yields       the block named is there, and its count times the number of blocks reaches the sum
-- Answers      what a chooser may answer, and what it is after that: the law on a list that it has to answer; 0 on any
--              other, which leaves it as it was
-- Worth        with more than (least - 1) dead pages for each block, the block has at least `least`
use Rattle.std.specs.Prelude.{◌≡◌, ℕ, ◌-◌, ◌*◌, ◌<◌, ◌≤◌, Bool, true, ◌&&◌, List, [], ◌∷◌, length, MatchBool, sum, nat_le, slice_index}

abbrev pub all_at_most : ℕ → List ℕ → Bool
all_at_most most [] = true
all_at_most most (x ∷ xs) = nat_le x most && all_at_most most xs

abbrev pub askable : List ℕ → Bool
askable dead = nat_le 1 (length dead) && (nat_le (length dead) 64 && all_at_most 32 dead)

pub record Yields (dead : List ℕ) (block : ℕ) : Type 0 where
  pub there : block < length dead
  pub worth : sum dead ≤ slice_index dead block * length dead

abbrev pub Answers : {S : Type 0} → List ℕ → S → ℕ → S → Type 0
Answers dead before block after = MatchBool (askable dead) (Yields dead block) ((block ≡ 0) × (after ≡ before))

abbrev pub Worth : List ℕ → ℕ → Type 0
Worth dead block = (least : ℕ) → 1 ≤ least → (least - 1) * length dead < sum dead → least ≤ slice_index dead block
