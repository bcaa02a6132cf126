-- Which lists a chooser has to answer.
use Rattle.std.proofs.Common.{◌≡◌, ℕ, zero, suc, ◌<◌, ◌≤◌, Bool, true, false, ◌&&◌, leb, List, [], ◌∷◌, length, get_or, MatchBool, refl, sym, arith, le-leb, leb-true}
use borrow.Author.Tests.{lt-leb}
use Rattle.std.specs.List.{AllWithin, HoldsAt}
use Rattle.std.proofs.lemmas.Bool.{and_parts, and_from, and_left, and_right}
use Rattle.chooser.specs.Law.{askable, all_at_most}

-- a count above the most
pub one_above : (most : ℕ) (dead : List ℕ) (block : ℕ) → block < length dead → most < get_or dead block 0 → all_at_most most dead ≡ false
one_above most [] block there above = absurd (omega arith)
one_above most (x ∷ xs) zero there above = and_left (leb x most) (all_at_most most xs) (lt-leb x most above)
one_above most (x ∷ xs) (suc block) there above = and_right (leb x most) (all_at_most most xs) (one_above most xs block (omega arith) above)

-- no count above the most
pub none_above : (most : ℕ) (dead : List ℕ) → ((block : ℕ) → block < length dead → get_or dead block 0 ≤ most) → all_at_most most dead ≡ true
none_above most [] each = refl
none_above most (x ∷ xs) each =
    and_from (leb x most) (all_at_most most xs) (le-leb x most (each 0 (omega arith)))
    (none_above most xs (λ block there. each (suc block) (omega arith)))

pub askable_from : (dead : List ℕ) → 1 ≤ length dead → length dead ≤ 64 → ((block : ℕ) → block < length dead → get_or dead block 0 ≤ 32) → askable dead ≡ true
askable_from dead some few each =
    and_from (leb 1 (length dead)) (leb (length dead) 64 && all_at_most 32 dead) (le-leb 1 (length dead) some)
    (and_from (leb (length dead) 64) (all_at_most 32 dead) (le-leb (length dead) 64 few) (none_above 32 dead each))

-- what is known of a list that a chooser has to answer
pub record Asked (dead : List ℕ) : Type 0 where
  pub some : 1 ≤ length dead
  pub few : length dead ≤ 64
  pub each : (block : ℕ) → get_or dead block 0 ≤ 32

each_at_most : (most : ℕ) (dead : List ℕ) → all_at_most most dead ≡ true → (block : ℕ) → get_or dead block 0 ≤ most
each_at_most most [] all block = omega arith
each_at_most most (x ∷ xs) all zero = leb-true x most (and_parts (leb x most) (all_at_most most xs) all).0
each_at_most most (x ∷ xs) all (suc block) =
    each_at_most most xs (and_parts (leb x most) (all_at_most most xs) all).1 block

pub asked : (dead : List ℕ) → askable dead ≡ true → Asked dead
asked dead yes' =
    let outer = and_parts (leb 1 (length dead)) (leb (length dead) 64 && all_at_most 32 dead) yes' in
    let inner = and_parts (leb (length dead) 64) (all_at_most 32 dead) outer.1 in
    record {
      some = leb-true 1 (length dead) outer.0;
      few = leb-true (length dead) 64 inner.0;
      each = each_at_most 32 dead inner.1;
    }

-- no chooser has to answer an empty list, a long one, or one with a count too high
pub not_empty : (dead : List ℕ) → length dead ≡ 0 → askable dead ≡ false
not_empty dead none = and_left (leb 1 (length dead)) (leb (length dead) 64 && all_at_most 32 dead) (lt-leb 1 (length dead) (omega arith))

-- what a test of all counts tells
pub tested : (most : ℕ) (dead : List ℕ) (small : Bool) → MatchBool small (AllWithin (λ x. x ≤ most) dead 0 (length dead)) ((block : ℕ) × (block < length dead) × HoldsAt (λ x. most < x) dead block) → small ≡ all_at_most most dead
tested most dead true all = sym (none_above most dead (λ block there. all block 0 (omega arith) there))
tested most dead false one = sym (one_above most dead one.0 one.1 (one.2 0))
