-- What the yield law gives, and what gives it.
use Rattle.std.proofs.Common.{◌≡◌, ℕ, ◌-◌, ◌<◌, ◌≤◌, Bool, true, false, List, length, get_or, MatchBool, sym, refl, subst, mul_comm, lt_of_mul-lt-mul_right, arith}
use Rattle.std.proofs.ByRecursion.{All-from_get_or}
use Rattle.std.proofs.ByRecursion.{sum_by_le}
use Rattle.chooser.specs.Counts.{Fullest}
use Rattle.chooser.specs.Law.{Answers, Worth, Yields, askable}

-- the maximum times the number of blocks reaches the sum
pub fullest_yields : (dead : List ℕ) (block : ℕ) → Fullest dead block → Yields dead block
fullest_yields dead block f =
    let most = get_or dead block 0 in
    let low = sum_by_le (λ x. x) most dead (All-from_get_or (λ x. x ≤ most) dead 0 f.most) in
    record { there = f.there; worth = omega (arith, low, mul_comm most (length dead)) }

-- a block that yields is worth emptying
pub yields_worth : (dead : List ℕ) (block : ℕ) → Yields dead block → Worth dead block
yields_worth dead block y = λ least some many.
    let more : least - 1 < get_or dead block 0 = lt_of_mul-lt-mul_right (length dead) (omega (arith, y.worth)) in
    omega arith

-- what a chooser answers to a list that it has to answer
pub answer_yields : {S : Type 0} (dead : List ℕ) (before : S) (block : ℕ) (after : S) → askable dead ≡ true → Answers dead before block after → Yields dead block
answer_yields dead before block after asked answer =
    subst (λ b. MatchBool b (Yields dead block) ((block ≡ 0) × (after ≡ before))) asked answer

pub answer_worth : {S : Type 0} (dead : List ℕ) (before : S) (block : ℕ) (after : S) → askable dead ≡ true → Answers dead before block after → Worth dead block
answer_worth dead before block after asked answer =
    yields_worth dead block (answer_yields dead before block after asked answer)

-- a block that yields answers a list that a chooser has to answer
pub yields_answer : {S : Type 0} (dead : List ℕ) (before : S) (block : ℕ) (after : S) → askable dead ≡ true → Yields dead block → Answers dead before block after
yields_answer dead before block after asked yields =
    subst (λ b. MatchBool b (Yields dead block) ((block ≡ 0) × (after ≡ before))) (sym asked) yields

-- the answer of a chooser that stays as it is: a block that yields, and 0 on a list that no chooser has to answer
pub stays_answer : {S : Type 0} (dead : List ℕ) (before : S) (block : ℕ) → (askable dead ≡ true → Yields dead block) → (askable dead ≡ false → block ≡ 0) → Answers dead before block before
stays_answer dead before block yields none = by (askable dead) refl
  where
    by : (v : Bool) → askable dead ≡ v → MatchBool v (Yields dead block) ((block ≡ 0) × (before ≡ before))
    by true is = yields is
    by false is = (none is, refl)
