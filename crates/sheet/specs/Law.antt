-- What a sheet of plans tells its reader, who reads it back as a script.
--
-- Writes       a word is digits, and they write a number
-- Asks         a line asks for a plan: its three words are the numbers α, p and w, each in its range
-- Answered     a line that asks is answered by the three numbers of a plan of what it asks for, and any other by `?`
-- Answers      each line has its answer, in order, and there is no further answer
use Rattle.std.specs.Prelude.{◌≡◌, ℕ, ◌<◌, true, List, [], ◌∷◌, length, Some}
use Rattle.plan.specs.Plan.{in_range, PlanLaw}
use Rattle.plan.specs.declared.numbers.Plan.{Plan}
use Rattle.script.specs.Numbers.{all_digits, number_of, read_on}

pub record Writes (word : List ℕ) (n : ℕ) : Type 0 where
  pub some : 0 < length word
  pub digits : all_digits word ≡ true
  pub value : read_on 0 word ≡ n

pub record Asks (line : List (List ℕ)) (α p w : ℕ) : Type 0 where
  pub first : List ℕ
  pub second : List ℕ
  pub third : List ℕ
  pub three : line ≡ first ∷ (second ∷ (third ∷ []))
  pub yield : number_of first ≡ Some α
  pub period : number_of second ≡ Some p
  pub writes : number_of third ≡ Some w
  pub ranged : in_range α p w ≡ true

pub data Answered (line answer : List (List ℕ)) : Type 0 where
  by_plan : (α p w : ℕ) (plan : Plan) (first second third : List ℕ) → Asks line α p w → PlanLaw α p w plan → answer ≡ first ∷ (second ∷ (third ∷ [])) → Writes first plan.meta_period → Writes second plan.writes → Writes third plan.runs → Answered line answer
  by_mark : ((α p w : ℕ) → Asks line α p w → ⊥) → answer ≡ (63 ∷ []) ∷ [] → Answered line answer

abbrev pub Answers : List (List (List ℕ)) → List (List (List ℕ)) → Type 0
Answers [] [] = Unit {0}
Answers [] (answer ∷ answers) = ⊥
Answers (line ∷ lines) [] = ⊥
Answers (line ∷ lines) (answer ∷ answers) = Answered line answer × Answers lines answers
