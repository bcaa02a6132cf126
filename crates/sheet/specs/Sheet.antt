-- A sheet of jobs, and the sheet of plans that answers it.
--
-- most_bytes   how long a sheet may be
-- three_of     the words of a line that has three
-- and_then     goes on with a number, where there is one
-- plan_for     the plan of a line: its three words are the numbers α, p and w, each in its range
-- plan_line    what is printed of a line: σ, W and k in decimal with a blank between, or a question mark
-- plan_lines   what is printed of several, a line feed after each
-- sheet_of     what is printed of a whole sheet; a sheet that is too long is answered by one line with `!`
use Rattle.std.specs.Prelude.{ℕ, cond, List, [], ◌∷◌, ◌++◌, length, Some, None, decimal, Option, nat_lt}
use Rattle.plan.specs.Plan.{planned}
use Rattle.plan.specs.declared.numbers.Plan.{Plan}
use Rattle.script.specs.Numbers.{number_of}
use Rattle.script.specs.Text.{blank, line_feed, script_of}

abbrev pub most_bytes : ℕ
most_bytes = 32768

abbrev pub three_of : List (List ℕ) → Option (List ℕ × List ℕ × List ℕ)
three_of [] = None
three_of (a ∷ []) = None
three_of (a ∷ (b ∷ [])) = None
three_of (a ∷ (b ∷ (c ∷ []))) = Some (a, b, c)
three_of (a ∷ (b ∷ (c ∷ (d ∷ more)))) = None

abbrev pub and_then : {X : Type 0} → Option X → (X → Option Plan) → Option Plan
and_then None f = None
and_then (Some x) f = f x

abbrev pub plan_for : List (List ℕ) → Option Plan
plan_for words = and_then (three_of words) (λ three. and_then (number_of three.0) (λ α. and_then (number_of three.1) (λ p. and_then (number_of three.2) (λ w. planned α p w))))

abbrev pub plan_line : Option Plan → List ℕ
plan_line None = 63 ∷ []
plan_line (Some plan) = decimal plan.meta_period ++ (blank ∷ (decimal plan.writes ++ (blank ∷ decimal plan.runs)))

abbrev pub plan_lines : List (List (List ℕ)) → List ℕ
plan_lines [] = []
plan_lines (line ∷ lines) = plan_line (plan_for line) ++ (line_feed ∷ plan_lines lines)

abbrev pub sheet_of : List ℕ → List ℕ
sheet_of input = cond (nat_lt most_bytes (length input)) (33 ∷ (line_feed ∷ [])) (plan_lines (script_of input))
