-- A sheet of plans, read back, answers each line of the sheet of jobs. Assumes nothing.
use Rattle.std.proofs.Common.{◌≡◌, ℕ, ◌≤◌, ltb, List, [], ◌∷◌, ◌++◌, map, length, Some, None, decimal, Option, sym, refl, ap, ◌∙◌, subst, arith}
use Rattle.std.proofs.lemmas.Bool.{cond-false, le-ltb}
use Rattle.std.proofs.lemmas.Option.{cond_some, none-some}
use Rattle.plan.proofs.Law.{planned_law, Small, small_of}
use Rattle.plan.specs.Plan.{in_range, plan_of}
use Rattle.plan.specs.declared.numbers.Plan.{Plan}
use Rattle.script.specs.Law.{Clear}
use Rattle.script.specs.Numbers.{number_of}
use Rattle.script.specs.Text.{blank, line_feed, script_of, words_of}
use Rattle.sheet.proofs.Parts.{clear_digits, clear_joined, cut_last, cut_through, decimal_writes}
use Rattle.sheet.specs.Law.{Answered, Answers, Asks, by_mark, by_plan}
use Rattle.sheet.specs.Sheet.{and_then, most_bytes, plan_for, plan_line, plan_lines, sheet_of, three_of}

-- what is printed of a plan is one line, and answers
record Told (line : List (List ℕ)) (plan : Option Plan) : Type 0 where
  clear : Clear line_feed (plan_line plan)
  answered : Answered line (words_of (plan_line plan))

-- the three words of a plan that is printed
printed : (plan : Plan) → Small plan → words_of (plan_line (Some plan)) ≡ decimal plan.meta_period ∷ (decimal plan.writes ∷ (decimal plan.runs ∷ []))
printed plan small =
    let σ = decimal plan.meta_period in
    let W = decimal plan.writes in
    let k = decimal plan.runs in
    cut_through blank ([] ∷ []) σ (W ++ (blank ∷ k)) (clear_digits blank σ (omega arith) (decimal_writes plan.meta_period small.meta_period).digits)
    ∙ ap (λ ws. σ ∷ ws) (cut_through blank ([] ∷ []) W k (clear_digits blank W (omega arith) (decimal_writes plan.writes small.writes).digits)
    ∙ ap (λ ws. W ∷ ws) (cut_last blank k (clear_digits blank k (omega arith) (decimal_writes plan.runs small.runs).digits)))

one_line : (plan : Plan) → Small plan → Clear line_feed (plan_line (Some plan))
one_line plan small =
    let σ = decimal plan.meta_period in
    let W = decimal plan.writes in
    let k = decimal plan.runs in
    clear_joined line_feed σ (blank ∷ (W ++ (blank ∷ k))) (clear_digits line_feed σ (omega arith) (decimal_writes plan.meta_period small.meta_period).digits) (
      refl,
      clear_joined line_feed W (blank ∷ k) (clear_digits line_feed W (omega arith) (decimal_writes plan.writes small.writes).digits)
          (refl, clear_digits line_feed k (omega arith) (decimal_writes plan.runs small.runs).digits),
    )

-- a line that asks has the plan that it asks for
asked_plan : (line : List (List ℕ)) (α p w : ℕ) → Asks line α p w → plan_for line ≡ Some (plan_of α p w)
asked_plan line α p w asks = rw (asks.three, asks.yield, asks.period, asks.writes, asks.ranged) refl

-- what goes on to a plan began with something
goes_on : {X : Type 0} (o : Option X) (f : X → Option Plan) (plan : Plan) → and_then o f ≡ Some plan → (x : X) × (o ≡ Some x) × (f x ≡ Some plan)
goes_on None f plan e = absurd (none-some _ e)
goes_on (Some x) f plan e = (x, refl, e)

three_words : (line : List (List ℕ)) (t : List ℕ × List ℕ × List ℕ) → three_of line ≡ Some t → line ≡ t.0 ∷ (t.1 ∷ (t.2 ∷ []))
three_words [] t e = absurd (none-some _ e)
three_words (a ∷ []) t e = absurd (none-some _ e)
three_words (a ∷ (b ∷ [])) t e = absurd (none-some _ e)
three_words (a ∷ (b ∷ (c ∷ []))) t e = let same : t ≡ (a, b, c) = cc in rw same refl
three_words (a ∷ (b ∷ (c ∷ (d ∷ more)))) t e = absurd (none-some _ e)

-- any line, by the plan that it has
told : (line : List (List ℕ)) → Told line (plan_for line)
told line = by (plan_for line) refl
  where
    by : (plan : Option Plan) → plan_for line ≡ plan → Told line plan
    by None none = record { clear = (refl, tt); answered = by_mark (λ α p w asks. none-some _ (sym none ∙ asked_plan line α p w asks)) refl }
    by (Some plan) some =
        let words = goes_on (three_of line) _ plan some in
        let first = goes_on (number_of words.0.0) _ plan words.2 in
        let second = goes_on (number_of words.0.1) _ plan first.2 in
        let third = goes_on (number_of words.0.2) _ plan second.2 in
        let α = first.0 in
        let p = second.0 in
        let w = third.0 in
        let ranged = cond_some (in_range α p w) (plan_of α p w) plan third.2 in
        let small = subst Small ranged.1 (small_of α p w ranged.0) in
        record {
          clear = one_line plan small;
          answered = by_plan α p w plan _ _ _ (record { first = words.0.0; second = words.0.1; third = words.0.2; three = three_words line words.0 words.1; yield = first.1; period = second.1; writes = third.1; ranged = ranged.0 }) (planned_law α p w plan third.2) (printed plan small) (decimal_writes plan.meta_period small.meta_period) (decimal_writes plan.writes small.writes) (decimal_writes plan.runs small.runs);
        }

-- the lines printed, read back
pub answers : (lines : List (List (List ℕ))) → Answers lines (script_of (plan_lines lines))
answers [] = tt
answers (line ∷ lines) =
    let t = told line in
    let first = ap (map words_of) (cut_through line_feed [] (plan_line (plan_for line)) (plan_lines lines) t.clear) in
    subst (Answers (line ∷ lines)) (sym first) (t.answered, answers lines)

-- a sheet that is not too long
pub sheet_answers : (input out : List ℕ) → out ≡ sheet_of input → length input ≤ most_bytes → Answers (script_of input) (script_of out)
sheet_answers input out is short =
    let whole = is ∙ cond-false (ltb most_bytes (length input)) (33 ∷ (line_feed ∷ [])) (plan_lines (script_of input)) (le-ltb most_bytes (length input) short) in
    subst (λ bs. Answers (script_of input) (script_of bs)) (sym whole) (answers (script_of input))
