-- The gaps of a flawed chip: which of its accepted programs fail.
--
-- strikes       whether the next accepted program fails: the gap that counts is down to 1
-- worn          the gaps after an accepted program, the one that counts first
-- verdicts      what so many accepted programs in a row answer; `worn_by` the gaps that are then left
-- good_gaps     at most eight gaps, none of them 0
-- GapLaw        a gap g lets g - 1 accepted programs pass and fails the next; then the next gap counts
use Rattle.std.specs.Prelude.{◌≡◌, ℕ, zero, suc, ◌+◌, ◌-◌, Bool, true, false, cond, not, ◌&&◌, List, [], ◌∷◌, ◌++◌, length, replicate, nat_le, nat_lt}

abbrev pub strikes : List ℕ → Bool
strikes [] = false
strikes (g ∷ gs) = nat_le g 1

abbrev pub worn : List ℕ → List ℕ
worn [] = []
worn (g ∷ gs) = cond (nat_le g 1) gs ((g - 1) ∷ gs)

abbrev pub verdicts : ℕ → List ℕ → List Bool
verdicts zero gs = []
verdicts (suc n) gs = not (strikes gs) ∷ verdicts n (worn gs)

abbrev pub worn_by : ℕ → List ℕ → List ℕ
worn_by zero gs = gs
worn_by (suc n) gs = worn_by n (worn gs)

abbrev pub none_zero : List ℕ → Bool
none_zero [] = true
none_zero (g ∷ gs) = cond (nat_lt 0 g) (none_zero gs) false

abbrev pub good_gaps : List ℕ → Bool
good_gaps gs = nat_le (length gs) 8 && none_zero gs

pub record GapLaw : Type 0 where
  pub one_gap : (g : ℕ) (gs : List ℕ) → verdicts (g + 1) ((g + 1) ∷ gs) ≡ replicate g true ++ false ∷ []
  pub next_gap : (g : ℕ) (gs : List ℕ) → worn_by (g + 1) ((g + 1) ∷ gs) ≡ gs
  pub no_gap : (n : ℕ) → verdicts n [] ≡ replicate n true
