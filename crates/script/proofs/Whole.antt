-- Nothing is lost where a list is cut at a mark. Assumes nothing.
use Rattle.std.proofs.Common.{◌≡◌, ℕ, ◌<◌, Bool, true, false, cond, eqb, ◌⊎◌, List, [], ◌∷◌, length, refl, ap, inl, inr, arith}
use Rattle.std.proofs.lemmas.Bool.{eqb-true}
use Rattle.script.specs.Law.{AllClear, CutLaw, ended, EndsSome, parted}
use Rattle.script.specs.Text.{blank, cut_at, line_feed, onto_first}

-- no part has the mark in it
cut_clear : (mark : ℕ) (rest : List (List ℕ)) → AllClear mark rest → (bs : List ℕ) → AllClear mark (cut_at mark rest bs)
cut_clear mark rest none [] = none
cut_clear mark rest none (b ∷ bs) = by (cut_at mark rest bs) (cut_clear mark rest none bs) (eqb b mark) refl
  where
    by : (parts : List (List ℕ)) → AllClear mark parts → (v : Bool) → eqb b mark ≡ v → AllClear mark (cond v ([] ∷ parts) (onto_first b parts))
    by parts clear true is = (tt, clear)
    by [] clear false is = ((is, tt), tt)
    by (part ∷ parts) clear false is = ((is, clear.0), clear.1)

-- a script from its lines
abbrev ScriptWhole : List ℕ → List (List ℕ) → Type 0
ScriptWhole script lines = (ended line_feed lines ≡ script) ⊎ ((parted line_feed lines ≡ script) × EndsSome lines)

lines_whole : (bs : List ℕ) → ScriptWhole bs (cut_at line_feed [] bs)
lines_whole [] = inl refl
lines_whole (b ∷ bs) = by (cut_at line_feed [] bs) (lines_whole bs) (eqb b line_feed) refl
  where
    by : (lines : List (List ℕ)) → ScriptWhole bs lines → (v : Bool) → eqb b line_feed ≡ v → ScriptWhole (b ∷ bs) (cond v ([] ∷ lines) (onto_first b lines))
    by [] (inl e) true is = let same = eqb-true b line_feed is in inl (cc)
    by (line ∷ lines) (inl e) true is = let same = eqb-true b line_feed is in inl (cc)
    by [] (inr p) true is = absurd p.1
    by (line ∷ lines) (inr p) true is = let same = eqb-true b line_feed is in let e = p.0 in inr (cc, p.1)
    by [] (inl e) false is = inr (ap (λ (l : List ℕ). b ∷ l) e, omega arith)
    by (line ∷ lines) (inl e) false is = inl (ap (λ (l : List ℕ). b ∷ l) e)
    by [] (inr p) false is = absurd p.1
    by (line ∷ []) (inr p) false is = inr (ap (λ (l : List ℕ). b ∷ l) p.0, omega arith)
    by (line ∷ (next ∷ lines)) (inr p) false is = inr (ap (λ (l : List ℕ). b ∷ l) p.0, p.1)

-- a line from its words
abbrev LineWhole : List ℕ → List (List ℕ) → Type 0
LineWhole line words = (0 < length words) × (parted blank words ≡ line)

words_whole : (bs : List ℕ) → LineWhole bs (cut_at blank ([] ∷ []) bs)
words_whole [] = (omega arith, refl)
words_whole (b ∷ bs) = by (cut_at blank ([] ∷ []) bs) (words_whole bs) (eqb b blank) refl
  where
    by : (words : List (List ℕ)) → LineWhole bs words → (v : Bool) → eqb b blank ≡ v → LineWhole (b ∷ bs) (cond v ([] ∷ words) (onto_first b words))
    by [] p true is = absurd (omega arith)
    by [] p false is = absurd (omega arith)
    by (word ∷ words) p true is = let same = eqb-true b blank is in let e = p.1 in (omega arith, cc)
    by (word ∷ []) p false is = (omega arith, ap (λ (l : List ℕ). b ∷ l) p.1)
    by (word ∷ (next ∷ words)) p false is = (omega arith, ap (λ (l : List ℕ). b ∷ l) p.1)

pub cut_law : (script : List ℕ) → CutLaw script
cut_law script =
    record {
      lines = record { whole = lines_whole script; clear = cut_clear line_feed [] tt script };
      words = λ line. record { some = (words_whole line).0; whole = (words_whole line).1; clear = cut_clear blank ([] ∷ []) (tt, tt) line };
    }
