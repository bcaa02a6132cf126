-- How the gaps of a flawed chip wear, in its table and over many programs.
use Rattle.std.proofs.Common.{◌≡◌, ℕ, zero, suc, ◌-◌, ◌≤◌, true, false, not, ◌&&◌, eqb, leb, List, [], ◌∷◌, ◌++◌, length, take, drop, replicate, refl, ap, ◌∙◌, add-one, arith}
use borrow.Rule.Slice.PartMut.{put_mid}
use Rattle.std.specs.List.{list_any}
use Rattle.std.proofs.lemmas.List.{append-nil, length-drop, length-take-le, drop_at, drop_all}
use Rattle.std.proofs.lemmas.Bool.{le-leb, lt-ltb, ne_eqb, lt-leb}
use Rattle.chip.specs.Gaps.{verdicts, worn_by, none_zero, good_gaps, GapLaw}

-- ---- a table that was just filled

zeros_found : (gs : List ℕ) → none_zero gs ≡ not (list_any (λ g. eqb g 0) gs)
zeros_found [] = refl
zeros_found (zero ∷ gs) = refl
zeros_found (suc g ∷ gs) = rw (lt-ltb 0 (suc g) (omega arith), ne_eqb (suc g) 0 (λ e. omega (arith, e))) (zeros_found gs)

pub good_when : (gs : List ℕ) → length gs ≤ 8 → list_any (λ g. eqb g 0) gs ≡ false → good_gaps gs ≡ true
good_when gs few e = rw (le-leb (length gs) 8 few, zeros_found gs, e) refl

pub bad_when : (gs : List ℕ) → list_any (λ g. eqb g 0) gs ≡ true → good_gaps gs ≡ false
bad_when gs e = rw (zeros_found gs, e) (elim (leb (length gs) 8) as (λ t. (t && false) ≡ false) [ true ↦ refl | false ↦ refl ])

pub filled : (zs gaps put : List ℕ) (next : ℕ) → length zs ≡ 8 → next ≤ 8 → 8 - next ≡ length gaps → put ≡ gaps → drop next (put_mid next (8 - next) zs put) ≡ gaps
filled zs gaps put next long few count e =
    let none : drop (8 - next) (drop next zs) ≡ [] = drop_all (8 - next) (drop next zs) (simp length-drop (omega arith)) in
    drop_at (take next zs) (put ++ drop (8 - next) (drop next zs)) next (length-take-le next zs (omega arith)) ∙ ap (λ z. put ++ z) none ∙ append-nil put ∙ e

-- ---- many programs

one_gap : (g : ℕ) (gs : List ℕ) → verdicts (suc g) (suc g ∷ gs) ≡ replicate g true ++ false ∷ []
one_gap zero gs = refl
one_gap (suc g) gs =
    let up : leb (suc (suc g)) 1 ≡ false = lt-leb (suc (suc g)) 1 (omega arith) in
    let less : suc (suc g) - 1 ≡ suc g = omega arith in rw (up, less) (ap (λ rest. true ∷ rest) (one_gap g gs))

next_gap : (g : ℕ) (gs : List ℕ) → worn_by (suc g) (suc g ∷ gs) ≡ gs
next_gap zero gs = refl
next_gap (suc g) gs =
    let up : leb (suc (suc g)) 1 ≡ false = lt-leb (suc (suc g)) 1 (omega arith) in
    let less : suc (suc g) - 1 ≡ suc g = omega arith in rw (up, less) (next_gap g gs)

no_gap : (n : ℕ) → verdicts n [] ≡ replicate n true
no_gap zero = refl
no_gap (suc n) = ap (λ rest. true ∷ rest) (no_gap n)

pub gap_law : GapLaw
gap_law =
    record {
      one_gap = λ g gs. rw (add-one g) (one_gap g gs);
      next_gap = λ g gs. rw (add-one g) (next_gap g gs);
      no_gap = no_gap;
    }
