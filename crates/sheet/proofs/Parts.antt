-- What was joined with a mark between is cut there again. Assumes nothing.
use Rattle.std.proofs.Common.{◌≡◌, ℕ, ◌^◌, ◌<◌, true, eqb, leb, List, [], ◌∷◌, ◌++◌, decimal, refl, ap, ◌∙◌, arith, rules}
use Rattle.std.proofs.lemmas.Fmt.{decimal_nonempty, digits_decimal, digits_value-decimal}
use Rattle.std.proofs.lemmas.Str.Parse.{IsNumeralModel, numerals_by_fold}
use Rattle.std.proofs.lemmas.Bool.{and_parts, cond-false, cond-true, eq-eqb, leb-true, ne_eqb}
use Rattle.script.specs.Law.{Clear}
use Rattle.script.specs.Numbers.{all_digits, digit, read_on}
use Rattle.script.specs.Text.{cut_at, onto_first}
use Rattle.sheet.specs.Law.{Writes}

pub clear_joined : (mark : ℕ) (xs ys : List ℕ) → Clear mark xs → Clear mark ys → Clear mark (xs ++ ys)
clear_joined mark [] ys c d = d
clear_joined mark (x ∷ xs) ys c d = (c.0, clear_joined mark xs ys c.1 d)

pub clear_digits : (mark : ℕ) (ds : List ℕ) → mark < 48 → all_digits ds ≡ true → Clear mark ds
clear_digits mark [] below is = tt
clear_digits mark (d ∷ ds) below is =
    let parts = and_parts (digit d) (all_digits ds) is in
    let low = leb-true 48 d (and_parts (leb 48 d) (leb d 57) parts.0).0 in
    (ne_eqb d mark (λ same. omega arith), clear_digits mark ds below parts.1)

-- a part with the mark after it
pub cut_through : (mark : ℕ) (rest : List (List ℕ)) (xs ys : List ℕ) → Clear mark xs → cut_at mark rest (xs ++ (mark ∷ ys)) ≡ xs ∷ cut_at mark rest ys
cut_through mark rest [] ys c = cond-true (eqb mark mark) ([] ∷ cut_at mark rest ys) (onto_first mark (cut_at mark rest ys)) (eq-eqb mark mark refl)
cut_through mark rest (x ∷ xs) ys c =
    let after = cut_at mark rest (xs ++ (mark ∷ ys)) in
    cond-false (eqb x mark) ([] ∷ after) (onto_first x after) c.0 ∙ ap (onto_first x) (cut_through mark rest xs ys c.1)

-- the last part
pub cut_last : (mark : ℕ) (xs : List ℕ) → Clear mark xs → cut_at mark ([] ∷ []) xs ≡ xs ∷ []
cut_last mark [] c = refl
cut_last mark (x ∷ xs) c =
    let after = cut_at mark ([] ∷ []) xs in
    cond-false (eqb x mark) ([] ∷ after) (onto_first x after) c.0 ∙ ap (onto_first x) (cut_last mark xs c.1)

-- the reader of scripts reads decimals
own : IsNumeralModel (λ ds. all_digits ds ≡ true) (read_on 0)
own = numerals_by_fold _ (search rules) read_on (search rules)

pub decimal_writes : (n : ℕ) → n < 2 ^ 64 → Writes (decimal n) n
decimal_writes n fits = record { some = decimal_nonempty n fits; digits = digits_decimal own n fits; value = digits_value-decimal own n fits }
