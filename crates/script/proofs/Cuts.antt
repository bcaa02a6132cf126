-- A list cut at a mark: its first part, and what follows. Assumes nothing.
use Rattle.std.proofs.Common.{◌≡◌, ℕ, suc, ◌+◌, ◌<◌, ◌≤◌, Bool, true, false, cond, not, eqb, List, [], ◌∷◌, map, length, take, drop, Some, None, Option, Bor, MatchOption, sym, refl, ap, ◌∙◌, arith}
use Rattle.std.proofs.lemmas.List.{take_all}
use Rattle.std.specs.Option.{option_map_or, UnwrapsOrElse}
use Rattle.script.specs.Text.{cut_at, onto_first, part, words_of, script_of, blank, line_feed}

-- the first part goes up to the first mark, and what follows the mark is cut in its turn
cut_marked : (mark : ℕ) (rest : List (List ℕ)) (bs : List ℕ) → part mark bs < length bs → cut_at mark rest bs ≡ take (part mark bs) bs ∷ cut_at mark rest (drop (part mark bs + 1) bs)
cut_marked mark rest [] h = absurd (omega arith)
cut_marked mark rest (b ∷ bs) h = by (cut_marked mark rest bs) (eqb b mark) h
  where
    by : (part mark bs < length bs → cut_at mark rest bs ≡ take (part mark bs) bs ∷ cut_at mark rest (drop (part mark bs + 1) bs)) → (v : Bool) → cond (not v) (1 + part mark bs) 0 < suc (length bs) → cond v ([] ∷ cut_at mark rest bs) (onto_first b (cut_at mark rest bs)) ≡ take (cond (not v) (1 + part mark bs) 0) (b ∷ bs) ∷ cut_at mark rest (drop (cond (not v) (1 + part mark bs) 0 + 1) (b ∷ bs))
    by ih true short = refl
    by ih false short =
        let more : 1 + part mark bs ≡ suc (part mark bs) = omega arith in
        let past : suc (part mark bs) + 1 ≡ suc (part mark bs + 1) = omega arith in
        rw (more, past) (ap (onto_first b) (ih (omega arith)))

-- with no mark there is one part
cut_words : (mark : ℕ) (bs : List ℕ) → length bs ≤ part mark bs → cut_at mark ([] ∷ []) bs ≡ bs ∷ []
cut_words mark [] h = refl
cut_words mark (b ∷ bs) h = by (cut_words mark bs) (eqb b mark) h
  where
    by : (length bs ≤ part mark bs → cut_at mark ([] ∷ []) bs ≡ bs ∷ []) → (v : Bool) → suc (length bs) ≤ cond (not v) (1 + part mark bs) 0 → cond v ([] ∷ cut_at mark ([] ∷ []) bs) (onto_first b (cut_at mark ([] ∷ []) bs)) ≡ (b ∷ bs) ∷ []
    by ih true long = absurd (omega arith)
    by ih false long = ap (onto_first b) (ih (omega arith))

cut_lines : (mark : ℕ) (bs : List ℕ) → length bs ≤ part mark bs → 0 < length bs → cut_at mark [] bs ≡ bs ∷ []
cut_lines mark [] h some = absurd (omega arith)
cut_lines mark (b ∷ []) h some = by (eqb b mark) h
  where
    by : (v : Bool) → 1 ≤ cond (not v) (1 + 0) 0 → cond v ([] ∷ []) ((b ∷ []) ∷ []) ≡ (b ∷ []) ∷ []
    by true long = absurd (omega arith)
    by false long = refl
cut_lines mark (b ∷ (c ∷ cs)) h some = by (cut_lines mark (c ∷ cs)) (eqb b mark) h
  where
    by : (length (c ∷ cs) ≤ part mark (c ∷ cs) → 0 < length (c ∷ cs) → cut_at mark [] (c ∷ cs) ≡ (c ∷ cs) ∷ []) → (v : Bool) → suc (length (c ∷ cs)) ≤ cond (not v) (1 + part mark (c ∷ cs)) 0 → cond v ([] ∷ cut_at mark [] (c ∷ cs)) (onto_first b (cut_at mark [] (c ∷ cs))) ≡ (b ∷ (c ∷ cs)) ∷ []
    by ih true long = absurd (omega arith)
    by ih false long = ap (onto_first b) (ih (omega arith) (omega arith))

-- where bytes are split: after their first part, and at a mark where one follows it
abbrev AfterPart : ℕ → List ℕ → Option (Bor (List ℕ)) → Type 0
AfterPart mark bytes rest = MatchOption rest (part mark bytes ≡ length bytes) (λ r. (part mark bytes < length bytes) × (r.now ≡ drop (part mark bytes + 1) bytes))

-- a word handed out leaves those that follow it
pub word_out : (bytes first : List ℕ) (rest : Option (Bor (List ℕ))) → first ≡ take (part blank bytes) bytes → AfterPart blank bytes rest → words_of bytes ≡ first ∷ option_map_or (λ r. words_of r.now) rest []
word_out bytes first None is whole =
    cut_words blank bytes (omega arith) ∙ ap (λ w. w ∷ []) (sym (is ∙ take_all (part blank bytes) bytes (omega arith)))
word_out bytes first (Some r) is after =
    let cut = cut_marked blank ([] ∷ []) bytes after.0 in
    let next = after.1 in
    cc

-- a line handed out leaves those that follow it
pub line_out : (bytes first : List ℕ) (rest : Option (Bor (List ℕ))) (left : Bor (List ℕ)) → 0 < length bytes → first ≡ take (part line_feed bytes) bytes → AfterPart line_feed bytes rest → UnwrapsOrElse rest (λ r. r.now ≡ []) left → script_of bytes ≡ words_of first ∷ script_of left.now
line_out bytes first None left some is whole none =
    let one = cut_lines line_feed bytes (omega arith) some in
    let all = is ∙ take_all (part line_feed bytes) bytes (omega arith) in
    let end = ap script_of none in
    ap (map words_of) one ∙ cc
line_out bytes first (Some r) left some is after same =
    let cut = cut_marked line_feed [] bytes after.0 in
    let next = ap (λ (b : Bor (List ℕ)). b.now) same ∙ after.1 in
    ap (map words_of) cut ∙ cc
