-- An erase of a pair is an erase of the one chip that the block lies in.
use Rattle.std.proofs.Common.{◌≡◌, ℕ, suc, ◌+◌, ◌-◌, ◌*◌, ◌<◌, ◌≤◌, true, ltb, List, ◌++◌, length, take, drop, replicate, sym, ap, ◌∙◌, inl, inr, append_assoc, mul-le-mul_right, suc-mul, add-mul, arith, rules}
use Rattle.std.proofs.lemmas.List.{take-append-le, drop-append-le, places, same_lists}
use Rattle.std.proofs.lemmas.Bool.{cases_lt, lt-ltb, le-ltb, cond-true, cond-false}
use Rattle.chip.specs.Meaning.{Page, free, Meaning, nothing, Shaped}
use Rattle.chip.specs.Calls.{wiped, with_block_free, erased}
use Rattle.chip.specs.Pairs.{joinable, both, joined, joins}
use Rattle.chip.proofs.Joining.{joined_both}

pub length_shaped : (m : Meaning) → Shaped m → length m.pages ≡ m.blocks * m.per_block
length_shaped m (inl none) = ap (λ z. length z.pages) none ∙ sym (ap (λ z. z.blocks * z.per_block) none)
length_shaped m (inr range) = range.all_pages

-- ---- the pages of two chips, one of which has a block erased

wiped_first : (per b : ℕ) (xs ys : List Page) → b * per + per ≤ length xs → wiped per b xs ++ ys ≡ wiped per b (xs ++ ys)
wiped_first per b xs ys l =
    append_assoc (take (b * per) xs) (replicate per free ++ drop (b * per + per) xs) ys
    ∙ ap (λ z. take (b * per) xs ++ z) (append_assoc (replicate per free) (drop (b * per + per) xs) ys)
    ∙ ap (λ z. take (b * per) xs ++ (replicate per free ++ z)) (sym (drop-append-le (b * per + per) xs ys l))
    ∙ ap (λ z. z ++ (replicate per free ++ drop (b * per + per) (xs ++ ys))) (sym (take-append-le (b * per) xs ys (omega arith)))

module _ (xs ys : List Page) (k j : ℕ) (e : k ≡ length xs + j) where
  take_past : take k (xs ++ ys) ≡ xs ++ take j ys
  take_past = same_lists _ _ (search (rules, places)) (λ i d l. grind (arith, places))

  drop_past : drop k (xs ++ ys) ≡ drop j ys
  drop_past = same_lists _ _ (search (rules, places)) (λ i d l. grind (arith, places))

wiped_second : (per b c : ℕ) (xs ys : List Page) → b * per ≡ length xs + c * per → xs ++ wiped per c ys ≡ wiped per b (xs ++ ys)
wiped_second per b c xs ys e =
    sym (append_assoc xs (take (c * per) ys) (replicate per free ++ drop (c * per + per) ys))
    ∙ ap (λ z. z ++ (replicate per free ++ drop (c * per + per) ys)) (sym (take_past xs ys (b * per) (c * per) e))
    ∙ ap (λ z. take (b * per) (xs ++ ys) ++ (replicate per free ++ z)) (sym (drop_past xs ys (b * per + per) (c * per + per) (omega arith)))

-- ---- what an erase leaves

module _ (m n : Meaning) (rule : joinable m n ≡ true) (long : length m.pages ≡ m.blocks * m.per_block) where
  abbrev with_pages : List Page → Meaning
  with_pages ps =
      record { blocks = m.blocks + n.blocks; per_block = m.per_block; page_size = m.page_size; allowance = m.allowance + n.allowance; pages = ps }

  pub after_first : (b : ℕ) → b < m.blocks → joined (erased m b) n ≡ erased (joined m n) b
  after_first b l =
      let within : b * m.per_block + m.per_block ≤ length m.pages =
      omega (arith, long, suc-mul b m.per_block, mul-le-mul_right {m = suc b} {n = m.blocks} m.per_block l) in
      ap (λ z. joined z n) (cond-true (ltb b m.blocks) (with_block_free m b) m (lt-ltb b m.blocks l))
      ∙ cond-true (joinable m n) (both (with_block_free m b) n) nothing rule
      ∙ ap with_pages (wiped_first m.per_block b m.pages n.pages within)
      ∙ sym (cond-true (ltb b (m.blocks + n.blocks)) (with_block_free (both m n) b) (both m n) (lt-ltb b (m.blocks + n.blocks) (omega arith)))
      ∙ ap (λ z. erased z b) (sym (joined_both m n rule))

  -- the block's number in the second chip
  module _ (b : ℕ) (l : m.blocks ≤ b) where
    abbrev c : ℕ
    c = b - m.blocks

    apart : b * m.per_block ≡ length m.pages + c * m.per_block
    apart = let e : b ≡ m.blocks + c = omega arith in omega (arith, long, ap (λ k. k * m.per_block) e, add-mul m.blocks c m.per_block)

    erased_there : c < n.blocks → joined m (erased n c) ≡ erased (joined m n) b
    erased_there h =
        ap (joined m) (cond-true (ltb c n.blocks) (with_block_free n c) n (lt-ltb c n.blocks h))
        ∙ cond-true (joinable m n) (both m (with_block_free n c)) nothing rule
        ∙ ap (λ per. with_pages (m.pages ++ wiped per c n.pages)) (sym (joins m n rule).pages_alike)
        ∙ ap with_pages (wiped_second m.per_block b c m.pages n.pages apart)
        ∙ sym (cond-true (ltb b (m.blocks + n.blocks)) (with_block_free (both m n) b) (both m n) (lt-ltb b (m.blocks + n.blocks) (omega arith)))
        ∙ ap (λ z. erased z b) (sym (joined_both m n rule))

    not_there : n.blocks ≤ c → joined m (erased n c) ≡ erased (joined m n) b
    not_there h =
        ap (joined m) (cond-false (ltb c n.blocks) (with_block_free n c) n (le-ltb c n.blocks h))
        ∙ joined_both m n rule
        ∙ sym (cond-false (ltb b (m.blocks + n.blocks)) (with_block_free (both m n) b) (both m n) (le-ltb b (m.blocks + n.blocks) (omega arith)))
        ∙ ap (λ z. erased z b) (sym (joined_both m n rule))

    pub after_second : joined m (erased n c) ≡ erased (joined m n) b
    after_second = elim (cases_lt c n.blocks) [ inl there ↦ erased_there there | inr past ↦ not_there past ]
