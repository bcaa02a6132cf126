-- Two chips as one.
--
-- joinable         the rule of a pair: pages alike, and blocks and allowances that add up within a chip's limits
-- both_shapes      the shape of two chips that follow it
-- joined           what two chips mean as one: the first one's pages come first, allowances add; nothing outside the rule
-- side_of          which of the two a page lies in; `block_side` which of the two a block lies in
-- ProgramsOne      a program reached just one of the two, and left the other as it was
-- ErasesOne        the same of an erase
-- joined_shaped    a pair has the shape that every chip has
use Rattle.std.specs.Prelude.{◌≡◌, ℕ, ◌+◌, ◌-◌, ◌*◌, ◌≤◌, Bool, true, cond, ◌&&◌, List, ◌++◌, length, Some, None, Err, Option, Result, ◌==◌, nat_le, nat_lt}
use Rattle.std.proofs.Common.{inl, inr, sym, ap, subst, ◌∙◌, add-mul, arith}
use Rattle.std.proofs.lemmas.List.{length-append}
use Rattle.std.proofs.lemmas.Bool.{cases_Bool, and_parts, eqb-true, leb-true, cond-true, cond-false}
use Rattle.chip.specs.declared.words.Refusal.{Refusal}
use Rattle.chip.specs.declared.words.Refusal.TheVariants.{NotThere}
use Rattle.chip.specs.declared.words.Shape.{Shape}
use Rattle.chip.specs.Meaning.{Meaning, nothing, InRange, Shaped}
use Rattle.chip.specs.Calls.{shape_of, Programmed, erase_told, erased}

abbrev pub shapes_fit : Shape → Shape → Bool
shapes_fit a b =
    (a.pages_per_block == b.pages_per_block && a.page_size == b.page_size)
    && (nat_le (a.blocks + b.blocks) 64 && nat_le (a.allowance + b.allowance) 65535)

-- the shape of two chips as one
abbrev pub both_shapes : Shape → Shape → Option Shape
both_shapes a b =
    cond (shapes_fit a b)
    (Some (record { blocks = a.blocks + b.blocks; pages_per_block = a.pages_per_block; page_size = a.page_size; allowance = a.allowance + b.allowance }))
    None

abbrev pub joinable : Meaning → Meaning → Bool
joinable m n = shapes_fit (shape_of m) (shape_of n)

abbrev pub both : Meaning → Meaning → Meaning
both m n =
    record {
      blocks = m.blocks + n.blocks;
      per_block = m.per_block;
      page_size = m.page_size;
      allowance = m.allowance + n.allowance;
      pages = m.pages ++ n.pages;
    }

abbrev pub joined : Meaning → Meaning → Meaning
joined m n = cond (joinable m n) (both m n) nothing

-- ---- which of the two a call reaches

pub data Side : Type 0 where
  neither : Side
  in_first : Side
  in_second : Side

abbrev pub side_of : Meaning → Meaning → ℕ → Side
side_of m n q = cond (joinable m n) (cond (nat_lt q (length m.pages)) in_first in_second) neither

abbrev pub block_side : Meaning → Meaning → ℕ → Side
block_side m n b = cond (joinable m n) (cond (nat_lt b m.blocks) in_first in_second) neither

abbrev pub ProgramsOne : Side → Meaning → Meaning → ℕ → ℕ → List ℕ → Result Bool Refusal → Meaning → Meaning → Type 0
ProgramsOne neither m n q label d r m' n' = (r ≡ Err NotThere) × (m' ≡ m) × (n' ≡ n)
ProgramsOne in_first m n q label d r m' n' = Programmed m q label d r m' × (n' ≡ n)
ProgramsOne in_second m n q label d r m' n' = (m' ≡ m) × Programmed n (q - length m.pages) label d r n'

abbrev pub ErasesOne : Side → Meaning → Meaning → ℕ → Result (Unit {0}) Refusal → Meaning → Meaning → Type 0
ErasesOne neither m n b r m' n' = (r ≡ Err NotThere) × (m' ≡ m) × (n' ≡ n)
ErasesOne in_first m n b r m' n' = (r ≡ erase_told m b) × (m' ≡ erased m b) × (n' ≡ n)
ErasesOne in_second m n b r m' n' = (r ≡ erase_told n (b - m.blocks)) × (m' ≡ m) × (n' ≡ erased n (b - m.blocks))

-- ---- the law of the shape

pub record Joins (m n : Meaning) : Type 0 where
  pub pages_alike : m.per_block ≡ n.per_block
  pub bytes_alike : m.page_size ≡ n.page_size
  pub few_blocks : m.blocks + n.blocks ≤ 64
  pub few_failures : m.allowance + n.allowance ≤ 65535

pub joins : (m n : Meaning) → joinable m n ≡ true → Joins m n
joins m n e =
    let parts = and_parts (m.per_block == n.per_block && m.page_size == n.page_size) _ e in
    let alike = and_parts (m.per_block == n.per_block) (m.page_size == n.page_size) parts.0 in
    let sums = and_parts (nat_le (m.blocks + n.blocks) 64) (nat_le (m.allowance + n.allowance) 65535) parts.1 in
    record {
      pages_alike = eqb-true m.per_block n.per_block alike.0;
      bytes_alike = eqb-true m.page_size n.page_size alike.1;
      few_blocks = leb-true (m.blocks + n.blocks) 64 sums.0;
      few_failures = leb-true (m.allowance + n.allowance) 65535 sums.1;
    }

both_in_range : (m n : Meaning) → Joins m n → InRange m → InRange n → InRange (both m n)
both_in_range m n j x y =
    record {
      some_blocks = let h = x.some_blocks in omega arith;
      few_blocks = j.few_blocks;
      some_pages = x.some_pages;
      few_pages = x.few_pages;
      some_bytes = x.some_bytes;
      few_bytes = x.few_bytes;
      few_failures = j.few_failures;
      all_pages =
          length-append m.pages n.pages
          ∙ ap (λ k. k + length n.pages) x.all_pages
          ∙ ap (λ k. m.blocks * m.per_block + k) (y.all_pages ∙ ap (λ k. n.blocks * k) (sym j.pages_alike))
          ∙ sym (add-mul m.blocks n.blocks m.per_block);
    }

both_shaped : (m n : Meaning) → Joins m n → Shaped m → Shaped n → Shaped (both m n)
both_shaped m n j (inl none) (inl none') = inl (ap (λ z. both z n) none ∙ ap (both nothing) none')
both_shaped m n j (inl none) (inr y) =
    absurd (let a = ap (λ z. z.per_block) none in let b = j.pages_alike in let h = y.some_pages in omega (arith, a, b, h))
both_shaped m n j (inr x) (inl none) =
    absurd (let a = ap (λ z. z.per_block) none in let b = j.pages_alike in let h = x.some_pages in omega (arith, a, b, h))
both_shaped m n j (inr x) (inr y) = inr (both_in_range m n j x y)

pub joined_shaped : (m n : Meaning) → Shaped m → Shaped n → Shaped (joined m n)
joined_shaped m n x y =
    elim (cases_Bool (joinable m n)) [
      | inl rule ↦ subst Shaped (sym (cond-true (joinable m n) (both m n) nothing rule)) (both_shaped m n (joins m n rule) x y)
      | inr none ↦ inl (cond-false (joinable m n) (both m n) nothing none)
    ]
