-- What is told of a pair is told of the one chip that a call reaches, and what changes there changes in the pair.
use Rattle.std.proofs.Common.{◌≡◌, ℕ, ◌+◌, ◌-◌, ◌<◌, ◌≤◌, Bool, true, false, cond, ◌&&◌, eqb, ltb, leb, List, ◌++◌, length, set, Some, None, Ok, Err, Option, Result, sym, refl, ap, ◌∙◌, inl, inr, arith}
use Rattle.std.proofs.lemmas.List.{length-append, get_or_append_left, get_or-append_right, set-append_left, set-append_right}
use Rattle.std.proofs.lemmas.Bool.{cases_lt, lt-ltb, le-ltb, eq-eqb, le-leb, and_from, cond-true}
use Rattle.chip.specs.declared.words.Refusal.{Refusal}
use Rattle.chip.specs.declared.words.Refusal.TheVariants.{NotThere, WrongKind, TooLong}
use Rattle.chip.specs.Meaning.{Page, spoiled, written, Meaning, nothing, page_at}
use Rattle.chip.specs.Calls.{is_free, asks_program, with_page, Programmed}
use Rattle.chip.specs.Pairs.{joinable, both, joined, Joins, joins}

joinable_back : (m n : Meaning) → Joins m n → joinable m n ≡ true
joinable_back m n j =
    and_from (eqb m.per_block n.per_block && eqb m.page_size n.page_size) _
    (and_from (eqb m.per_block n.per_block) (eqb m.page_size n.page_size) (eq-eqb m.per_block n.per_block j.pages_alike)
    (eq-eqb m.page_size n.page_size j.bytes_alike))
    (and_from (leb (m.blocks + n.blocks) 64) (leb (m.allowance + n.allowance) 65535) (le-leb (m.blocks + n.blocks) 64 j.few_blocks)
    (le-leb (m.allowance + n.allowance) 65535 j.few_failures))

pub ltb_shift : (a k c : ℕ) → k ≤ a → ltb (a - k) c ≡ ltb a (k + c)
ltb_shift a k c l =
    elim (cases_lt (a - k) c) [
      | inl less ↦ lt-ltb (a - k) c less ∙ sym (lt-ltb a (k + c) (omega arith))
      | inr more ↦ le-ltb (a - k) c more ∙ sym (le-ltb a (k + c) (omega arith))
    ]

-- ---- what is told of a page

abbrev told : {X : Type 0} → (Page → X) → X → Meaning → ℕ → X
told f e m q = cond (ltb q (length m.pages)) (f (page_at m q)) e

abbrev asked : ℕ → ℕ → Page → Option Refusal
asked size long x = cond (is_free x) (cond (leb long size) None (Some TooLong)) (Some WrongKind)

module _ (m n : Meaning) (rule : joinable m n ≡ true) where
  abbrev len : ℕ
  len = length m.pages

  pub joined_both : joined m n ≡ both m n
  joined_both = cond-true (joinable m n) (both m n) nothing rule

  long : length (both m n).pages ≡ len + length n.pages
  long = length-append m.pages n.pages

  page_first : (q : ℕ) → q < len → page_at (both m n) q ≡ page_at m q
  page_first q l = get_or_append_left m.pages n.pages spoiled q l

  page_second : (q : ℕ) → len ≤ q → page_at (both m n) q ≡ page_at n (q - len)
  page_second q l = get_or-append_right m.pages n.pages len q spoiled refl l

  told_first : {X : Type 0} (f : Page → X) (e : X) (q : ℕ) → q < len → told f e m q ≡ told f e (both m n) q
  told_first f e q l =
      cond-true (ltb q len) (f (page_at m q)) e (lt-ltb q len l)
      ∙ ap f (sym (page_first q l))
      ∙ sym (cond-true (ltb q (length (both m n).pages)) (f (page_at (both m n) q)) e (lt-ltb q (length (both m n).pages) (omega (arith, long))))

  told_second : {X : Type 0} (f : Page → X) (e : X) (q : ℕ) → len ≤ q → told f e n (q - len) ≡ told f e (both m n) q
  told_second f e q l =
      ap (λ t. cond t (f (page_at n (q - len))) e) (ltb_shift q len (length n.pages) l ∙ ap (ltb q) (sym long))
      ∙ ap (λ x. cond (ltb q (length (both m n).pages)) (f x) e) (sym (page_second q l))

  asks_first : (q bytes : ℕ) → q < len → asks_program (joined m n) q bytes ≡ asks_program m q bytes
  asks_first q bytes l = ap (λ z. asks_program z q bytes) joined_both ∙ sym (told_first (asked m.page_size bytes) (Some NotThere) q l)

  asks_second : (q bytes : ℕ) → len ≤ q → asks_program (joined m n) q bytes ≡ asks_program n (q - len) bytes
  asks_second q bytes l =
      ap (λ z. asks_program z q bytes) joined_both
      ∙ sym (told_second (asked m.page_size bytes) (Some NotThere) q l)
      ∙ ap (λ s. told (asked s bytes) (Some NotThere) n (q - len)) (joins m n rule).bytes_alike

-- ---- what a program changes

module _ (m n : Meaning) (rule : joinable m n ≡ true) where
  abbrev all : ℕ → List Page → Meaning
  all a ps = record { blocks = m.blocks + n.blocks; per_block = m.per_block; page_size = m.page_size; allowance = a; pages = ps }

  set_first : (q cost : ℕ) (x : Page) → q < length m.pages → cost ≤ m.allowance → joined (with_page m q x cost) n ≡ with_page (joined m n) q x cost
  set_first q cost x l few =
      let j = joins m n rule in
      let still = joinable_back (with_page m q x cost) n
      (record { pages_alike = j.pages_alike; bytes_alike = j.bytes_alike; few_blocks = j.few_blocks; few_failures = let h = j.few_failures in omega arith }) in
      let a : (m.allowance - cost) + n.allowance ≡ (m.allowance + n.allowance) - cost = omega arith in
      cond-true (joinable (with_page m q x cost) n) (both (with_page m q x cost) n) nothing still
      ∙ ap (λ k. all k (set m.pages q x ++ n.pages)) a
      ∙ ap (all ((m.allowance + n.allowance) - cost)) (sym (set-append_left m.pages n.pages q x l))
      ∙ ap (λ z. with_page z q x cost) (sym (joined_both m n rule))

  set_second : (q cost : ℕ) (x : Page) → length m.pages ≤ q → cost ≤ n.allowance
      → joined m (with_page n (q - length m.pages) x cost) ≡ with_page (joined m n) q x cost
  set_second q cost x l few =
      let j = joins m n rule in
      let n' = with_page n (q - length m.pages) x cost in
      let still = joinable_back m n'
      (record { pages_alike = j.pages_alike; bytes_alike = j.bytes_alike; few_blocks = j.few_blocks; few_failures = let h = j.few_failures in omega arith }) in
      let a : m.allowance + (n.allowance - cost) ≡ (m.allowance + n.allowance) - cost = omega arith in
      cond-true (joinable m n') (both m n') nothing still
      ∙ ap (λ k. all k (m.pages ++ set n.pages (q - length m.pages) x)) a
      ∙ ap (all ((m.allowance + n.allowance) - cost)) (sym (set-append_right m.pages n.pages (length m.pages) q x refl l))
      ∙ ap (λ z. with_page z q x cost) (sym (joined_both m n rule))

  allowed : (joined m n).allowance ≡ m.allowance + n.allowance
  allowed = ap (λ z. z.allowance) (joined_both m n rule)

  pub program_first : (q label : ℕ) (d : List ℕ) (r : Result Bool Refusal) (m' : Meaning) → q < length m.pages → Programmed m q label d r m'
      → Programmed (joined m n) q label d r (joined m' n)
  program_first q label d (Ok true) m' l h = (
    asks_first m n rule q (length d) l ∙ h.0,
    tt,
    ap (λ z. joined z n) h.2 ∙ set_first q 0 (written label d) l (omega arith),
  )
  program_first q label d (Ok false) m' l h = (
    asks_first m n rule q (length d) l ∙ h.0,
    omega (arith, allowed, h.1),
    ap (λ z. joined z n) h.2 ∙ set_first q 1 spoiled l h.1,
  )
  program_first q label d (Err e) m' l h = (asks_first m n rule q (length d) l ∙ h.0, ap (λ z. joined z n) h.1)

  pub program_second : (q label : ℕ) (d : List ℕ) (r : Result Bool Refusal) (n' : Meaning) → length m.pages ≤ q → Programmed n (q - length m.pages) label d r n'
      → Programmed (joined m n) q label d r (joined m n')
  program_second q label d (Ok true) n' l h = (
    asks_second m n rule q (length d) l ∙ h.0,
    tt,
    ap (joined m) h.2 ∙ set_second q 0 (written label d) l (omega arith),
  )
  program_second q label d (Ok false) n' l h = (
    asks_second m n rule q (length d) l ∙ h.0,
    omega (arith, allowed, h.1),
    ap (joined m) h.2 ∙ set_second q 1 spoiled l h.1,
  )
  program_second q label d (Err e) n' l h = (asks_second m n rule q (length d) l ∙ h.0, ap (joined m) h.1)
