-- The search for the place of a program: it goes once round all pages, its loop's steps, and what it finds is the only place.
use Rattle.std.proofs.Common.{◌≡◌, ℕ, ◌+◌, ◌-◌, ◌*◌, ◌<◌, ◌≤◌, Bool, true, false, ltb, List, length, get_or, sym, refl, ap, ◌∙◌, subst, inl, inr, arith}
use native.Mathlib.Decide.{ℕ_discrete}
use Rattle.std.proofs.lemmas.Bool.{both_ways, cases_lt, cases_order, cond-true, cond-false, cond_both, lt-ltb, le-ltb, ltb-true, ltb-false}
use Rattle.chip.specs.Meaning.{Page, free, spoiled, written}
use Rattle.chip.specs.Calls.{is_free}
use Rattle.history.specs.Pages.{frees}
use Rattle.history.specs.Work.{round, next_page, Place, in_block, after_wipe}
use Rattle.history.proofs.Counts.{free_outside}
use Rattle.history.proofs.Recycle.{not_in_block}
use Rattle.history.proofs.Tally.{tally_some}

pub free_by_test : (x : Page) → is_free x ≡ true → x ≡ free
free_by_test free q = refl
free_by_test spoiled q = absurd (both_ways false refl q)
free_by_test (written l d) q = absurd (both_ways false refl q)

-- ---- going round

module _ (total : ℕ) where
  pub round_before : (x : ℕ) → x < total → round total x ≡ x
  round_before x h = cond-true (ltb x total) x (x - total) (lt-ltb x total h)

  pub round_past : (x : ℕ) → total ≤ x → round total x ≡ x - total
  round_past x h = cond-false (ltb x total) x (x - total) (le-ltb x total h)

  pub round_below : (x : ℕ) → x < total + total → round total x < total
  round_below x h = cond_both (ltb x total) x (x - total) (λ y. y < total) (λ e. ltb-true x total e) (λ e. let o = ltb-false x total e in omega arith)

  pub next_below : (q : ℕ) → 0 < total → next_page total q < total
  next_below q some = cond_both (ltb (q + 1) total) (q + 1) 0 (λ y. y < total) (λ e. ltb-true (q + 1) total e) (λ e. some)

  next_within : (q : ℕ) → q + 1 < total → next_page total q ≡ q + 1
  next_within q h = cond-true (ltb (q + 1) total) (q + 1) 0 (lt-ltb (q + 1) total h)

  next_around : (q : ℕ) → total ≤ q + 1 → next_page total q ≡ 0
  next_around q h = cond-false (ltb (q + 1) total) (q + 1) 0 (le-ltb (q + 1) total h)

  -- one step further
  pub round_next : (x : ℕ) → x + 1 < total + total → round total (x + 1) ≡ next_page total (round total x)
  round_next x h =
      elim (cases_lt x total) [
        | inl before ↦
            (let r = round_before x before in
            let n = ap (next_page total) r in
            elim (cases_lt (x + 1) total) [
              | inl within ↦ round_before (x + 1) within ∙ sym (n ∙ next_within x within)
              | inr around ↦ (let e : x + 1 - total ≡ 0 = omega arith in round_past (x + 1) around ∙ e ∙ sym (n ∙ next_around x around))
            ])
        | inr past ↦
            (let r = round_past x past in
            let n = ap (next_page total) r in
            let e : x + 1 - total ≡ x - total + 1 = omega arith in
            round_past (x + 1) (omega arith) ∙ e ∙ sym (n ∙ next_within (x - total) (omega arith)))
      ]

  -- every page is reached
  pub round_onto : (start q : ℕ) → start < total → q < total → (j : ℕ) × (j < total) × (round total (start + j) ≡ q)
  round_onto start q here there =
      elim (cases_lt q start) [
        | inl low ↦
            (let back : start + (q + total - start) ≡ q + total = omega arith in
            let e : start + (q + total - start) - total ≡ q = omega arith in
            (q + total - start, omega arith, round_past (start + (q + total - start)) (omega arith) ∙ e))
        | inr high ↦
            (let e : start + (q - start) ≡ q = omega arith in
            (q - start, omega arith, round_before (start + (q - start)) (omega arith) ∙ e))
      ]

-- ---- the search

-- the first k pages from the start on are passed over or not free
abbrev pub Searched : (ℕ → Bool) → List Page → ℕ → ℕ → Type 0
Searched over pages start k =
    (j : ℕ) → j < k → over (round (length pages) (start + j)) ≡ false → is_free (get_or pages (round (length pages) (start + j)) free) ≡ false

module _ (over : ℕ → Bool) (pages : List Page) (start : ℕ) where
  pub searched_none : Searched over pages start 0
  searched_none j low = absurd (omega arith)

  -- one page more, which is passed over or is not free
  pub searched_more : (k : ℕ) → Searched over pages start k
      → (over (round (length pages) (start + k)) ≡ false → is_free (get_or pages (round (length pages) (start + k)) free) ≡ false)
      → Searched over pages start (k + 1)
  searched_more k was here j low allowed =
      elim (ℕ_discrete j k) [
        | yes same ↦
            (ap (λ x. is_free (get_or pages (round (length pages) (start + x)) free)) same
            ∙ here (sym (ap (λ x. over (round (length pages) (start + x))) same) ∙ allowed))
        | no apart ↦ was j (omega arith) allowed
      ]

  -- the page it stops at is the place
  pub found_place : (k : ℕ) → start < length pages → k < length pages → Searched over pages start k
      → over (round (length pages) (start + k)) ≡ false → is_free (get_or pages (round (length pages) (start + k)) free) ≡ true
      → Place over pages start (round (length pages) (start + k))
  found_place k here once was allowed room =
      record {
        steps = k;
        once = once;
        reached = refl;
        there = round_below (length pages) (start + k) (omega arith);
        allowed = allowed;
        room = free_by_test (get_or pages (round (length pages) (start + k)) free) room;
        first = was;
      }

  -- and if it never stops, no page is free but those passed over
  pub found_none : start < length pages → Searched over pages start (length pages)
      → (q : ℕ) → q < length pages → over q ≡ false → is_free (get_or pages q free) ≡ false
  found_none here all q there allowed =
      let r = round_onto (length pages) start q here there in
      subst (λ x. over x ≡ false → is_free (get_or pages x free) ≡ false) r.2 (all r.0 r.1) allowed

  no_earlier : (a b : ℕ) → (p : Place over pages start a) → (r : Place over pages start b) → p.steps < r.steps → ⊥
  no_earlier a b p r less =
      let at : round (length pages) (start + p.steps) ≡ a = sym p.reached in
      let blocked = r.first p.steps less (ap over at ∙ p.allowed) in
      let full : is_free (get_or pages a free) ≡ false = sym (ap (λ x. is_free (get_or pages x free)) at) ∙ blocked in
      both_ways (is_free (get_or pages a free)) full (ap is_free p.room)

  -- there is just one
  pub one_place : (a b : ℕ) → Place over pages start a → Place over pages start b → a ≡ b
  one_place a b p r =
      elim (cases_order p.steps r.steps) [
        | inl same ↦ (p.reached ∙ ap (λ k. round (length pages) (start + k)) same ∙ sym r.reached)
        | inr apart ↦
            elim apart [
              | inl less ↦ absurd (no_earlier a b p r less)
              | inr more ↦ absurd (no_earlier b a r p more)
            ]
      ]

-- where the search starts after an erase
pub wipe_below : (size b start total : ℕ) → 0 < size → b * size + size ≤ total → start < total → after_wipe size b start < total
wipe_below size b start total some fits here =
    cond_both (in_block size b start) (b * size) start (λ y. y < total) (λ e. omega arith) (λ e. here)

-- ---- a search that has to end

-- a free page anywhere
pub search_ends : (pages : List Page) (start : ℕ) → start < length pages → 0 < frees (λ k. get_or pages k free) 0 (length pages) → Searched (λ q. false) pages start (length pages) → ⊥
search_ends pages start here some all =
    let w = tally_some (λ k. is_free (get_or pages k free)) 0 (length pages) some in
    both_ways (is_free (get_or pages w.0 free)) (found_none (λ q. false) pages start here all w.0 (omega (arith, w.2)) refl) w.3

-- a free page outside the block that is passed over
pub search_ends_outside : (size b : ℕ) (pages : List Page) (start : ℕ) → 0 < size → b * size + size ≤ length pages → start < length pages
    → frees (λ k. get_or pages k free) (b * size) size < frees (λ k. get_or pages k free) 0 (length pages) → Searched (in_block size b) pages start (length pages) → ⊥
search_ends_outside size b pages start some fits here more all =
    let w = free_outside (λ k. get_or pages k free) (b * size) size (length pages) fits more in
    both_ways (is_free (get_or pages w.0 free)) (found_none (in_block size b) pages start here all w.0 w.1 (not_in_block size b w.0 some w.3)) w.2
