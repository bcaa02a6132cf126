-- Pages and map, kept in step with the chip's answers, are what the history says.
use Rattle.std.proofs.Common.{◌≡◌, ℕ, ◌+◌, ◌-◌, ◌*◌, ◌/◌, ◌<◌, ◌≤◌, Bool, true, false, not, ◌&&◌, eqb, ◌≢◌, ◌⊎◌, List, ◌∷◌, ◌++◌, length, get_or, take, drop, set, replicate, Some, None, Option, sym, refl, ap, ◌∙◌, inl, inr, mul-le-mul_right, div-mul-le_self, arith, length-append, length-drop, length-take, get_or-set_other, get_or-set_same}
use native.Mathlib.Decide.{ℕ_discrete}
use native.Mathlib.Nat.{lt-div-mul-add, div-eq_of_lt-le}
use lib.ListN.{length-replicate, get_or-replicate}
use Rattle.std.proofs.lemmas.List.{get_or_append_left, get_or-append_right, get_or-take, get_or-drop, ext_get_or}
use Rattle.std.proofs.lemmas.Bool.{cases_lt, cond-true, cond-false, eq-eqb, ne_eqb}
use Rattle.std.proofs.lemmas.Bool.Decides.{nat_tests}
use Rattle.chip.specs.Meaning.{Page, free, spoiled, written}
use Rattle.chip.specs.Calls.{wiped}
use Rattle.history.specs.Pages.{is_dead, names, frees, deads}
use Rattle.history.specs.History.{programmed, erased, History, holder, page_after, programmed_as, dead_in}
use Rattle.history.specs.Promise.{Held, Named}
use Rattle.history.proofs.Tally.{tally_same}
use Rattle.history.proofs.Counts.{frees_erase}

-- ---- the pages of a block

pub block_from : (size q b : ℕ) → b * size ≤ q → q < b * size + size → q / size ≡ b
block_from size q b low high = div-eq_of_lt-le size low (omega arith)

pub block_range : (size q b : ℕ) → 0 < size → q / size ≡ b → (b * size ≤ q) × (q < b * size + size)
block_range size q b some same =
    let e : q / size * size ≡ b * size = ap (λ x. x * size) same in
    let l = div-mul-le_self q size in
    let h = lt-div-mul-add {a = q} some in
    (omega arith, omega arith)

pub block_outside : (size q b : ℕ) → (q / size ≡ b → ⊥) → (q < b * size) ⊎ (b * size + size ≤ q)
block_outside size q b apart =
    elim (cases_lt q (b * size)) [
      | inl below ↦ inl below
      | inr low ↦ elim (cases_lt q (b * size + size)) [ inl high ↦ absurd (apart (block_from size q b low high)) | inr above ↦ inr above ]
    ]

pub block_fits : (size b n : ℕ) → b < n → b * size + size ≤ n * size
block_fits size b n h = omega (arith, mul-le-mul_right size h)

-- ---- an erase on the list of pages

module _ (size b : ℕ) (pages : List Page) (fits : b * size + size ≤ length pages) where
  front : length (take (b * size) pages) ≡ b * size
  front = simp length-take (omega arith)

  pub length_wiped : length (wiped size b pages) ≡ length pages
  length_wiped = simp (length-append, length-replicate, length-take, length-drop) (omega arith)

  pub wiped_inside : (k : ℕ) → b * size ≤ k → k < b * size + size → get_or (wiped size b pages) k free ≡ free
  wiped_inside k low high =
      let f = front in
      let rest : List Page = replicate size free ++ drop (b * size + size) pages in
      let e = get_or-append_right (take (b * size) pages) rest (b * size) k free f low in
      let g = get_or_append_left (replicate size free) (drop (b * size + size) pages) free (k - b * size) (simp length-replicate (omega arith)) in
      e ∙ g ∙ get_or-replicate size (k - b * size) free free (omega arith)

  pub wiped_outside : (k : ℕ) → (k < b * size) ⊎ (b * size + size ≤ k) → get_or (wiped size b pages) k free ≡ get_or pages k free
  wiped_outside k (inl low) =
      let f = front in
      let rest : List Page = replicate size free ++ drop (b * size + size) pages in
      get_or_append_left (take (b * size) pages) rest free k (omega arith) ∙ get_or-take (b * size) pages k free low
  wiped_outside k (inr high) =
      let f = front in
      let rest : List Page = replicate size free ++ drop (b * size + size) pages in
      let e = get_or-append_right (take (b * size) pages) rest (b * size) k free f (omega arith) in
      let g = get_or-append_right (replicate size free) (drop (b * size + size) pages) size (k - b * size) free (length-replicate size free) (omega arith) in
      let d = get_or-drop (b * size + size) pages (k - b * size - size) free in
      let n : b * size + size + (k - b * size - size) ≡ k = omega arith in
      e ∙ g ∙ d ∙ ap (λ x. get_or pages x free) n

-- a loop that erases block after block leaves all before it free
pub wiped_below : (size b : ℕ) (pages : List Page) → b * size + size ≤ length pages → ((k : ℕ) → k < b * size → get_or pages k free ≡ free)
    → (k : ℕ) → k < (b + 1) * size → get_or (wiped size b pages) k free ≡ free
wiped_below size b pages fits below k within =
    elim (cases_lt k (b * size)) [
      | inl before ↦ wiped_outside size b pages fits k (inl before) ∙ below k before
      | inr inside ↦ wiped_inside size b pages fits k inside (omega arith)
    ]

pub all_free : (n : ℕ) (pages : List Page) → length pages ≡ n → ((k : ℕ) → k < n → get_or pages k free ≡ free) → pages ≡ replicate n free
all_free n pages long each =
    ext_get_or free pages (replicate n free) (long ∙ sym (length-replicate n free)) (λ k within. each k (omega arith) ∙ sym (get_or-replicate n k free free (omega arith)))

-- the free pages of the chip gain what the block had not free
pub frees_wiped : (size b n : ℕ) (pages : List Page) → b * size + size ≤ length pages → b * size + size ≤ n
    → frees (λ k. get_or (wiped size b pages) k free) 0 n + frees (λ k. get_or pages k free) (b * size) size ≡ frees (λ k. get_or pages k free) 0 n + size
frees_wiped size b n pages fits room =
    frees_erase (λ k. get_or pages k free) (λ k. get_or (wiped size b pages) k free) (b * size) size (wiped_inside size b pages fits) (wiped_outside size b pages fits) n room

-- ---- in step with the history

module _ (size n : ℕ) where
  pub held_programmed : (h : History) (pages : List Page) (q l : ℕ) (d : List ℕ) (g : Bool) → q < length pages → Held size n h pages
      → Held size n (programmed q l d g ∷ h) (set pages q (programmed_as l d g))
  held_programmed h pages q l d g there held k within =
      elim (ℕ_discrete q k) [
        | yes same ↦ (let e = get_or-set_same pages q (programmed_as l d g) free there in let f = eq-eqb q k same in grind (arith, e, f))
        | no apart ↦ (let e = get_or-set_other pages q k (programmed_as l d g) free (λ e. apart (sym e)) in let f = ne_eqb q k apart in let o = held k within in grind (arith, e, f, o))
      ]

  pub held_erased : (h : History) (pages : List Page) (b : ℕ) → 0 < size → b * size + size ≤ length pages → Held size n h pages → Held size n (erased b ∷ h) (wiped size b pages)
  held_erased h pages b some fits held k within =
      elim (ℕ_discrete (k / size) b) [
        | yes same ↦ (let r = block_range size k b some same in wiped_inside size b pages fits k r.0 r.1 ∙ sym (cond-true (eqb (k / size) b) free (page_after size k h) (eq-eqb (k / size) b same)))
        | no apart ↦ (wiped_outside size b pages fits k (block_outside size k b apart) ∙ held k within ∙ sym (cond-false (eqb (k / size) b) free (page_after size k h) (ne_eqb (k / size) b apart)))
      ]

-- ---- the map in step

pub holder_good : (h : History) (q l : ℕ) (d : List ℕ) → holder l (programmed q l d true ∷ h) ≡ Some q
holder_good h q l d = cond-true (true && eqb l l) (Some q) (holder l h) (grind (arith, nat_tests))

pub holder_other : (h : History) (q l m : ℕ) (d : List ℕ) (g : Bool) → m ≢ l → holder m (programmed q l d g ∷ h) ≡ holder m h
holder_other h q l m d g apart = cond-false (g && eqb l m) (Some q) (holder m h) (grind (arith, nat_tests))

pub holder_failed : (h : History) (q l m : ℕ) (d : List ℕ) → holder m (programmed q l d false ∷ h) ≡ holder m h
holder_failed h q l m d = refl

pub named_good : (h : History) (maps now : ℕ → Option ℕ) (q l : ℕ) (d : List ℕ) → Named h maps → now l ≡ Some q → ((m : ℕ) → m ≢ l → now m ≡ maps m)
    → Named (programmed q l d true ∷ h) now
named_good h maps now q l d named mapped others m =
    elim (ℕ_discrete m l) [
      | yes same ↦ (let e = holder_good h q l d in cc)
      | no apart ↦ others m apart ∙ named m ∙ sym (holder_other h q l m d true apart)
    ]

-- the same for a table of the map
pub named_set : (h : History) (table : List (Option ℕ)) (q l : ℕ) (d : List ℕ) → l < length table → Named h (λ m. get_or table m None) → Named (programmed q l d true ∷ h) (λ m. get_or (set table l (Some q)) m None)
named_set h table q l d there named =
    named_good h (λ m. get_or table m None) (λ m. get_or (set table l (Some q)) m None) q l d named (get_or-set_same table l (Some q) None there) (λ m apart. get_or-set_other table l m (Some q) None apart)

-- dead pages by the tables are dead pages by the history
pub dead_in_step : (size n b : ℕ) (h : History) (maps : ℕ → Option ℕ) (pages : List Page) → Held size n h pages → Named h maps → b * size + size ≤ n
    → deads maps (λ q. get_or pages q free) (b * size) size ≡ dead_in size b h
dead_in_step size n b h maps pages held named fits =
    tally_same (λ q. is_dead maps q (get_or pages q free)) (λ q. is_dead (λ l. holder l h) q (page_after size q h)) (b * size) size
    (λ q low high. ap (is_dead maps q) (held q (omega arith)) ∙ same_map q (page_after size q h))
  where
    same_map : (q : ℕ) (x : Page) → is_dead maps q x ≡ is_dead (λ l. holder l h) q x
    same_map q free = refl
    same_map q spoiled = refl
    same_map q (written l d) = ap (λ o. not (names o q)) (named l)
