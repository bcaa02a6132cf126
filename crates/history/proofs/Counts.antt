-- Free, live and dead pages: what they add up to, and what a program or an erase does to each.
use Rattle.std.proofs.Common.{◌≡◌, ℕ, ◌+◌, ◌-◌, ◌*◌, ◌<◌, ◌≤◌, Bool, true, false, cond, ◌≢◌, ◌⊎◌, List, length, get_or, set, Some, None, sum, Option, sym, refl, ap, ◌∙◌, inl, inr, zero-add, arith, get_or-set_other, get_or-set_same}
use native.Mathlib.Decide.{ℕ_discrete}
use Rattle.std.proofs.lemmas.List.{take_all}
use Rattle.std.proofs.lemmas.Bool.{cases_Bool, cases_lt}
use Rattle.std.proofs.lemmas.Bool.Decides.{nat_tests}
use Rattle.chip.specs.Meaning.{Page, free, spoiled, written}
use Rattle.chip.specs.Calls.{is_free}
use Rattle.history.specs.Pages.{tally, is_live, is_dead, names, frees, lives, deads}
use Rattle.history.proofs.Tally.{tally_some, tally_all, tally_same, tally_but_one, tally_three, tally_labels, tally_split, tally_blocks}

-- just one of the three
one_kind : (maps : ℕ → Option ℕ) (q : ℕ) (x : Page) → cond (is_free x) 1 0 + cond (is_live maps q x) 1 0 + cond (is_dead maps q x) 1 0 ≡ 1
one_kind maps q free = refl
one_kind maps q spoiled = refl
one_kind maps q (written l d) = elim (cases_Bool (names (maps l) q)) [ inl a ↦ grind arith | inr b ↦ grind arith ]

label_of : Page → ℕ
label_of free = 0
label_of spoiled = 0
label_of (written l d) = l

place_of : Option ℕ → ℕ
place_of None = 0
place_of (Some q) = q

names_place : (o : Option ℕ) (q : ℕ) → names o q ≡ true → o ≡ Some q
names_place None q h = absurd (grind arith)
names_place (Some r) q h = let e : r ≡ q = grind (arith, nat_tests) in cc

names_other : (o : Option ℕ) (q : ℕ) → (o ≡ Some q → ⊥) → names o q ≡ false
names_other None q h = refl
names_other (Some r) q h = elim (ℕ_discrete r q) [ yes e ↦ absurd (h (ap Some e)) | no n ↦ grind (arith, nat_tests) ]

pub live_named : (maps : ℕ → Option ℕ) (q : ℕ) (x : Page) → is_live maps q x ≡ true → (l : ℕ) × (d : List ℕ) × (x ≡ written l d) × (maps l ≡ Some q)
live_named maps q free h = absurd (grind arith)
live_named maps q spoiled h = absurd (grind arith)
live_named maps q (written l d) h = (l, d, refl, names_place (maps l) q h)

pub live_by_map : (maps : ℕ → Option ℕ) (q l : ℕ) (d : List ℕ) (x : Page) → x ≡ written l d → maps l ≡ Some q → is_live maps q x ≡ true
live_by_map maps q l d x is named = ap (is_live maps q) is ∙ ap (λ o. names o q) named ∙ grind (arith, nat_tests)

module _ (maps : ℕ → Option ℕ) (page : ℕ → Page) where
  -- every page is free, live or dead
  pub kinds_sum : (q n : ℕ) → frees page q n + lives maps page q n + deads maps page q n ≡ n
  kinds_sum q n = tally_three _ _ _ q n (λ k a b. one_kind maps k (page k))

  -- no more pages are live than there are labels
  pub lives_le : (n m : ℕ) → ((l q : ℕ) → maps l ≡ Some q → l < m) → lives maps page 0 n ≤ m
  unfolding label_of place_of
  lives_le n m within =
      tally_labels (λ k. is_live maps k (page k)) (λ k. label_of (page k)) (λ l. place_of (maps l)) n m
      (λ k h live. let w = live_named maps k (page k) live in ap (λ x. place_of (maps (label_of x))) w.2 ∙ ap place_of w.3)
      (λ k h live. let w = live_named maps k (page k) live in let e : label_of (page k) ≡ w.0 = ap label_of w.2 in omega (arith, within w.0 k w.3))

  -- the counts of the blocks add up to the count of the chip
  pub deads_sum : (counts : List ℕ) (size n : ℕ) → length counts ≡ n → ((b : ℕ) → b < n → get_or counts b 0 ≡ deads maps page (b * size) size) → sum counts ≡ deads maps page 0 (n * size)
  deads_sum counts size n long each =
      let t = tally_blocks (λ k. is_dead maps k (page k)) size counts n (omega arith) each in
      let e = take_all n counts (omega arith) in
      cc

-- a part of a range, and what stands before and after it
pub tally_around : (p : ℕ → Bool) (a s n : ℕ) → a + s ≤ n → tally p 0 n ≡ tally p 0 a + tally p a s + tally p (a + s) (n - (a + s))
tally_around p a s n h =
    let e = tally_split p 0 (a + s) (n - (a + s)) in
    let f = tally_split p 0 a s in
    let g : a + s + (n - (a + s)) ≡ n = omega arith in
    cc (zero-add a, zero-add (a + s))

-- a block does not hold all that is free
pub free_outside : (page : ℕ → Page) (a s n : ℕ) → a + s ≤ n → frees page a s < frees page 0 n
    → (k : ℕ) × (k < n) × (is_free (page k) ≡ true) × ((k < a) ⊎ (a + s ≤ k))
free_outside page a s n h more =
    let p : ℕ → Bool = λ k. is_free (page k) in
    let t = tally_around p a s n h in
    elim (cases_lt 0 (tally p 0 a)) [
      | inl low ↦ (let w = tally_some p 0 a low in (w.0, omega (arith, w.2), w.3, inl (omega (arith, w.2))))
      | inr none ↦ (let w = tally_some p (a + s) (n - (a + s)) (omega (arith, t, none, more)) in (w.0, omega (arith, w.2), w.3, inr w.1))
    ]

-- ---- one page changes
module _ (page after : ℕ → Page) (q : ℕ) (others : (k : ℕ) → k ≢ q → after k ≡ page k) where
  pub frees_program : (a n : ℕ) → a ≤ q → q < a + n → page q ≡ free → is_free (after q) ≡ false → frees page a n ≡ frees after a n + 1
  frees_program a n low high was now =
      let t = tally_but_one (λ k. is_free (page k)) (λ k. is_free (after k)) a n q low high (λ k b c apart. ap is_free (sym (others k apart))) in
      let e : is_free (page q) ≡ true = ap is_free was in
      grind arith

  pub frees_elsewhere : (a n : ℕ) → (q < a) ⊎ (a + n ≤ q) → frees after a n ≡ frees page a n
  frees_elsewhere a n out = tally_same (λ k. is_free (after k)) (λ k. is_free (page k)) a n (λ k b c. ap is_free (others k (omega arith)))

-- ---- the map names another page for a label
module _ (page after : ℕ → Page) (maps now : ℕ → Option ℕ) (l q : ℕ) (mapped : now l ≡ Some q) (rest : (m : ℕ) → m ≢ l → now m ≡ maps m) where
  pub live_new : (d : List ℕ) → after q ≡ written l d → is_live now q (after q) ≡ true
  live_new d wrote = ap (is_live now q) wrote ∙ ap (λ o. names o q) mapped ∙ grind (arith, nat_tests)

  same_label : (k : ℕ) → k ≢ q → (maps l ≡ Some k → ⊥) → (x : Page) → is_live now k x ≡ is_live maps k x
  same_label k apart other free = refl
  same_label k apart other spoiled = refl
  same_label k apart other (written m e) =
      elim (ℕ_discrete m l) [
        | yes same ↦ (let o = names_other (maps l) k other in let n : names (Some q) k ≡ false = grind (arith, nat_tests) in cc)
        | no differ ↦ ap (λ o. names o k) (rest m differ)
      ]

  -- a page that stays is as live as it was, but for the one that the map named for the label
  pub live_kept : (k : ℕ) → after k ≡ page k → k ≢ q → (maps l ≡ Some k → ⊥) → is_live now k (after k) ≡ is_live maps k (page k)
  live_kept k stays apart other = ap (is_live now k) stays ∙ same_label k apart other (page k)

  pub live_moved : (k : ℕ) (e : List ℕ) → after k ≡ page k → k ≢ q → page k ≡ written l e → is_live now k (after k) ≡ false
  live_moved k e stays apart was =
      ap (is_live now k) stays ∙ ap (is_live now k) was ∙ ap (λ o. names o k) mapped ∙ grind (arith, nat_tests)

  module _ (a n : ℕ) (out : (q < a) ⊎ (a + n ≤ q)) (stay : (k : ℕ) → a ≤ k → k < a + n → after k ≡ page k) where
    -- in a range that stays, one live page less
    pub lives_copy : (k : ℕ) (e : List ℕ) → a ≤ k → k < a + n → page k ≡ written l e → maps l ≡ Some k → lives maps page a n ≡ lives now after a n + 1
    lives_copy k e low high was named =
        let t = tally_but_one (λ i. is_live maps i (page i)) (λ i. is_live now i (after i)) a n k low high
        (λ i b c differ. sym (live_kept i (stay i b c) (omega arith) (λ f. differ (cc)))) in
        let x = live_moved k e (stay k low high) (omega arith) was in
        let y = live_by_map maps k l e (page k) was named in
        grind arith

    -- or as many as before
    pub lives_elsewhere : ((k : ℕ) → a ≤ k → k < a + n → maps l ≡ Some k → ⊥) → lives now after a n ≡ lives maps page a n
    lives_elsewhere none = tally_same (λ i. is_live now i (after i)) (λ i. is_live maps i (page i)) a n (λ i b c. live_kept i (stay i b c) (omega arith) (none i b c))

-- ---- a range is erased
module _ (page after : ℕ → Page) (a s : ℕ) (inside : (k : ℕ) → a ≤ k → k < a + s → after k ≡ free) (outside : (k : ℕ) → (k < a) ⊎ (a + s ≤ k) → after k ≡ page k) where
  pub frees_erased : frees after a s ≡ s
  frees_erased = tally_all (λ k. is_free (after k)) a s (λ k b c. ap is_free (inside k b c))

  pub frees_erase : (n : ℕ) → a + s ≤ n → frees after 0 n + frees page a s ≡ frees page 0 n + s
  frees_erase n fits =
      let p : ℕ → Bool = λ k. is_free (page k) in
      let r : ℕ → Bool = λ k. is_free (after k) in
      let t = tally_around p a s n fits in
      let u = tally_around r a s n fits in
      let b = tally_same r p 0 a (λ k c d. ap is_free (outside k (inl (omega arith)))) in
      let e = tally_same r p (a + s) (n - (a + s)) (λ k c d. ap is_free (outside k (inr c))) in
      omega (arith, frees_erased, t, u, b, e)

-- ---- the same on a list of pages

pub frees_set : (pages : List Page) (q a n : ℕ) (x : Page) → q < length pages → get_or pages q free ≡ free → is_free x ≡ false → a ≤ q → q < a + n
    → frees (λ k. get_or pages k free) a n ≡ frees (λ k. get_or (set pages q x) k free) a n + 1
frees_set pages q a n x there room taken low high =
    frees_program (λ k. get_or pages k free) (λ k. get_or (set pages q x) k free) q (λ k apart. get_or-set_other pages q k x free apart) a n low high room
    (ap is_free (get_or-set_same pages q x free there) ∙ taken)

pub frees_set_elsewhere : (pages : List Page) (q a n : ℕ) (x : Page) → (q < a) ⊎ (a + n ≤ q) → frees (λ k. get_or (set pages q x) k free) a n ≡ frees (λ k. get_or pages k free) a n
frees_set_elsewhere pages q a n x out =
    frees_elsewhere (λ k. get_or pages k free) (λ k. get_or (set pages q x) k free) q (λ k apart. get_or-set_other pages q k x free apart) a n out
