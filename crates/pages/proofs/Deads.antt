-- How many pages of a range are dead after a program.
use Rattle.std.proofs.Common.{◌≡◌, ℕ, ◌+◌, ◌<◌, ◌≤◌, true, false, not, ◌≢◌, ◌⊎◌, List, length, get_or, set, Some, None, Option, sym, refl, ap, ◌∙◌, arith, get_or-set_other, get_or-set_same, rules}
use native.Mathlib.Decide.{ℕ_discrete}
use Rattle.std.proofs.lemmas.Bool.Decides.{nat_tests}
use Rattle.chip.specs.Meaning.{Page, free, spoiled, written}
use Rattle.history.specs.Pages.{is_dead, names, deads}
use Rattle.history.proofs.Tally.{tally_same, tally_but_one}
use Rattle.pages.specs.Tied.{page_in}

named_self : (q : ℕ) → names (Some q) q ≡ true
named_self q = grind (arith, nat_tests)

named_not : (o : Option ℕ) (q : ℕ) → (o ≡ Some q → ⊥) → names o q ≡ false
named_not None q h = refl
named_not (Some r) q h = elim (ℕ_discrete r q) [ yes e ↦ absurd (h (ap Some e)) | no n ↦ grind (arith, nat_tests) ]

some_apart : (q k : ℕ) → k ≢ q → Some q ≡ Some k → ⊥
some_apart q k apart e = apart (cc)

module _ (pages : List Page) (q : ℕ) (there : q < length pages) (room : get_or pages q free ≡ free) where
  -- ---- a failed program: one dead page more

  module _ (maps : ℕ → Option ℕ) (a n : ℕ) where
    pub deads_failed : a ≤ q → q < a + n → deads maps (page_in (set pages q spoiled)) a n ≡ deads maps (page_in pages) a n + 1
    deads_failed low high =
        let t = tally_but_one (λ k. is_dead maps k (page_in (set pages q spoiled) k)) (λ k. is_dead maps k (page_in pages k)) a n q low high
        (λ k b c apart. ap (is_dead maps k) (get_or-set_other pages q k spoiled free apart)) in
        let was : is_dead maps q (page_in pages q) ≡ false = ap (is_dead maps q) room in
        let is : is_dead maps q (page_in (set pages q spoiled) q) ≡ true = ap (is_dead maps q) (get_or-set_same pages q spoiled free there) in
        grind arith

    pub deads_failed_elsewhere : (q < a) ⊎ (a + n ≤ q) → deads maps (page_in (set pages q spoiled)) a n ≡ deads maps (page_in pages) a n
    deads_failed_elsewhere out =
        tally_same (λ k. is_dead maps k (page_in (set pages q spoiled) k)) (λ k. is_dead maps k (page_in pages k)) a n
        (λ k b c. ap (is_dead maps k) (get_or-set_other pages q k spoiled free (omega arith)))

  -- ---- a good program: the page that the map named before is dead

  module _ (maps now : ℕ → Option ℕ) (l : ℕ) (d : List ℕ) (mapped : now l ≡ Some q) (rest : (m : ℕ) → m ≢ l → now m ≡ maps m) where
    dead_still : (k : ℕ) → (maps l ≡ Some k → ⊥) → is_dead now k (page_in (set pages q (written l d)) k) ≡ is_dead maps k (page_in pages k)
    dead_still k other = search rules

    module _ (a n : ℕ) where
      pub deads_good : ((k : ℕ) → a ≤ k → k < a + n → maps l ≡ Some k → ⊥) → deads now (page_in (set pages q (written l d))) a n ≡ deads maps (page_in pages) a n
      deads_good none =
          tally_same (λ k. is_dead now k (page_in (set pages q (written l d)) k)) (λ k. is_dead maps k (page_in pages k)) a n (λ k b c. dead_still k (none k b c))

      pub deads_superseded : (old : ℕ) (e : List ℕ) → maps l ≡ Some old → get_or pages old free ≡ written l e → a ≤ old → old < a + n
          → deads now (page_in (set pages q (written l d))) a n ≡ deads maps (page_in pages) a n + 1
      deads_superseded old e named was low high =
          let apart : old ≢ q = λ same. (let z : free ≡ written l e = sym room ∙ ap (page_in pages) (sym same) ∙ was in let y : ◌≡◌ {A = ℕ} 0 1 = cc in omega arith) in
          let t = tally_but_one (λ k. is_dead now k (page_in (set pages q (written l d)) k)) (λ k. is_dead maps k (page_in pages k)) a n old low high
          (λ k b c differ. dead_still k (λ f. differ (some_is k f))) in
          let before : is_dead maps old (page_in pages old) ≡ false = ap (is_dead maps old) was ∙ ap (λ o. not (names o old)) named ∙ ap not (named_self old) in
          let after : is_dead now old (page_in (set pages q (written l d)) old) ≡ true =
          ap (is_dead now old) (get_or-set_other pages q old (written l d) free apart ∙ was) ∙ ap (λ o. not (names o old)) mapped ∙ ap not (named_not (Some q) old (some_apart q old apart)) in
          grind arith
        where
          some_is : (k : ℕ) → maps l ≡ Some k → k ≡ old
          some_is k f = cc (f, named)
