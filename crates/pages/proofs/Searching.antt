-- The steps of the search for a free page, over plain values.
use Rattle.std.proofs.Common.{◌≡◌, ℕ, ◌+◌, ◌-◌, ◌<◌, Bool, false, List, length, get_or, sym, ap, ◌∙◌, inl, inr, arith}
use Rattle.std.proofs.lemmas.Bool.{cases_lt}
use Rattle.std.proofs.lemmas.Bool.Decides.{nat_tests}
use Rattle.chip.specs.Meaning.{Page, free}
use Rattle.chip.specs.Calls.{is_free}
use Rattle.history.specs.Work.{round}

module _ (passed : ℕ → Bool) (pages : List Page) (total start : ℕ) (long : length pages ≡ total) (starts : start < total) where
  abbrev pub Looked : ℕ → Type 0
  Looked looked = (j : ℕ) → j < looked → passed (round total (start + j)) ≡ false → is_free (get_or pages (round total (start + j)) free) ≡ false

  pub looked_all : Looked total → (k : ℕ) → k < length pages → passed k ≡ false → is_free (get_or pages k free) ≡ false
  looked_all done k within =
      elim (cases_lt k start) [
        | inl below ↦ at (k + total - start) (omega arith) (grind (arith, nat_tests))
        | inr above ↦ at (k - start) (omega arith) (grind (arith, nat_tests))
      ]
    where
      at : (j : ℕ) → j < total → round total (start + j) ≡ k → passed k ≡ false → is_free (get_or pages k free) ≡ false
      at j h e open-to = ap (λ x. is_free (get_or pages x free)) (sym e) ∙ done j h (ap passed e ∙ open-to)
