-- What copying a page out of its block does.
--
-- live_in      whether a chip page is live, by the tables and the chip
-- CanCopy      the tables tell the truth, the buffer takes any page, and if the page is live there is room for its copy
--              outside its block
-- Moved        a live page was written elsewhere
-- Copied       a page was not live, and nothing was done; or it was moved by so many tries
-- Copies       what the call answers: under CanCopy it always ends
use Rattle.std.specs.Prelude.{◌≡◌, ℕ, ◌+◌, ◌<◌, ◌≤◌, Bool, true, false, ◌⊎◌, List, length, Some, Ok, Err, Result}
use Rattle.chip.specs.Meaning.{written, Meaning}
use Rattle.ledger.specs.declared.refusal.Refusal.{Refusal}
use Rattle.history.specs.Pages.{is_live, frees}
use Rattle.pages.specs.declared.tables.Tables.{Tables}
use Rattle.pages.specs.Tied.{maps_of, page_in, Tied}
use Rattle.pages.specs.Write.{held, Wrote}

abbrev pub live_in : Meaning → Tables → ℕ → Bool
live_in m t q = is_live (maps_of t) q (page_in m.pages q)

pub record CanCopy (m : Meaning) (t : Tables) (b q buffer : ℕ) : Type 0 where
  pub tied : Tied m.page_size m.pages t
  pub block : b < t.geometry.blocks
  pub wide : m.page_size ≤ buffer
  pub room : live_in m t q ≡ true → m.allowance + held t (Some b) m.pages < frees (page_in m.pages) 0 (length m.pages)

abbrev pub Moved : Meaning → Tables → ℕ → ℕ → ℕ → Meaning → Tables → Type 0
Moved m t b q tries n u =
    (l : ℕ) × (d : List ℕ) × (maps_of t l ≡ Some q) × (page_in m.pages q ≡ written l d) × Wrote m t (Some b) l d tries n u

abbrev pub Copied : Meaning → Tables → ℕ → ℕ → ℕ → Meaning → Tables → Type 0
Copied m t b q tries n u = ((tries ≡ 0) × (live_in m t q ≡ false) × (n ≡ m) × (u ≡ t)) ⊎ Moved m t b q tries n u

abbrev pub Copies : Meaning → Tables → ℕ → ℕ → Result ℕ Refusal → Meaning → Tables → Type 0
Copies m t b q (Err e) n u = ⊥
Copies m t b q (Ok tries) n u = Copied m t b q tries n u
