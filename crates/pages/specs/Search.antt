-- What a search for a free page answers.
--
-- total       how many pages a chip has
-- over        the pages that a search passes over: none, or those of the block being emptied
-- Sized       the tables know how many pages the chip has, and the search starts at one of them
-- Found       the place, or that there is none
use Rattle.std.specs.Prelude.{◌≡◌, ℕ, ◌*◌, ◌<◌, Bool, false, List, length, Some, None, Option, slice_index_or}
use Rattle.chip.specs.Meaning.{Page, free}
use Rattle.chip.specs.Calls.{is_free}
use Rattle.history.specs.Work.{Place, in_block}
use Rattle.pages.specs.declared.geometry.Geometry.{Geometry}
use Rattle.pages.specs.declared.tables.Tables.{Tables}

abbrev pub total : Geometry → ℕ
total g = g.blocks * g.pages_per_block

abbrev pub over : ℕ → Option ℕ → ℕ → Bool
over per_block None = λ q. false
over per_block (Some b) = in_block per_block b

pub record Sized (pages : List Page) (t : Tables) : Type 0 where
  pub long : length pages ≡ total t.geometry
  pub starts : t.start < total t.geometry

abbrev pub Found : (ℕ → Bool) → List Page → ℕ → Option ℕ → Type 0
Found passed pages start None = (k : ℕ) → k < length pages → passed k ≡ false → is_free (slice_index_or pages k free) ≡ false
Found passed pages start (Some q) = Place passed pages start q
