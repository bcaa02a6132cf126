-- When the tables tell the truth about a chip, and what a program makes of them.
--
-- maps_of     the map as a function: the chip page of a page number
-- buried      one page more of a block is dead
-- spoilt      the tables after a failed program on a page
-- settled     the tables after a good program of a label on a page
-- Tied        the map names written pages that carry its page numbers as labels and hold no more bytes than a page
--             takes, and the counts of free and dead pages are those of the chip
use Rattle.std.specs.Prelude.{◌≡◌, ℕ, ◌+◌, ◌-◌, ◌*◌, ◌/◌, ◌<◌, ◌≤◌, List, length, Some, None, Option, slice_index, slice_index_or, slice_set}
use Rattle.chip.specs.Meaning.{Page, free, written}
use Rattle.history.specs.Pages.{frees, deads}
use Rattle.history.specs.Work.{next_page}
use Rattle.pages.specs.declared.tables.Tables.{Tables}
use Rattle.pages.specs.Search.{total, Sized}

abbrev pub maps_of : Tables → ℕ → Option ℕ
maps_of t l = slice_index_or t.map l None

abbrev pub page_in : List Page → ℕ → Page
page_in pages q = slice_index_or pages q free

-- ---- what a program makes of the tables

abbrev pub block_of : Tables → ℕ → ℕ
block_of t q = q / t.geometry.pages_per_block

abbrev pub buried : Tables → ℕ → List ℕ
buried t q = slice_set t.dead (block_of t q) (slice_index t.dead (block_of t q) + 1)

abbrev pub with_dead : Tables → List ℕ → Tables
with_dead t dead = record { map = t.map; dead = dead; free = t.free; start = t.start; geometry = t.geometry }

abbrev pub spoilt : Tables → ℕ → Tables
spoilt t q = record { map = t.map; dead = buried t q; free = t.free - 1; start = next_page (total t.geometry) q; geometry = t.geometry }

-- the page that the map named before, if any, is dead
abbrev pub superseded : Tables → Option ℕ → List ℕ
superseded t None = t.dead
superseded t (Some old) = buried t old

abbrev pub settled : Tables → ℕ → ℕ → Tables
settled t l q =
    record {
      map = slice_set t.map l (Some q);
      dead = superseded t (maps_of t l);
      free = t.free - 1;
      start = next_page (total t.geometry) q;
      geometry = t.geometry;
    }

-- a page lies in a block that has a counter, and the counter is not at its end
abbrev pub Countable : Tables → ℕ → Type 0
Countable t q = (block_of t q < 64) × (slice_index t.dead (block_of t q) < 255)

-- a page number has an entry in the map, and what stands there can be counted as dead
abbrev pub Replaceable : Tables → ℕ → Type 0
Replaceable t l = (l < 1920) × ((q : ℕ) → maps_of t l ≡ Some q → Countable t q)

-- ---- the tie

-- a map names written pages of at most so many bytes, and their label is the page number
abbrev pub Labelled : ℕ → List Page → (ℕ → Option ℕ) → Type 0
Labelled most pages maps = (l q : ℕ) → maps l ≡ Some q → (q < length pages) × ((d : List ℕ) × (page_in pages q ≡ written l d) × (length d ≤ most))

pub record Tied (most : ℕ) (pages : List Page) (t : Tables) : Type 0 where
  pub sized : Sized pages t
  pub numbers : length t.map ≡ 1920
  pub counters : length t.dead ≡ 64
  pub labelled : Labelled most pages (maps_of t)
  pub free_pages : t.free ≡ frees (page_in pages) 0 (length pages)
  pub dead_pages :
      (b : ℕ) → b < t.geometry.blocks
      → slice_index t.dead b ≡ deads (maps_of t) (page_in pages) (b * t.geometry.pages_per_block) t.geometry.pages_per_block
