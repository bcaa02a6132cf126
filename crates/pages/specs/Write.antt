-- What a write does: tries at one place after another until a program is good.
--
-- held         the free pages of the block that is passed over
-- CanWrite     the tables tell the truth, label and length are in range, and outside the block that is passed over
--              there are more free pages than programs that may still fail
-- SameSize     two meanings of one chip: blocks, pages and bytes never change
-- Wrote        a write of so many tries
-- Writes       what a write answers: under CanWrite it always ends in a good program
use Rattle.std.specs.Prelude.{◌≡◌, ℕ, ◌+◌, ◌*◌, ◌<◌, ◌≤◌, List, length, Some, None, Option, Ok, Err, Result}
use Rattle.chip.specs.Meaning.{Page, Meaning}
use Rattle.ledger.specs.declared.refusal.Refusal.{Refusal}
use Rattle.history.specs.Pages.{frees}
use Rattle.history.specs.History.{History}
use Rattle.history.specs.Work.{Written}
use Rattle.pages.specs.declared.tables.Tables.{Tables}
use Rattle.pages.specs.Search.{over}
use Rattle.pages.specs.Tied.{maps_of, page_in, Tied}

abbrev pub held : Tables → Option ℕ → List Page → ℕ
held t None pages = 0
held t (Some b) pages = frees (page_in pages) (b * t.geometry.pages_per_block) t.geometry.pages_per_block

abbrev pub Skips : Tables → Option ℕ → Type 0
Skips t None = Unit {0}
Skips t (Some b) = b < t.geometry.blocks

pub record CanWrite (m : Meaning) (t : Tables) (skip : Option ℕ) (l size : ℕ) : Type 0 where
  pub tied : Tied m.page_size m.pages t
  pub known : l < 1920
  pub fits : size ≤ m.page_size
  pub skips : Skips t skip
  pub room : m.allowance + held t skip m.pages < frees (page_in m.pages) 0 (length m.pages)

pub record SameSize (m n : Meaning) : Type 0 where
  pub blocks : n.blocks ≡ m.blocks
  pub per_block : n.per_block ≡ m.per_block
  pub page_size : n.page_size ≡ m.page_size

pub record Wrote (m : Meaning) (t : Tables) (skip : Option ℕ) (l : ℕ) (d : List ℕ) (tries : ℕ) (n : Meaning) (u : Tables) : Type 0 where
  pub failed : n.allowance + tries ≡ m.allowance + 1
  pub sizes : SameSize m n
  pub geometry : u.geometry ≡ t.geometry
  pub tied : Tied n.page_size n.pages u
  pub answers :
      (h : History) → ((h' : History) × Written (over t.geometry.pages_per_block skip) l d tries h (maps_of t) m.pages t.start h' (maps_of u) n.pages u.start)

abbrev pub Writes : Meaning → Tables → Option ℕ → ℕ → List ℕ → Result ℕ Refusal → Meaning → Tables → Type 0
Writes m t skip l d (Err e) n u = ⊥
Writes m t skip l d (Ok tries) n u = Wrote m t skip l d tries n u
