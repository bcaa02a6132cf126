-- What a recycle does: every live page of a block is copied elsewhere, in ascending order, and the block is erased.
--
-- free_in, live_count, dead_count    the free, live and dead pages of a block
-- CanEmpty      the tables tell the truth, the buffer takes any page, and the free pages suffice for the copies of a
--               block's live pages outside it, whichever programs fail
-- EmptiedTo     after the first pages of a block: so many copies by so many tries
-- Empties       what emptying a block answers: under CanEmpty it always ends
-- wiped_tables  the tables after a block without live pages was erased; Wipes what the erase answers
-- CanRecycle    there is a block with α dead pages, and room for the copies of any such block
-- Recycled      a block with at least α dead pages was emptied and erased; Recycles what the recycle answers
use Rattle.std.specs.Prelude.{◌≡◌, ℕ, ◌+◌, ◌-◌, ◌*◌, ◌<◌, ◌≤◌, cond, ◌∷◌, length, Ok, Err, Result, nat_lt, slice_index, slice_set}
use Rattle.chip.specs.Meaning.{Meaning}
use Rattle.chip.specs.Calls.{wiped, with_block_free}
use Rattle.ledger.specs.declared.refusal.Refusal.{Refusal}
use Rattle.history.specs.Pages.{frees, lives, deads}
use Rattle.history.specs.History.{History, asked, count}
use Rattle.history.specs.Promise.{is_try}
use Rattle.history.specs.Work.{Emptying, Emptied as EmptiedBlock, after_wipe}
use Rattle.pages.specs.declared.emptied.Emptied.{Emptied}
use Rattle.pages.specs.declared.tables.Tables.{Tables}
use Rattle.pages.specs.Tied.{maps_of, page_in, Tied}
use Rattle.pages.specs.Write.{SameSize}

abbrev pub per_block : Tables → ℕ
per_block t = t.geometry.pages_per_block

abbrev pub free_in : Meaning → Tables → ℕ → ℕ
free_in m t b = frees (page_in m.pages) (b * per_block t) (per_block t)

abbrev pub live_count : Meaning → Tables → ℕ → ℕ
live_count m t b = lives (maps_of t) (page_in m.pages) (b * per_block t) (per_block t)

abbrev pub dead_count : Meaning → Tables → ℕ → ℕ
dead_count m t b = deads (maps_of t) (page_in m.pages) (b * per_block t) (per_block t)

abbrev pub all_free : Meaning → ℕ
all_free m = frees (page_in m.pages) 0 (length m.pages)

pub record CanEmpty (m : Meaning) (t : Tables) (b buffer : ℕ) : Type 0 where
  pub tied : Tied m.page_size m.pages t
  pub block : b < t.geometry.blocks
  pub wide : m.page_size ≤ buffer
  pub room : live_count m t b + free_in m t b + m.allowance ≤ all_free m

pub record EmptiedTo (m : Meaning) (t : Tables) (b i copies tries : ℕ) (n : Meaning) (u : Tables) : Type 0 where
  pub tried : copies ≤ tries
  pub failed : n.allowance + tries ≡ m.allowance + copies
  pub taken : all_free n + tries ≡ all_free m
  pub sizes : SameSize m n
  pub geometry : u.geometry ≡ t.geometry
  pub tied : Tied n.page_size n.pages u
  pub answers :
      (h : History)
      → ((h' : History) × Emptying (per_block t) b h (maps_of t) m.pages t.start i copies h' (maps_of u) n.pages u.start × (count is_try h' ≡ count is_try h + tries))

abbrev pub Empties : Meaning → Tables → ℕ → Result Emptied Refusal → Meaning → Tables → Type 0
Empties m t b (Err e) n u = ⊥
Empties m t b (Ok e) n u = EmptiedTo m t b (per_block t) e.copies e.tries n u

-- one page more was looked at, and copied if any program was called for it
abbrev pub added : Emptied → ℕ → Emptied
added e made = record { copies = e.copies + cond (nat_lt 0 made) 1 0; tries = e.tries + made }

-- ---- the erase

-- the tables know the chip's blocks
pub record SameBlocks (m : Meaning) (t : Tables) : Type 0 where
  pub blocks : m.blocks ≡ t.geometry.blocks
  pub pages : m.per_block ≡ per_block t

abbrev pub wiped_tables : Tables → ℕ → Tables
wiped_tables t b =
    record { map = t.map; dead = slice_set t.dead b 0; free = t.free + slice_index t.dead b; start = after_wipe (per_block t) b t.start; geometry = t.geometry }

pub record CanWipe (m : Meaning) (t : Tables) (b : ℕ) : Type 0 where
  pub tied : Tied m.page_size m.pages t
  pub shape : SameBlocks m t
  pub block : b < t.geometry.blocks
  pub emptied : EmptiedBlock (per_block t) b (maps_of t)

pub record Wiped (m : Meaning) (t : Tables) (b : ℕ) (n : Meaning) (u : Tables) : Type 0 where
  pub chip : n ≡ with_block_free m b
  pub tables : u ≡ wiped_tables t b
  pub tied : Tied n.page_size n.pages u

abbrev pub Wipes : Meaning → Tables → ℕ → Result (Unit {0}) Refusal → Meaning → Tables → Type 0
Wipes m t b (Err e) n u = ⊥
Wipes m t b (Ok x) n u = Wiped m t b n u

-- ---- the whole

-- with a yield of α: enough dead pages for a block worth emptying, and free pages for the copies of any such block
pub record CanRecycle (m : Meaning) (t : Tables) (α : ℕ) : Type 0 where
  pub tied : Tied m.page_size m.pages t
  pub shape : SameBlocks m t
  pub some : 1 ≤ α
  pub dead : (α - 1) * t.geometry.blocks < deads (maps_of t) (page_in m.pages) 0 (length m.pages)
  pub room : per_block t - α + m.allowance ≤ all_free m

-- a block with at least α dead pages was emptied and erased
pub record Recycled (m : Meaning) (t : Tables) (α copies tries : ℕ) (n : Meaning) (u : Tables) : Type 0 where
  pub block : ℕ
  pub there : block < t.geometry.blocks
  pub enough : α ≤ dead_count m t block
  pub copied : copies ≡ live_count m t block
  pub tried : copies ≤ tries
  pub failed : n.allowance + tries ≡ m.allowance + copies
  pub gained : all_free n + tries + free_in m t block ≡ all_free m + per_block t
  pub sizes : SameSize m n
  pub geometry : u.geometry ≡ t.geometry
  pub tied : Tied n.page_size n.pages u
  pub left : Meaning
  pub passed : Tables
  pub pages : n.pages ≡ wiped (per_block t) block left.pages
  pub map : maps_of u ≡ maps_of passed
  pub start : u.start ≡ after_wipe (per_block t) block passed.start
  pub answers :
      (h : History)
      → ((h' : History) × Emptying (per_block t) block (asked block ∷ h) (maps_of t) m.pages t.start (per_block t) copies h' (maps_of passed) left.pages passed.start
      × (count is_try h' ≡ count is_try h + tries))

abbrev pub Recycles : Meaning → Tables → ℕ → Result Emptied Refusal → Meaning → Tables → Type 0
Recycles m t α (Err e) n u = ⊥
Recycles m t α (Ok e) n u = Recycled m t α e.copies e.tries n u
