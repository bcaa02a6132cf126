-- What the store's work does to the history, to the map, to the pages of its chip and to where the next search starts.
--
-- round         a page number that may lie past the last page, counted on from the first
-- next_page     the page after this one, going round
-- Place         the page of the next program: the first free page, going up and round from the start, that is not passed over
-- Tried         failed tries, each at its place
-- Written       a write: failed tries and then a good one, on the page that the map names from then on
-- in_block      the pages of a block
-- Emptying      a block is emptied: its live pages are copied elsewhere, in ascending order
-- after_wipe    where the search starts when a block has been erased
-- erased_first  the erases of the first blocks, in ascending order
-- Still         an entry that leaves map and pages as they are
-- Emptied       no live page in a block
-- Worked        the histories of such work, from the opening on, each with map and pages after it
use Rattle.std.specs.Prelude.{◌≡◌, ℕ, zero, suc, ◌+◌, ◌-◌, ◌*◌, ◌/◌, ◌<◌, Bool, true, false, cond, ◌≢◌, List, ◌∷◌, length, get_or, replicate, Some, None, Option, ◌==◌, nat_lt, slice_index_or, slice_set}
use Rattle.chip.specs.Meaning.{Page, free, spoiled, written}
use Rattle.chip.specs.Calls.{is_free, wiped}
use Rattle.ledger.specs.declared.frame.Frame.{Frame}
use Rattle.history.specs.Pages.{is_live}
use Rattle.history.specs.History.{admitted, noticed, granted, handed_back, stored, Entry, opened, did, told, ticked, refused, programmed, asked, erased, History}
use Rattle.history.specs.Promise.{ShutPromise}

-- ---- the place of a program

abbrev pub round : ℕ → ℕ → ℕ
round total x = cond (nat_lt x total) x (x - total)

abbrev pub next_page : ℕ → ℕ → ℕ
next_page total q = cond (nat_lt (q + 1) total) (q + 1) 0

pub record Place (over : ℕ → Bool) (pages : List Page) (start q : ℕ) : Type 0 where
  pub steps : ℕ
  pub once : steps < length pages
  pub reached : q ≡ round (length pages) (start + steps)
  pub there : q < length pages
  pub allowed : over q ≡ false
  pub room : get_or pages q free ≡ free
  pub first :
      (j : ℕ) → j < steps → over (round (length pages) (start + j)) ≡ false → is_free (slice_index_or pages (round (length pages) (start + j)) free) ≡ false

-- ---- a write

-- failed tries of a label and its bytes: each spoils the page at its place, and the next search starts after that page
pub data Tried (over : ℕ → Bool) (l : ℕ) (d : List ℕ) (h : History) (pages : List Page) (start : ℕ) : ℕ → History → List Page → ℕ → Type 0 where
  none : Tried over l d h pages start 0 h pages start
  again : {n : ℕ} {t : History} {left : List Page} {from : ℕ} (q : ℕ) → Tried over l d h pages start n t left from → Place over left from q
      → Tried over l d h pages start (suc n) (programmed q l d false ∷ t) (slice_set left q spoiled) (next_page (length left) q)

pub record Written (over : ℕ → Bool) (l : ℕ) (d : List ℕ) (tries : ℕ) (h : History) (maps : ℕ → Option ℕ) (pages : List Page) (start : ℕ) (h' : History) (maps' : ℕ → Option ℕ) (pages' : List Page) (start' : ℕ) : Type 0 where
  pub failed : ℕ
  pub made : tries ≡ failed + 1
  pub before : History
  pub left : List Page
  pub from : ℕ
  pub tried : Tried over l d h pages start failed before left from
  pub place : ℕ
  pub placed : Place over left from place
  pub answers : h' ≡ programmed place l d true ∷ before
  pub put : pages' ≡ slice_set left place (written l d)
  pub onward : start' ≡ next_page (length left) place
  pub mapped : maps' l ≡ Some place
  pub others : (m : ℕ) → m ≢ l → maps' m ≡ maps m

-- ---- a recycle

abbrev pub in_block : ℕ → ℕ → ℕ → Bool
in_block per_block b q = q / per_block == b

-- after its first i pages so many copies were made; no place is taken in the block
pub data Emptying (per_block b : ℕ) (h : History) (maps : ℕ → Option ℕ) (pages : List Page) (start : ℕ) : ℕ → ℕ → History → (ℕ → Option ℕ) → List Page → ℕ → Type 0 where
  begun : Emptying per_block b h maps pages start 0 0 h maps pages start
  passed : {i copies : ℕ} {t : History} {now : ℕ → Option ℕ} {left : List Page} {from : ℕ} → Emptying per_block b h maps pages start i copies t now left from
      → is_live now (b * per_block + i) (slice_index_or left (b * per_block + i) free) ≡ false → Emptying per_block b h maps pages start (suc i) copies t now left from
  copied : {i copies : ℕ} {t u : History} {now next : ℕ → Option ℕ} {left new : List Page} {from onward : ℕ} {tries : ℕ} (l : ℕ) (d : List ℕ)
      → Emptying per_block b h maps pages start i copies t now left from
      → now l ≡ Some (b * per_block + i) → slice_index_or left (b * per_block + i) free ≡ written l d
      → Written (in_block per_block b) l d tries t now left from u next new onward
      → Emptying per_block b h maps pages start (suc i) (suc copies) u next new onward

-- a start that lay in the block goes back to the block's first page
abbrev pub after_wipe : ℕ → ℕ → ℕ → ℕ
after_wipe per_block b start = cond (in_block per_block b start) (b * per_block) start

-- ---- all work from the opening on

abbrev pub erased_first : ℕ → History → History
erased_first zero h = h
erased_first (suc n) h = erased n ∷ erased_first n h

abbrev pub Still : Entry → Type 0
Still (opened m y p) = ⊥
Still (did i (admitted p w plan)) = Unit {0}
Still (did i noticed) = Unit {0}
Still (did i granted) = Unit {0}
Still (did i handed_back) = Unit {0}
Still (did i (stored n d t)) = ⊥
Still (told n r d) = Unit {0}
Still (ticked a b c d) = Unit {0}
Still (refused c why) = Unit {0}
Still (programmed q l d g) = ⊥
Still (asked b) = Unit {0}
Still (erased b) = ⊥

abbrev pub Emptied : ℕ → ℕ → (ℕ → Option ℕ) → Type 0
Emptied per_block b maps = (l q : ℕ) → maps l ≡ Some q → q / per_block ≢ b

pub data Worked (f : Frame) : History → (ℕ → Option ℕ) → List Page → Type 0 where
  at_open : {maps : ℕ → Option ℕ} (before : History) → ShutPromise before → ((l : ℕ) → maps l ≡ None)
      → Worked f (opened f.numbers f.alpha f.pool ∷ erased_first f.blocks before) maps (replicate (f.blocks * f.pages_per_block) free)
  after_save : {h h' : History} {maps maps' : ℕ → Option ℕ} {pages pages' : List Page} {start start' : ℕ} {over : ℕ → Bool} (i n : ℕ) (d : List ℕ) (tries : ℕ)
      → Worked f h maps pages → Written over n d tries h maps pages start h' maps' pages' start' → Worked f (did i (stored n d tries) ∷ h') maps' pages'
  after_copy : {h h' : History} {maps maps' : ℕ → Option ℕ} {pages pages' : List Page} {start start' : ℕ} {over : ℕ → Bool} {tries : ℕ} (l q : ℕ) (d : List ℕ)
      → Worked f h maps pages → maps l ≡ Some q → slice_index_or pages q free ≡ written l d → Written over l d tries h maps pages start h' maps' pages' start' → Worked f h' maps' pages'
  after_erase : {h : History} {maps : ℕ → Option ℕ} {pages : List Page} (b : ℕ)
      → Worked f h maps pages → b < f.blocks → Emptied f.pages_per_block b maps → Worked f (erased b ∷ h) maps (wiped f.pages_per_block b pages)
  after_call : {h : History} {maps : ℕ → Option ℕ} {pages : List Page} (e : Entry) → Worked f h maps pages → Still e → Worked f (e ∷ h) maps pages
