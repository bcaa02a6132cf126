-- What each call of a chip answers, and what the chip means after it.
--
-- number           the number of a refusal
-- shape_of         what `shape` answers
-- kind_of          what kind a page is; `kind_told` what `kind` answers
-- asks_program     the first question of a program that fails, if any does
-- programmed       the meaning after an accepted program that was good, or that failed
-- Programmed       what a program may answer, and what the chip then means
-- fetched          what `fetch` answers; `fetched_into` what the caller's buffer then holds
-- erased           the meaning after an accepted erase
use Rattle.std.specs.Prelude.{◌≡◌, ℕ, ◌+◌, ◌-◌, ◌*◌, ◌≤◌, Bool, true, false, cond, List, [], ◌++◌, length, take, drop, replicate, Some, None, Ok, Err, Option, Result, nat_le, nat_lt, slice_set}
use Rattle.chip.specs.declared.words.Kind.{Kind}
use Rattle.chip.specs.declared.words.Kind.TheVariants.{Free, Spoiled, Written}
use Rattle.chip.specs.declared.words.Refusal.{Refusal}
use Rattle.chip.specs.declared.words.Refusal.TheVariants.{NotThere, WrongKind, TooLong}
use Rattle.chip.specs.declared.words.Shape.{Shape}
use Rattle.chip.specs.Meaning.{Page, free, spoiled, written, Meaning, page_at}

abbrev pub number : Refusal → ℕ
number NotThere = 21
number WrongKind = 22
number TooLong = 23

-- ---- shape and kind

abbrev pub shape_of : Meaning → Shape
shape_of m = record { blocks = m.blocks; pages_per_block = m.per_block; page_size = m.page_size; allowance = m.allowance }

abbrev pub kind_of : Page → Kind
kind_of free = Free
kind_of spoiled = Spoiled
kind_of (written l d) = Written

abbrev pub kind_told : Meaning → ℕ → Result Kind Refusal
kind_told m q = cond (nat_lt q (length m.pages)) (Ok (kind_of (page_at m q))) (Err NotThere)

-- ---- program

abbrev pub is_free : Page → Bool
is_free free = true
is_free spoiled = false
is_free (written l d) = false

abbrev pub asks_program : Meaning → ℕ → ℕ → Option Refusal
asks_program m q long =
    cond (nat_lt q (length m.pages)) (cond (is_free (page_at m q)) (cond (nat_le long m.page_size) None (Some TooLong)) (Some WrongKind)) (Some NotThere)

-- a page becomes what a program makes of it, and the allowance falls by what the program cost
abbrev pub with_page : Meaning → ℕ → Page → ℕ → Meaning
with_page m q x cost = record { blocks = m.blocks; per_block = m.per_block; page_size = m.page_size; allowance = m.allowance - cost; pages = slice_set m.pages q x }

abbrev pub programmed : Meaning → ℕ → ℕ → List ℕ → Bool → Meaning
programmed m q label d true = with_page m q (written label d) 0
programmed m q label d false = with_page m q spoiled 1

-- a chip chooses whether a program is good; one that fails was allowed to
abbrev pub MayEnd : Meaning → Bool → Type 0
MayEnd m true = Unit {0}
MayEnd m false = 1 ≤ m.allowance

abbrev pub Programmed : Meaning → ℕ → ℕ → List ℕ → Result Bool Refusal → Meaning → Type 0
Programmed m q label d (Ok good) n = (asks_program m q (length d) ≡ None) × MayEnd m good × (n ≡ programmed m q label d good)
Programmed m q label d (Err e) n = (asks_program m q (length d) ≡ Some e) × (n ≡ m)

-- ---- fetch

abbrev pub data_of : Page → List ℕ
data_of free = []
data_of spoiled = []
data_of (written l d) = d

-- what a fetch from this page into a buffer of this length answers
abbrev pub fetched_page : Page → ℕ → Result (ℕ × ℕ) Refusal
fetched_page free room = Err WrongKind
fetched_page spoiled room = Err WrongKind
fetched_page (written l d) room = cond (nat_le (length d) room) (Ok (l, length d)) (Err TooLong)

abbrev pub fetched : Meaning → ℕ → ℕ → Result (ℕ × ℕ) Refusal
fetched m q room = cond (nat_lt q (length m.pages)) (fetched_page (page_at m q) room) (Err NotThere)

-- data at the front of a buffer, whose rest stays
abbrev pub in_front : List ℕ → List ℕ → List ℕ
in_front d buffer = d ++ drop (length d) buffer

abbrev pub fetched_into : Meaning → ℕ → Result (ℕ × ℕ) Refusal → List ℕ → List ℕ
fetched_into m q (Ok told) buffer = in_front (data_of (page_at m q)) buffer
fetched_into m q (Err e) buffer = buffer

-- ---- erase

abbrev pub erase_told : Meaning → ℕ → Result (Unit {0}) Refusal
erase_told m b = cond (nat_lt b m.blocks) (Ok tt) (Err NotThere)

abbrev pub wiped : ℕ → ℕ → List Page → List Page
wiped per_block b pages = take (b * per_block) pages ++ (replicate per_block free ++ drop (b * per_block + per_block) pages)

abbrev pub with_block_free : Meaning → ℕ → Meaning
with_block_free m b = record { blocks = m.blocks; per_block = m.per_block; page_size = m.page_size; allowance = m.allowance; pages = wiped m.per_block b m.pages }

abbrev pub erased : Meaning → ℕ → Meaning
erased m b = cond (nat_lt b m.blocks) (with_block_free m b) m
