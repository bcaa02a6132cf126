-- How a page lies in memory: a slot of 16 + B bytes, numbers big-endian.
--
-- wide         how many bytes a slot takes; `room` how many bytes of data it has room for
-- high, low    the two bytes of a number, the high one first
-- two          the number that two bytes of a slot stand for
-- slot_of      the slot that a label and data are written as
-- free_slot    the slot of an erased page; `failed_slot` the one that a failed program leaves
-- page_of      the page that a slot means
-- slot_at      the slot of a page's number; `with_slot` memory in which that slot alone is another
-- blank_block  memory in which the slots of one block are erased
-- programmed_bytes   memory after a program, by what it answered; `block_erased` after an erase
-- pages_of     the pages that memory means: its slots, one by one
-- laid         what memory means as a chip of some size
-- fits         sizes that a chip may have, and memory of just that length
-- made         what a chip that is made of memory means
-- Layout       the laws that tie the two directions
use Rattle.std.specs.Prelude.{◌≡◌, ℕ, zero, suc, ◌+◌, ◌-◌, ◌*◌, ◌/◌, ◌%◌, ◌<◌, ◌≤◌, Bool, true, false, cond, ◌&&◌, List, [], ◌∷◌, ◌++◌, length, take, drop, replicate, Ok, Err, Result, ◌==◌, nat_le, nat_lt, slice_index, slice_set}
use Rattle.chip.specs.Meaning.{Page, free, spoiled, written, Meaning, nothing}
use Rattle.chip.specs.Calls.{wiped, data_of, in_front}
use Rattle.chip.specs.declared.words.Refusal.{Refusal}

abbrev pub wide : ℕ → ℕ
wide size = 16 + size

-- how many bytes of data a slot has room for
abbrev pub room : List ℕ → ℕ
room slot = length slot - 16

-- ---- from a page to its slot

abbrev pub high : ℕ → ℕ
high n = n / 256

abbrev pub low : ℕ → ℕ
low n = n % 256

-- version, length, label, and eleven bytes that are not used
abbrev pub header : ℕ → ℕ → List ℕ
header long label = 1 ∷ high long ∷ low long ∷ high label ∷ low label ∷ replicate 11 255

abbrev pub slot_of : ℕ → ℕ → List ℕ → List ℕ
slot_of size label d = header (length d) label ++ (d ++ replicate (size - length d) 255)

abbrev pub free_slot : ℕ → List ℕ
free_slot size = replicate (wide size) 255

abbrev pub failed_slot : ℕ → List ℕ
failed_slot size = replicate (wide size) 0

-- ---- from a slot to its page

abbrev pub two : List ℕ → ℕ → ℕ
two slot i = slice_index slot i * 256 + slice_index slot (i + 1)

abbrev pub all_ones : List ℕ → Bool
all_ones [] = true
all_ones (b ∷ bs) = cond (b == 255) (all_ones bs) false

-- version 1, and a length that the page takes
abbrev pub is_written : ℕ → List ℕ → Bool
is_written size slot = cond (slice_index slot 0 == 1) (nat_le (two slot 1) size) false

unfoldable pub page_of : ℕ → List ℕ → Page
page_of size slot =
    cond (all_ones slot) free (cond (is_written size slot) (written (two slot 3) (take (two slot 1) (drop 16 slot))) spoiled)

-- what a fetch from a page leaves in the caller's buffer
abbrev pub fetched_onto : Page → Result (ℕ × ℕ) Refusal → List ℕ → List ℕ
fetched_onto x (Ok told) buffer = in_front (data_of x) buffer
fetched_onto x (Err e) buffer = buffer

-- ---- memory

abbrev pub slot_at : ℕ → ℕ → List ℕ → List ℕ
slot_at size q memory = take (wide size) (drop (q * wide size) memory)

abbrev pub with_slot : ℕ → ℕ → List ℕ → List ℕ → List ℕ
with_slot size q slot memory = take (q * wide size) memory ++ (slot ++ drop (q * wide size + wide size) memory)

abbrev pub blank_block : ℕ → ℕ → ℕ → List ℕ → List ℕ
blank_block size per_block b memory =
    take (b * per_block * wide size) memory
    ++ (replicate (per_block * wide size) 255 ++ drop (b * per_block * wide size + per_block * wide size) memory)

abbrev pub pages_of : ℕ → ℕ → List ℕ → List Page
pages_of zero size memory = []
pages_of (suc n) size memory = page_of size (take (wide size) memory) ∷ pages_of n size (drop (wide size) memory)

-- memory after a program or an erase, by what it answered
abbrev pub programmed_bytes : ℕ → ℕ → ℕ → List ℕ → Result Bool Refusal → List ℕ → List ℕ
programmed_bytes size q label d (Ok true) memory = with_slot size q (slot_of size label d) memory
programmed_bytes size q label d (Ok false) memory = with_slot size q (failed_slot size) memory
programmed_bytes size q label d (Err e) memory = memory

abbrev pub block_erased : ℕ → ℕ → ℕ → Result (Unit {0}) Refusal → List ℕ → List ℕ
block_erased size per_block b (Ok told) memory = blank_block size per_block b memory
block_erased size per_block b (Err e) memory = memory

-- what memory of some size means
abbrev pub laid : ℕ → ℕ → ℕ → ℕ → List ℕ → Meaning
laid n per_block size left memory =
    record { blocks = n; per_block = per_block; page_size = size; allowance = left; pages = pages_of (n * per_block) size memory }

-- ---- sizes

-- sizes that a chip may have
abbrev pub in_range : ℕ → ℕ → ℕ → Bool
in_range n per_block size = (nat_lt 0 n && nat_le n 64) && ((nat_lt 1 per_block && nat_le per_block 32) && (nat_lt 0 size && nat_le size 512))

-- how many bytes such a chip takes
abbrev pub taken : ℕ → ℕ → ℕ → ℕ
taken n per_block size = n * per_block * wide size

unfoldable pub fits : ℕ → ℕ → ℕ → ℕ → Bool
fits n per_block size long = in_range n per_block size && taken n per_block size == long

-- what a chip that is made of memory means: nothing, unless the sizes are in range and the memory is as long as they ask
abbrev pub made : ℕ → ℕ → ℕ → ℕ → List ℕ → Meaning
made n per_block size left memory = cond (fits n per_block size (length memory)) (laid n per_block size left memory) nothing

-- ---- the laws

pub record Layout : Type 0 where
  -- what a program writes reads back as the page that it means
  pub reads_back : (size label : ℕ) (d : List ℕ) → length d ≤ size → page_of size (slot_of size label d) ≡ written label d
  pub erased_is_free : (size : ℕ) → page_of size (free_slot size) ≡ free
  pub failed_is_spoiled : (size : ℕ) → page_of size (failed_slot size) ≡ spoiled
  -- a slot fills its place, so that its neighbours stay where they are
  pub written_fills : (size label : ℕ) (d : List ℕ) → length d ≤ size → length (slot_of size label d) ≡ wide size
  -- another slot is another page, and no other page changes
  pub one_page : (n size q : ℕ) (slot memory : List ℕ) → length memory ≡ n * wide size → q < n → length slot ≡ wide size
      → pages_of n size (with_slot size q slot memory) ≡ slice_set (pages_of n size memory) q (page_of size slot)
  -- and no byte outside the slot does
  pub no_byte_outside : (n size q k : ℕ) (slot memory : List ℕ) → length memory ≡ n * wide size → q < n → length slot ≡ wide size
      → (k < q * wide size → slice_index (with_slot size q slot memory) k ≡ slice_index memory k)
      × (q * wide size + wide size ≤ k → slice_index (with_slot size q slot memory) k ≡ slice_index memory k)
  -- an erased block is as many free pages, and no other page changes
  pub one_block : (n per_block size b : ℕ) (memory : List ℕ) → length memory ≡ n * per_block * wide size → b < n
      → pages_of (n * per_block) size (blank_block size per_block b memory) ≡ wiped per_block b (pages_of (n * per_block) size memory)
