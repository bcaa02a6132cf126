-- What the makes of chips mean, by the bytes of their memory.
--
-- means_of       what memory means to a chip of some size, with so many failures left
-- size_for       the size that a chip takes on: what it is asked to be, or nothing
-- Whole          the sizes are in range, and memory is as long as they ask
-- plain_means    what a plain chip means: its memory, and no failure
-- NeverFails     a program that was accepted was good
-- flawed_means   what a flawed chip means: its memory, and as many failures as it has gaps left
-- gaps_of        the gaps that a flawed chip has left, the one that counts first
-- Counted        which program fails, and what it leaves of the gaps
-- made_flawed    what a flawed chip that was just made means
-- Held           the slot of a page; `Opened` where the slot lies of a page that may be programmed
-- Bounded        where the slots of a block lie
-- Put            memory after a program, as good or failed as the slot says; `Wiped` after an erase
use Rattle.std.specs.Prelude.{◌≡◌, ℕ, ◌+◌, ◌-◌, ◌*◌, ◌<◌, ◌≤◌, Bool, true, cond, not, List, length, drop, Some, None, Ok, Err, Result}
use Rattle.std.specs.declared.ops.Range.{Range}
use Rattle.chip.specs.declared.plain.Plain.{Plain}
use Rattle.chip.specs.declared.flawed.Flawed.{Flawed}
use Rattle.chip.specs.declared.size.Size.{Size}
use Rattle.chip.specs.declared.slot.Slot.{Slot}
use Rattle.chip.specs.declared.words.Refusal.{Refusal}
use Rattle.chip.specs.declared.words.Refusal.TheVariants.{NotThere}
use Rattle.chip.specs.Meaning.{Meaning, nothing}
use Rattle.chip.specs.Calls.{asks_program}
use Rattle.chip.specs.Gaps.{strikes, worn, good_gaps}
use Rattle.chip.specs.Slot.{wide, room, slot_at, fits, made, with_slot, blank_block}

abbrev pub means_of : Size → ℕ → List ℕ → Meaning
means_of s left memory = made s.blocks s.pages_per_block s.page_size left memory

-- the sizes are in range, and memory is as long as they ask
abbrev pub Whole : Size → ℕ → Type 0
Whole s long = fits s.blocks s.pages_per_block s.page_size long ≡ true

-- the size that a chip takes on in memory of so many bytes
abbrev pub size_for : Size → ℕ → Size
size_for s long =
    cond (fits s.blocks s.pages_per_block s.page_size long) s (record { blocks = 0; pages_per_block = 0; page_size = 0 })

-- ---- plain

abbrev pub plain_means : Plain → Meaning
plain_means c = means_of c.size 0 c.memory.now

abbrev pub NeverFails : Result Bool Refusal → Type 0
NeverFails (Ok good) = good ≡ true
NeverFails (Err e) = Unit {0}

-- the slot of a page is some range of memory of the right length
pub record Within (s : Size) (long q : ℕ) (at : Range ℕ) : Type 0 where
  pub whole : Whole s long
  pub there : q < s.blocks * s.pages_per_block
  pub begins : at.start ≡ q * wide s.page_size
  pub wide_slot : at.end ≡ at.start + wide s.page_size
  pub ends : at.end ≤ long

-- the bytes of a page's slot
pub record Holding (p : Plain) (q : ℕ) (slot : Slot) : Type 0 where
  pub whole : Whole p.size (length p.memory.now)
  pub there : q < p.size.blocks * p.size.pages_per_block
  pub bytes : slot.bytes.now ≡ slot_at p.size.page_size q p.memory.now
  pub wide_slot : room slot.bytes.now ≡ p.size.page_size

abbrev pub Held : Plain → ℕ → Result Slot Refusal → Type 0
Held p q (Ok slot) = Holding p q slot
Held p q (Err e) = (e ≡ NotThere) × (length (plain_means p).pages ≤ q)

abbrev pub Opened : Plain → ℕ → ℕ → Result (Range ℕ) Refusal → Type 0
Opened p q long (Ok at) = (asks_program (plain_means p) q long ≡ None) × Within p.size (length p.memory.now) q at × (long ≤ p.size.page_size)
Opened p q long (Err e) = asks_program (plain_means p) q long ≡ Some e

-- the slots of a block are some range of memory
pub record BlockWithin (s : Size) (long b : ℕ) (at : Range ℕ) : Type 0 where
  pub whole : Whole s long
  pub there : b < s.blocks
  pub begins : at.start ≡ b * s.pages_per_block * wide s.page_size
  pub wide_block : at.end ≡ at.start + s.pages_per_block * wide s.page_size
  pub ends : at.end ≤ long

abbrev pub Bounded : Plain → ℕ → Result (Range ℕ) Refusal → Type 0
Bounded p b (Ok at) = BlockWithin p.size (length p.memory.now) b at
Bounded p b (Err e) = (e ≡ NotThere) × ((plain_means p).blocks ≤ b)

-- ---- what the memory is after a call

-- memory of the right length, in which the slot of a page is another
pub record Touched (p : Plain) (q : ℕ) (slot : List ℕ) (p' : Plain) : Type 0 where
  pub whole : Whole p.size (length p.memory.now)
  pub there : q < p.size.blocks * p.size.pages_per_block
  pub fills : length slot ≡ wide p.size.page_size
  pub size : p'.size ≡ p.size
  pub bytes : p'.memory.now ≡ with_slot p.size.page_size q slot p.memory.now

pub record Blanked (p : Plain) (b : ℕ) (p' : Plain) : Type 0 where
  pub whole : Whole p.size (length p.memory.now)
  pub there : b < p.size.blocks
  pub size : p'.size ≡ p.size
  pub bytes : p'.memory.now ≡ blank_block p.size.page_size p.size.pages_per_block b p.memory.now

abbrev pub Untouched : Plain → Plain → Type 0
Untouched p p' = (p'.size ≡ p.size) × (p'.memory.now ≡ p.memory.now)

abbrev pub Put : Plain → ℕ → ℕ → List ℕ → Result (Unit {0}) Refusal → Plain → Type 0
Put p q long slot (Ok done) p' = (asks_program (plain_means p) q long ≡ None) × (long ≤ p.size.page_size) × Touched p q slot p'
Put p q long slot (Err e) p' = (asks_program (plain_means p) q long ≡ Some e) × Untouched p p'

abbrev pub Wiped : Plain → ℕ → Result (Unit {0}) Refusal → Plain → Type 0
Wiped p b (Ok done) p' = Blanked p b p'
Wiped p b (Err e) p' = (e ≡ NotThere) × ((plain_means p).blocks ≤ b) × Untouched p p'

-- ---- flawed

abbrev pub flawed_means : Flawed → Meaning
flawed_means c = means_of c.plain.size (8 - c.gaps.next) c.plain.memory.now

abbrev pub gaps_of : Flawed → List ℕ
gaps_of c = drop c.gaps.next c.gaps.table

-- just the accepted program on which the gap that counts is down to 1 fails; a refused one counts for nothing
abbrev pub Counted : List ℕ → Result Bool Refusal → List ℕ → Type 0
Counted gaps (Ok good) after = (good ≡ not (strikes gaps)) × (after ≡ worn gaps)
Counted gaps (Err e) after = after ≡ gaps

-- what a flawed chip that was just made means: nothing, unless its gaps are good and its sizes fit
abbrev pub made_flawed : ℕ → ℕ → ℕ → List ℕ → List ℕ → Meaning
made_flawed n per_block size gaps memory = cond (good_gaps gaps) (made n per_block size (length gaps) memory) nothing
