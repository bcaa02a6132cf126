-- The theorems on pages, map and history.
--
-- PlaceIsOne         a search from one start has one place at most
-- WorkKeeps          whatever the store's work was, what was saved is kept, the map names the live pages, and the chip holds what its answers say
-- WorkCounts         dead pages by map and pages are dead pages by the history
-- LiveEraseBreaks    with a live page in the block that is erased, no map and no pages can keep all three
-- ChoiceYields       a block that is named under the yield law, while free pages do not exceed all tokens by the yield, has at least
--                    the yield in dead pages; the pages to be copied and its free pages fill no more than the rest
-- WriteCosts         a write takes as many free pages as it makes tries
-- RecycleKeeps       a whole recycle: all is kept, the copies are the pages that were live, they and the tries are counted by the
--                    history, and the free pages gain what the block had not free, less the tries
-- RecycleRight       so a recycle of a block with enough dead pages is entered as it should be
use Rattle.std.specs.Prelude.{◌≡◌, ℕ, ◌+◌, ◌-◌, ◌*◌, ◌/◌, ◌<◌, ◌≤◌, Bool, List, ◌∷◌, length, Some, Option, slice_index, slice_index_or}
use Rattle.chip.specs.Meaning.{Page, free}
use Rattle.chip.specs.Calls.{wiped}
use Rattle.chooser.specs.Law.{Yields}
use Rattle.plan.specs.Yield.{YieldRule}
use Rattle.ledger.specs.declared.frame.Frame.{Frame}
use Rattle.history.specs.Pages.{frees, lives, deads}
use Rattle.history.specs.History.{History, asked, erased, count, since, last_saved, holder, dead_in}
use Rattle.history.specs.Promise.{Every, Kept, Named, Held, is_try, is_good, is_asked}
use Rattle.history.specs.Work.{Place, Worked, Written, Emptying}

abbrev pub PlaceIsOne : Type 0
PlaceIsOne = (over : ℕ → Bool) (pages : List Page) (start a b : ℕ) → Place over pages start a → Place over pages start b → a ≡ b

abbrev pub WorkKeeps : Type 0
WorkKeeps =
    (f : Frame) (h : History) (maps : ℕ → Option ℕ) (pages : List Page) → 0 < f.pages_per_block → Worked f h maps pages
    → Kept h maps pages × Named h maps × Held f.pages_per_block (f.blocks * f.pages_per_block) h pages

abbrev pub WorkCounts : Type 0
WorkCounts =
    (f : Frame) (h : History) (maps : ℕ → Option ℕ) (pages : List Page) → 0 < f.pages_per_block → Worked f h maps pages
    → (b : ℕ) → b < f.blocks → deads maps (λ q. slice_index_or pages q free) (b * f.pages_per_block) f.pages_per_block ≡ dead_in f.pages_per_block b h

abbrev pub LiveEraseBreaks : Type 0
LiveEraseBreaks =
    (blocks per_block b n q : ℕ) (d : List ℕ) (h : History) (maps : ℕ → Option ℕ) (pages : List Page)
    → last_saved n h ≡ Some d → holder n h ≡ Some q → q < blocks * per_block → q / per_block ≡ b
    → Kept (erased b ∷ h) maps pages → Named (erased b ∷ h) maps → Held per_block (blocks * per_block) (erased b ∷ h) pages → ⊥

abbrev pub ChoiceYields : Type 0
ChoiceYields =
    (f : Frame) (high tokens : ℕ) (h : History) (maps : ℕ → Option ℕ) (pages : List Page) (counts : List ℕ) (b : ℕ)
    → 0 < f.pages_per_block → 1 ≤ f.alpha → Worked f h maps pages → ((l q : ℕ) → maps l ≡ Some q → l < f.numbers)
    → YieldRule f.blocks f.pages_per_block f.numbers high f.alpha
    → frees (λ q. slice_index_or pages q free) 0 (f.blocks * f.pages_per_block) < tokens + f.alpha → tokens ≤ high
    → length counts ≡ f.blocks
    → ((k : ℕ) → k < f.blocks → slice_index counts k ≡ deads maps (λ q. slice_index_or pages q free) (k * f.pages_per_block) f.pages_per_block)
    → Yields counts b
    → (f.alpha ≤ dead_in f.pages_per_block b h)
    × (lives maps (λ q. slice_index_or pages q free) (b * f.pages_per_block) f.pages_per_block + frees (λ q. slice_index_or pages q free) (b * f.pages_per_block) f.pages_per_block
    ≤ f.pages_per_block - f.alpha)

abbrev pub RecycleKeeps : Type 0
RecycleKeeps =
    (f : Frame) (b copies : ℕ) (h h' : History) (maps maps' : ℕ → Option ℕ) (pages pages' : List Page) (start start' : ℕ)
    → 0 < f.pages_per_block → b < f.blocks → Worked f h maps pages
    → Emptying f.pages_per_block b (asked b ∷ h) maps pages start f.pages_per_block copies h' maps' pages' start'
    → Worked f (erased b ∷ h') maps' (wiped f.pages_per_block b pages')
    × (copies ≡ lives maps (λ q. slice_index_or pages q free) (b * f.pages_per_block) f.pages_per_block)
    × (copies ≡ count is_good (since is_asked h'))
    × (frees (λ q. slice_index_or (wiped f.pages_per_block b pages') q free) 0 (f.blocks * f.pages_per_block) + count is_try (since is_asked h')
    + frees (λ q. slice_index_or pages q free) (b * f.pages_per_block) f.pages_per_block
    ≡ frees (λ q. slice_index_or pages q free) 0 (f.blocks * f.pages_per_block) + f.pages_per_block)

abbrev pub RecycleRight : Type 0
RecycleRight =
    (f : Frame) (b copies : ℕ) (h h' : History) (maps maps' : ℕ → Option ℕ) (pages pages' : List Page) (start start' : ℕ)
    → 0 < f.pages_per_block → b < f.blocks → Worked f h maps pages
    → Emptying f.pages_per_block b (asked b ∷ h) maps pages start f.pages_per_block copies h' maps' pages' start'
    → f.alpha ≤ dead_in f.pages_per_block b h → Every f h → Every f (erased b ∷ h')

abbrev pub WriteCosts : Type 0
WriteCosts =
    (over : ℕ → Bool) (l : ℕ) (d : List ℕ) (h h' : History) (maps maps' : ℕ → Option ℕ) (pages pages' : List Page) (start start' tries n : ℕ)
    → Written over l d tries h maps pages start h' maps' pages' start' → length pages ≡ n
    → frees (λ q. slice_index_or pages' q free) 0 n + tries ≡ frees (λ q. slice_index_or pages q free) 0 n
