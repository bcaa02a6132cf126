-- What a tick does, run by run.
--
-- Desk           what a recycle works on: the history so far, the map, the chip's pages, and where the next search starts
-- Recycle        a block worth emptying is emptied and erased
-- free_on        the free pages of the chip
-- Walk           how far a tick has come: the seat that it is at, and the runs, recycles, copies and tries so far.
--                It takes the seats in ascending order; each is entered, makes its runs and is ended before the next
-- A run asks first whether the free pages exceed the tokens by the yield; if not, a block with at least that many
-- dead pages is emptied and erased, and the spare account pays for the failed tries. In both cases the seat's account
-- gains the yield.
use Rattle.std.specs.Prelude.{◌≡◌, ℕ, ◌+◌, ◌-◌, ◌*◌, ◌<◌, ◌≤◌, Bool, true, false, List, ◌∷◌, length, Option}
use Rattle.chip.specs.Meaning.{Page}
use Rattle.chip.specs.Calls.{wiped}
use Rattle.ledger.specs.declared.frame.Frame.{Frame}
use Rattle.ledger.specs.Books.{Books, tokens, used_seat, entered, ran_once, ended}
use Rattle.ledger.specs.Steps.{owes}
use Rattle.history.specs.Pages.{frees, deads}
use Rattle.history.specs.History.{History, asked, erased, count}
use Rattle.history.specs.Promise.{is_try}
use Rattle.history.specs.Work.{Emptying, after_wipe}
use Rattle.pages.specs.Tied.{page_in}
use Rattle.store.specs.State.{paid_for}

-- the history so far, the map, the chip's pages, and where the next search starts
pub record Desk : Type 0 where
  pub past : History
  pub maps : ℕ → Option ℕ
  pub pages : List Page
  pub start : ℕ

-- a block worth emptying is emptied and erased
pub record Recycle (f : Frame) (x : Desk) (copies tries : ℕ) (y : Desk) : Type 0 where
  pub block : ℕ
  pub there : block < f.blocks
  pub enough : f.alpha ≤ deads x.maps (page_in x.pages) (block * f.pages_per_block) f.pages_per_block
  pub before : Desk
  pub emptied :
      Emptying f.pages_per_block block (asked block ∷ x.past) x.maps x.pages x.start f.pages_per_block copies before.past before.maps before.pages before.start
  pub programs : count is_try before.past ≡ count is_try x.past + tries
  pub past : y.past ≡ erased block ∷ before.past
  pub maps : y.maps ≡ before.maps
  pub pages : y.pages ≡ wiped f.pages_per_block block before.pages
  pub start : y.start ≡ after_wipe f.pages_per_block block before.start

abbrev pub free_on : Desk → ℕ
free_on x = frees (page_in x.pages) 0 (length x.pages)

-- inside tells whether the clock of the seat has moved already, so that its runs are being made
pub data Walk (b₀ : Books) (x₀ : Desk) : ℕ → Bool → ℕ → ℕ → ℕ → ℕ → Books → Desk → Type 0 where
  begun : Walk b₀ x₀ 0 false 0 0 0 0 b₀ x₀
  unused : {i runs recycles copies tries : ℕ} {b : Books} {x : Desk} → Walk b₀ x₀ i false runs recycles copies tries b x → used_seat b i ≡ false
      → Walk b₀ x₀ (i + 1) false runs recycles copies tries b x
  enters : {i runs recycles copies tries : ℕ} {b : Books} {x : Desk} → Walk b₀ x₀ i false runs recycles copies tries b x → used_seat b i ≡ true
      → Walk b₀ x₀ i true runs recycles copies tries (entered b i) x
  runs_free : {i runs recycles copies tries : ℕ} {b : Books} {x : Desk} → Walk b₀ x₀ i true runs recycles copies tries b x → 0 < owes b i
      → tokens b + b.frame.alpha ≤ free_on x
      → Walk b₀ x₀ i true (runs + 1) recycles copies tries (ran_once b i) x
  runs_recycled : {i runs recycles copies tries more made : ℕ} {b : Books} {x y : Desk} → Walk b₀ x₀ i true runs recycles copies tries b x → 0 < owes b i
      → free_on x < tokens b + b.frame.alpha → Recycle b.frame x more made y
      → Walk b₀ x₀ i true (runs + 1) (recycles + 1) (copies + more) (tries + made) (ran_once (paid_for (made - more) b) i) y
  ends : {i runs recycles copies tries : ℕ} {b : Books} {x : Desk} → Walk b₀ x₀ i true runs recycles copies tries b x → owes b i ≡ 0
      → Walk b₀ x₀ (i + 1) false runs recycles copies tries (ended b i) x
