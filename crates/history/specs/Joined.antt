-- The promise, from the two theories: of seats, and of pages.
--
-- AllOnPages      what every entry has to say of pages, besides what it says of its seat
-- PromiseStands   seats that move by the rules, work on pages as the store does it, and entries that say of pages what they should: the promise
-- PromiseReaches  the promise of an opened store, with its frame read off the chip at any time
use Rattle.std.specs.Prelude.{◌≡◌, ℕ, ◌<◌, ◌≤◌, [], ◌∷◌, length, Some, None}
use Rattle.chip.specs.Meaning.{Meaning}
use Rattle.ledger.specs.declared.frame.Frame.{Frame}
use Rattle.ledger.specs.declared.seat.Seat.{Seat}
use Rattle.history.specs.History.{
  Call,
  opening,
  admit,
  notice,
  take,
  hand_back,
  save,
  read,
  tick,
  Deed,
  admitted,
  noticed,
  granted,
  handed_back,
  stored,
  Entry,
  opened,
  did,
  told,
  ticked,
  refused,
  programmed,
  asked,
  erased,
  History,
  count,
  opening_of,
  last_saved,
  dead_in,
}
use Rattle.history.specs.Promise.{View, Given, OutOfRange, Recycled, is_try, is_good, is_asked, during, Promise, Promised}
use Rattle.history.specs.Moves.{Run}
use Rattle.history.specs.Coupled.{Shows}
use Rattle.history.specs.Work.{Worked}

module _ (f : Frame) where
  abbrev pub DeedOnPages : Deed → History → Type 0
  DeedOnPages (admitted p w plan) h = Unit {0}
  DeedOnPages noticed h = Unit {0}
  DeedOnPages granted h = Unit {0}
  DeedOnPages handed_back h = Unit {0}
  DeedOnPages (stored n d tries) h = (n < f.numbers) × (length d ≤ f.page_size) × (tries ≡ count is_try (during h))

  abbrev pub RefusalOnPages : Call → ℕ → History → Type 0
  RefusalOnPages (opening m y p) why h = Given (opening_of h) ((1 < why) × (why < 6)) (λ o. why ≡ 1)
  RefusalOnPages (admit i p w) why h = Unit {0}
  RefusalOnPages (notice i) why h = Unit {0}
  RefusalOnPages (take i) why h = Unit {0}
  RefusalOnPages (hand_back i) why h = Unit {0}
  RefusalOnPages (save i n d) why h = OutOfRange f n d why
  RefusalOnPages (read n room) why h = Given (last_saved n h) (Unit {0}) (λ d. room < length d)
  RefusalOnPages tick why h = opening_of h ≡ None

  abbrev pub OnPages : Entry → History → Type 0
  OnPages (opened m y p) h = opening_of h ≡ None
  OnPages (did i d) h = DeedOnPages d h
  OnPages (told n room d) h = (n < f.numbers) × (last_saved n h ≡ Some d) × (length d ≤ room)
  OnPages (ticked runs recycles copies tries) h =
      (recycles ≡ count is_asked (during h)) × (copies ≡ count is_good (during h)) × (tries ≡ count is_try (during h))
  OnPages (refused c why) h = RefusalOnPages c why h
  OnPages (programmed q l d g) h = Unit {0}
  OnPages (asked b) h = f.alpha ≤ dead_in f.pages_per_block b h
  OnPages (erased b) h = Given (opening_of h) (Unit {0}) (λ o. Recycled f b h)

  abbrev pub AllOnPages : History → Type 0
  AllOnPages [] = Unit {0}
  AllOnPages (e ∷ h) = OnPages e h × AllOnPages h

abbrev pub PromiseStands : Type 0
PromiseStands =
    (f : Frame) (h : History) (l : ℕ → Seat) (v : View) → 0 < f.pages_per_block
    → Run f h l → Shows v l → Worked f h v.maps v.pages → AllOnPages f h → Promise f h v

abbrev pub PromiseReaches : Type 0
PromiseReaches =
    (f : Frame) (m : Meaning) (h : History) (v : View) → m.blocks ≡ f.blocks → m.per_block ≡ f.pages_per_block → m.page_size ≡ f.page_size
    → Promise f h v → Promised m h v
