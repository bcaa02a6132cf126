-- The promise of a store, over any history of its calls.
--
-- View          what can be seen of a store and its chip at one moment: map, pages, accounts and charges of the seats
-- Given         a case for nothing, and a case for something
-- Kept          what was saved last under a number stands, with that label and those bytes, on the page that the map names
-- Named         the map names just the pages that took the newest good programs
-- Held          the chip's pages are what its answers say
-- Vacant        a seat was never admitted, or was emptied since
-- MayNotice, MayTake, MayReturn, MaySave        what the history allows
-- is_try, is_good, is_asked    programs, good programs, questions to the chooser
-- Recycled      a recycle that ends empties the block that the chooser named last in this call, and copied few pages
-- during        what chip and chooser answered during the call that is about to be entered
-- Right         an entry is right by the history before it: an accepted call was allowed and a refused one was not,
--               an answer is what the history counts, and a recycle was worth its while
-- Every         every entry of a history is right
-- SeatNow       account and charge of a seat are what its history counts
-- Promise       all of it, for a store that was opened
-- ShutPromise   for a store that is still shut: every call so far was refused
-- Promised      the one or the other, by whether an opening was accepted
use Rattle.std.specs.Prelude.{◌≡◌, ℕ, ◌+◌, ◌-◌, ◌*◌, ◌<◌, ◌≤◌, Bool, true, false, List, [], ◌∷◌, length, Some, None, Option, slice_index_or}
use Rattle.chip.specs.Meaning.{Page, free, written, Meaning}
use Rattle.plan.specs.declared.numbers.Plan.{Plan}
use Rattle.plan.specs.Plan.{planned}
use Rattle.ledger.specs.declared.frame.Frame.{Frame}
use Rattle.history.specs.History.{
  Call,
  opening,
  admit,
  notice,
  take,
  hand_back,
  save,
  read,
  tick,
  Deed,
  admitted,
  noticed,
  granted,
  handed_back,
  stored,
  Entry,
  opened,
  did,
  told,
  ticked,
  refused,
  programmed,
  asked,
  erased,
  History,
  count,
  since,
  asked_for,
  hands_back,
  opening_of,
  seat_plan,
  period,
  permits_out,
  charged,
  runs_made,
  runs_of_tick,
  under_notice,
  emptied,
  storing,
  last_saved,
  holder,
  page_after,
  dead_in,
}

pub record View : Type 0 where
  pub maps : ℕ → Option ℕ
  pub pages : List Page
  pub account : ℕ → ℕ
  pub charge : ℕ → ℕ

abbrev pub Given : {X : Type 0} → Option X → Type 0 → (X → Type 0) → Type 0
Given None P Q = P
Given (Some x) P Q = Q x

-- ---- map and pages

-- the map names a page for a number, with the number as its label and these bytes; or it names none
abbrev pub Stands : (ℕ → Option ℕ) → List Page → ℕ → Option (List ℕ) → Type 0
Stands maps pages n saved = Given saved (maps n ≡ None) (λ d. (q : ℕ) × (maps n ≡ Some q) × (slice_index_or pages q free ≡ written n d))

abbrev pub Kept : History → (ℕ → Option ℕ) → List Page → Type 0
Kept h maps pages = (n : ℕ) → Stands maps pages n (last_saved n h)

abbrev pub Named : History → (ℕ → Option ℕ) → Type 0
Named h maps = (l : ℕ) → maps l ≡ holder l h

-- of the first n pages
abbrev pub Held : ℕ → ℕ → History → List Page → Type 0
Held per_block n h pages = (q : ℕ) → q < n → slice_index_or pages q free ≡ page_after per_block q h

-- ---- what the history of a seat allows

abbrev pub Vacant : ℕ → History → Type 0
Vacant i h = Given (seat_plan i h) (Unit {0}) (λ t. emptied i t h ≡ true)

-- it serves, and none of its permits is out
abbrev pub MayNotice : ℕ → History → Type 0
MayNotice i h = Given (seat_plan i h) ⊥ (λ t. (under_notice i h ≡ false) × (permits_out i h ≡ 0))

-- it serves, and fewer than its writes stand charged
abbrev pub MayTake : ℕ → History → Type 0
MayTake i h = Given (seat_plan i h) ⊥ (λ t. (under_notice i h ≡ false) × (charged i t h < t.writes))

-- one of its permits is out
abbrev pub MayReturn : ℕ → History → Type 0
MayReturn i h = Given (seat_plan i h) ⊥ (λ t. 0 < permits_out i h)

-- ---- which entries are the chip's and the chooser's

abbrev pub by_chip : (Bool → Bool) → Bool → Entry → Bool
by_chip good chosen (opened m y p) = false
by_chip good chosen (did j d) = false
by_chip good chosen (told m r d) = false
by_chip good chosen (ticked a b c d) = false
by_chip good chosen (refused c why) = false
by_chip good chosen (programmed q l d g) = good g
by_chip good chosen (asked b) = chosen
by_chip good chosen (erased b) = false

abbrev pub is_try : Entry → Bool
is_try = by_chip (λ g. true) false

abbrev pub is_good : Entry → Bool
is_good = by_chip (λ g. g) false

abbrev pub is_asked : Entry → Bool
is_asked = by_chip (λ g. false) true

abbrev pub is_call : Entry → Bool
is_call (opened m y p) = true
is_call (did j d) = true
is_call (told m r d) = true
is_call (ticked a b c d) = true
is_call (refused c why) = true
is_call (programmed q l d g) = false
is_call (asked b) = false
is_call (erased b) = false

abbrev pub during : History → History
during h = since is_call h

module _ (f : Frame) where
  -- a permit of the seat is out, and number and length are in range
  abbrev pub MaySave : ℕ → ℕ → List ℕ → History → Type 0
  MaySave i n d h = Given (seat_plan i h) ⊥ (λ t. (0 < permits_out i h) × (n < f.numbers) × (length d ≤ f.page_size))

  -- ---- an accepted call was allowed, and a refused one was not

  abbrev pub DeedRight : ℕ → Deed → History → Type 0
  DeedRight i (admitted p w plan) h = (i < 8) × Vacant i h × (planned f.alpha p w ≡ Some plan)
  DeedRight i noticed h = MayNotice i h
  DeedRight i granted h = MayTake i h
  DeedRight i handed_back h = MayReturn i h
  DeedRight i (stored n d tries) h = MaySave i n d h × (tries ≡ count is_try (during h))

  -- a save that is refused for its page number, or for its length
  abbrev pub OutOfRange : ℕ → List ℕ → ℕ → Type 0
  OutOfRange n d why = (why ≡ 17 → f.numbers ≤ n) × (why ≡ 18 → f.page_size < length d)

  -- before the opening an opening is refused for its numbers; after it, since one was accepted.
  -- Whether the pool and the yield rule let a seat in is said by the contract of the call alone.
  abbrev pub RefusalRight : Call → ℕ → History → Type 0
  RefusalRight (opening m y p) why h = Given (opening_of h) ((1 < why) × (why < 6)) (λ o. why ≡ 1)
  RefusalRight (admit i p w) why h = Unit {0}
  RefusalRight (notice i) why h = MayNotice i h → ⊥
  RefusalRight (take i) why h = MayTake i h → ⊥
  RefusalRight (hand_back i) why h = MayReturn i h → ⊥
  RefusalRight (save i n d) why h = (MaySave i n d h → ⊥) × (hands_back why ≡ true → MayReturn i h) × OutOfRange n d why
  RefusalRight (read n room) why h = Given (last_saved n h) (Unit {0}) (λ d. room < length d)
  RefusalRight tick why h = opening_of h ≡ None

  -- a recycle of the block ends
  abbrev pub Recycled : ℕ → History → Type 0
  Recycled b h = (asked_for (during h) ≡ Some b) × (count is_good (since is_asked h) ≤ f.pages_per_block - f.alpha)

  abbrev pub Right : Entry → History → Type 0
  Right (opened m y p) h = opening_of h ≡ None
  Right (did i d) h = DeedRight i d h
  Right (told n room d) h = (n < f.numbers) × (last_saved n h ≡ Some d) × (length d ≤ room)
  Right (ticked runs recycles copies tries) h =
      (runs ≡ runs_of_tick h) × (recycles ≡ count is_asked (during h)) × (copies ≡ count is_good (during h)) × (tries ≡ count is_try (during h))
  Right (refused c why) h = RefusalRight c why h
  Right (programmed q l d g) h = Unit {0}
  -- a recycle begins: the block has enough dead pages
  Right (asked b) h = f.alpha ≤ dead_in f.pages_per_block b h
  -- and it ends: the block is that one, and few pages were copied. All blocks are erased before the opening is entered.
  Right (erased b) h = Given (opening_of h) (Unit {0}) (λ o. Recycled b h)

  abbrev pub Every : History → Type 0
  Every [] = Unit {0}
  Every (e ∷ h) = Right e h × Every h

  -- the account is W, plus α for each run, less the stored saves, all since the meta-period's start
  abbrev pub SeatNow : ℕ → Plan → History → View → Type 0
  SeatNow i t h v = (v.account i + count (storing i) (period i t h) ≡ t.writes + f.alpha * runs_made i t h) × (v.charge i ≡ charged i t h)

  pub record Promise (h : History) (v : View) : Type 0 where
    pub opened_with : opening_of h ≡ Some (f.numbers, f.alpha, f.pool)
    pub every : Every h
    pub kept : Kept h v.maps v.pages
    pub named : Named h v.maps
    pub chip : Held f.pages_per_block (f.blocks * f.pages_per_block) h v.pages
    -- each seat in use
    pub seats : (i : ℕ) → Given (seat_plan i h) (Unit {0}) (λ t. emptied i t h ≡ false → SeatNow i t h v)

-- ---- before the opening

-- an opening is refused for its numbers, and every other call since the store is shut
abbrev pub ShutRefusal : Call → ℕ → Type 0
ShutRefusal (opening m y p) why = (1 < why) × (why < 6)
ShutRefusal (admit i p w) why = why ≡ 6
ShutRefusal (notice i) why = why ≡ 6
ShutRefusal (take i) why = why ≡ 6
ShutRefusal (hand_back i) why = why ≡ 6
ShutRefusal (save i n d) why = why ≡ 6
ShutRefusal (read n room) why = why ≡ 6
ShutRefusal tick why = why ≡ 6

abbrev pub ShutEntry : Entry → Type 0
ShutEntry (opened m y p) = ⊥
ShutEntry (did i d) = ⊥
ShutEntry (told n room d) = ⊥
ShutEntry (ticked a b c d) = ⊥
ShutEntry (refused c why) = ShutRefusal c why
ShutEntry (programmed q l d g) = ⊥
ShutEntry (asked b) = ⊥
ShutEntry (erased b) = ⊥

abbrev pub ShutPromise : History → Type 0
ShutPromise [] = Unit {0}
ShutPromise (e ∷ h) = ShutEntry e × ShutPromise h

-- ---- at any time

-- the sizes of a chip, with the arguments of an opening; the allowance plays no part in the promise
abbrev pub frame_of : Meaning → ℕ × ℕ × ℕ → Frame
frame_of m o =
    record {
      blocks = m.blocks;
      pages_per_block = m.per_block;
      page_size = m.page_size;
      allowance = m.allowance;
      numbers = o.0;
      alpha = o.1;
      pool = o.2;
    }

abbrev pub Promised : Meaning → History → View → Type 0
Promised m h v = Given (opening_of h) (ShutPromise h) (λ o. Promise (frame_of m o) h v)
