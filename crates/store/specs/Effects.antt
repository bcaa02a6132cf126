-- What each call of a store asks, answers and does.
--
-- asks_open, asks_save    the first question of a call that fails, if one does; asks_frame and asks_page are their parts
-- if_open       a question that is asked of an open store alone
-- SameButBooks            chip, chooser and tables are as before, and the store is as open as before
-- Opens, Admits, Notices, Takes, Returns, Saves, Reads, Ticks    what a call answers, and what the store is after it
use Rattle.std.specs.Prelude.{◌≡◌, ℕ, ◌+◌, ◌-◌, ◌*◌, Bool, true, false, cond, not, ◌&&◌, List, length, replicate, Some, None, Ok, Err, Option, Result, nat_le, nat_lt}
use Rattle.chip.specs.Meaning.{free, Meaning, page_at}
use Rattle.chip.specs.Calls.{data_of, in_front}
use Rattle.plan.specs.declared.numbers.Plan.{Plan}
use Rattle.plan.specs.Plan.{plan_of}
use Rattle.plan.specs.Yield.{yield_rule}
use Rattle.ledger.specs.declared.frame.Frame.{Frame}
use Rattle.ledger.specs.declared.refusal.Refusal.{Refusal}
use Rattle.ledger.specs.declared.refusal.Refusal.TheVariants.{
  AlreadyOpen,
  BlocksOutOfRange,
  NumbersOutOfRange,
  AlphaOutOfRange,
  YieldRuleFails,
  NotOpen,
  NoSuchNumber,
  DataTooLong,
  NothingStored,
  BufferTooShort,
}
use Rattle.ledger.specs.Refusals.{number}
use Rattle.ledger.specs.Books.{
  Books,
  ask,
  answer,
  unless,
  asks_admit,
  asks_notice,
  asks_take,
  asks_return,
  admitted,
  noticed,
  taken,
  returned,
  spent,
}
use Rattle.ledger.specs.Of.{books_of}
use Rattle.ledger.specs.Fair.{opened as opened_books}
use Rattle.history.specs.History.{History, hands_back}
use Rattle.history.specs.Work.{Written}
use Rattle.pages.specs.declared.tables.Tables.{Tables}
use Rattle.pages.specs.Search.{over}
use Rattle.pages.specs.Tied.{maps_of}
use Rattle.pages.specs.Write.{SameSize}
use Rattle.store.specs.State.{Standing}
use Rattle.store.specs.declared.store.Permit.{Permit}
use Rattle.store.specs.declared.ticked.Ticked.{Ticked}
use Rattle.store.specs.State.{frame_for, paid_for, Sound}
use Rattle.store.specs.Tick.{Desk, Walk}

-- ---- questions

-- can a shut store be opened with this frame?
abbrev pub asks_frame : Bool → Frame → Option Refusal
asks_frame is_open f =
    ask (not is_open) AlreadyOpen
    (ask (nat_le 2 f.blocks && nat_le f.blocks 64) BlocksOutOfRange
    (ask (nat_le 1 f.numbers && nat_le f.numbers 1920) NumbersOutOfRange
    (ask (nat_le 1 f.alpha && nat_le f.alpha f.pages_per_block) AlphaOutOfRange
    (ask (yield_rule f.blocks f.pages_per_block f.numbers (f.pool + f.allowance) f.alpha) YieldRuleFails None))))

abbrev pub asks_open : Bool → Meaning → ℕ → ℕ → ℕ → Option Refusal
asks_open is_open m numbers alpha pool = asks_frame is_open (frame_for m numbers alpha pool)

abbrev pub if_open : Bool → Option Refusal → Option Refusal
if_open is_open rest = ask is_open NotOpen rest

-- a question after others
abbrev pub and_then : Option Refusal → Option Refusal → Option Refusal
and_then (Some e) rest = Some e
and_then None rest = rest

-- is a page of this number and length taken?
abbrev pub asks_page : Books → ℕ → ℕ → Option Refusal
asks_page b n size = ask (nat_lt n b.frame.numbers) NoSuchNumber (ask (nat_le size b.frame.page_size) DataTooLong None)

abbrev pub asks_save : Bool → Books → ℕ → ℕ → ℕ → Option Refusal
asks_save is_open b i n size = if_open is_open (and_then (asks_return b i) (asks_page b n size))

-- the bytes that stand under a page number
abbrev pub stored_at : Meaning → Option ℕ → Option (List ℕ)
stored_at m None = None
stored_at m (Some q) = Some (data_of (page_at m q))

abbrev pub read_from : Option (List ℕ) → ℕ → Result ℕ Refusal
read_from None room = Err NothingStored
read_from (Some d) room = cond (nat_le (length d) room) (Ok (length d)) (Err BufferTooShort)

abbrev pub read_told : Bool → Books → ℕ → Option (List ℕ) → ℕ → Result ℕ Refusal
read_told is_open b n stored room = cond is_open (cond (nat_lt n b.frame.numbers) (read_from stored room) (Err NoSuchNumber)) (Err NotOpen)

abbrev pub read_into : Result ℕ Refusal → Option (List ℕ) → List ℕ → List ℕ
read_into (Ok size) (Some d) buffer = in_front d buffer
read_into (Ok size) None buffer = buffer
read_into (Err e) stored buffer = buffer

-- ---- what a fresh opening leaves

abbrev pub blank : Meaning → Meaning
blank m =
    record { blocks = m.blocks; per_block = m.per_block; page_size = m.page_size; allowance = m.allowance; pages = replicate (m.blocks * m.per_block) free }

pub record FreshTables (m : Meaning) (t : Tables) : Type 0 where
  pub map : t.map ≡ replicate 1920 None
  pub dead : t.dead ≡ replicate 64 0
  pub free_pages : t.free ≡ m.blocks * m.per_block
  pub start : t.start ≡ 0
  pub blocks : t.geometry.blocks ≡ m.blocks
  pub per_block : t.geometry.pages_per_block ≡ m.per_block

module _ {C H : Type 0} {means : C → Meaning} where
  -- the store as a tick and a history see it
  abbrev pub desk_of : History → Standing means H → Desk
  desk_of h s = record { past = h; maps = maps_of s.tables; pages = s.chip.pages; start = s.tables.start }

  pub record SameButBooks (s t : Standing means H) : Type 0 where
    pub chip : t.chip ≡ s.chip
    pub chooser : t.chooser ≡ s.chooser
    pub is_open : t.is_open ≡ s.is_open
    pub tables : t.tables ≡ s.tables

  -- nothing has changed
  pub record Same (s t : Standing means H) : Type 0 where
    pub rest : SameButBooks s t
    pub ledger : t.ledger ≡ s.ledger

  -- ---- open

  pub record Opened (s : Standing means H) (numbers alpha pool : ℕ) (t : Standing means H) : Type 0 where
    pub chip : t.chip ≡ blank s.chip
    pub chooser : t.chooser ≡ s.chooser
    pub is_open : t.is_open ≡ true
    pub books : books_of t.ledger ≡ opened_books (frame_for s.chip numbers alpha pool)
    pub tables : FreshTables s.chip t.tables

  abbrev pub Opens : Standing means H → ℕ → ℕ → ℕ → Result (Unit {0}) Refusal → Standing means H → Type 0
  Opens s numbers alpha pool (Ok u) t = (asks_open s.is_open s.chip numbers alpha pool ≡ None) × Opened s numbers alpha pool t × Sound t
  Opens s numbers alpha pool (Err e) t = (asks_open s.is_open s.chip numbers alpha pool ≡ Some e) × Same s t

  -- ---- seats

  abbrev pub ledger_asks : Standing means H → Option Refusal → Option Refusal
  ledger_asks s question = if_open s.is_open question

  -- a call on the ledger alone: what it makes of the books where nothing is refused
  pub record Booked (s : Standing means H) (question : Option Refusal) (after : Books) (t : Standing means H) : Type 0 where
    pub rest : SameButBooks s t
    pub books : books_of t.ledger ≡ unless (ledger_asks s question) after (books_of s.ledger)
    pub sound : Sound s → Sound t

  abbrev pub Admits : Standing means H → ℕ → ℕ → ℕ → Result Plan Refusal → Standing means H → Type 0
  Admits s i p w r t =
      let b = books_of s.ledger in
      let plan = plan_of b.frame.alpha p w in
      (r ≡ answer (ledger_asks s (asks_admit b i p w)) plan) × Booked s (asks_admit b i p w) (admitted b i plan) t

  abbrev pub Notices : Standing means H → ℕ → Result (Unit {0}) Refusal → Standing means H → Type 0
  Notices s i r t = let b = books_of s.ledger in (r ≡ answer (ledger_asks s (asks_notice b i)) tt) × Booked s (asks_notice b i) (noticed b i) t

  -- a permit carries its seat's number
  abbrev pub Takes : Standing means H → ℕ → Result Permit Refusal → Standing means H → Type 0
  Takes s i r t = let b = books_of s.ledger in (r ≡ answer (ledger_asks s (asks_take b i)) (record { seat = i })) × Booked s (asks_take b i) (taken b i) t

  abbrev pub Returns : Standing means H → ℕ → Result (Unit {0}) Refusal → Standing means H → Type 0
  Returns s i r t = let b = books_of s.ledger in (r ≡ answer (ledger_asks s (asks_return b i)) tt) × Booked s (asks_return b i) (returned b i) t

  -- ---- save

  -- the page is written by so many tries, the spare account pays for all but the last, and the seat pays for that one
  pub record Stored (s : Standing means H) (i n : ℕ) (d : List ℕ) (tries : ℕ) (h h' : History) (t : Standing means H) : Type 0 where
    pub chooser : t.chooser ≡ s.chooser
    pub is_open : t.is_open ≡ s.is_open
    pub books : books_of t.ledger ≡ spent (paid_for (tries - 1) (books_of s.ledger)) i
    pub failed : t.chip.allowance + tries ≡ s.chip.allowance + 1
    pub sizes : SameSize s.chip t.chip
    pub wrote :
        Written (over s.tables.geometry.pages_per_block None) n d tries h (maps_of s.tables) s.chip.pages s.tables.start h' (maps_of t.tables) t.chip.pages t.tables.start
    pub sound : Sound t

  -- for every history before there is one after, which has the chip's answers
  abbrev pub Saves : Standing means H → ℕ → ℕ → List ℕ → Result ℕ Refusal → Standing means H → Type 0
  Saves s i n d (Ok tries) t =
      (asks_save s.is_open (books_of s.ledger) i n (length d) ≡ None) × ((h : History) → ((h' : History) × Stored s i n d tries h h' t))
  Saves s i n d (Err e) t =
      (asks_save s.is_open (books_of s.ledger) i n (length d) ≡ Some e)
      × SameButBooks s t
      × (books_of t.ledger ≡ cond (hands_back (number e)) (returned (books_of s.ledger) i) (books_of s.ledger))
      × (Sound s → Sound t)

  -- ---- read

  abbrev pub Reads : Standing means H → ℕ → List ℕ → Result ℕ Refusal → Standing means H → List ℕ → Type 0
  Reads s n before r t after =
      let stored = stored_at s.chip (maps_of s.tables n) in
      (r ≡ read_told s.is_open (books_of s.ledger) n stored (length before)) × (after ≡ read_into r stored before) × Same s t

  -- ---- tick

  pub record Passed (s : Standing means H) (k : Ticked) (h h' : History) (t : Standing means H) : Type 0 where
    pub open_before : s.is_open ≡ true
    pub is_open : t.is_open ≡ true
    pub failed : t.chip.allowance + k.tries ≡ s.chip.allowance + k.copies
    pub sizes : SameSize s.chip t.chip
    pub walk : Walk (books_of s.ledger) (desk_of h s) 8 false k.runs k.recycles k.copies k.tries (books_of t.ledger) (desk_of h' t)
    pub sound : Sound t

  abbrev pub Ticks : Standing means H → Result Ticked Refusal → Standing means H → Type 0
  Ticks s (Ok k) t = (h : History) → ((h' : History) × Passed s k h h' t)
  Ticks s (Err e) t = (s.is_open ≡ false) × (e ≡ NotOpen) × Same s t
