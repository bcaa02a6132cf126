-- Seats, map and pages of an open store, as they follow from a history of its calls.
--
-- Follows       between two calls
-- WithinTick    during a tick, after so many recycles with so many copies and tries
use Rattle.std.specs.Prelude.{◌≡◌, ℕ, List, [], Option}
use Rattle.chip.specs.Meaning.{Page}
use Rattle.ledger.specs.declared.frame.Frame.{Frame}
use Rattle.ledger.specs.declared.seat.Seat.{Seat}
use Rattle.history.specs.History.{History, count}
use Rattle.history.specs.Promise.{is_try, is_good, is_asked, during}
use Rattle.history.specs.Work.{Worked}
use Rattle.history.specs.Moves.{Run}
use Rattle.history.specs.Joined.{AllOnPages}

pub record Follows (f : Frame) (h : History) (l : ℕ → Seat) (maps : ℕ → Option ℕ) (pages : List Page) : Type 0 where
  pub run : Run f h l
  pub work : Worked f h maps pages
  pub entered : AllOnPages f h
  -- the newest entry is a call
  pub settled : during h ≡ []

-- the seats are those before the tick
pub record WithinTick (f : Frame) (h : History) (l : ℕ → Seat) (maps : ℕ → Option ℕ) (pages : List Page) (recycles copies tries : ℕ) : Type 0 where
  pub run : Run f h l
  pub work : Worked f h maps pages
  pub entered : AllOnPages f h
  pub asks : recycles ≡ count is_asked (during h)
  pub goods : copies ≡ count is_good (during h)
  pub programs : tries ≡ count is_try (during h)
