-- The histories that the calls of a store can make.
--
-- entry-*      the line that a call enters
-- Grows        a history with more answers of chip and chooser
-- Run          the histories of a store that was just put together and then used by its calls alone
-- Entered      a call was entered, and the promise is kept
use Rattle.chip.specs.Meaning.{Meaning}
use Rattle.std.specs.Prelude.{◌≡◌, ℕ, false, List, [], ◌∷◌, length, take, None, Ok, Err, Result}
use Rattle.plan.specs.declared.numbers.Plan.{Plan}
use Rattle.ledger.specs.declared.refusal.Refusal.{Refusal}
use Rattle.ledger.specs.Of.{books_of}
use Rattle.ledger.specs.Refusals.{number}
use Rattle.history.specs.History.{
  opening,
  admit,
  notice,
  take as taking,
  hand_back,
  save,
  read,
  tick,
  admitted,
  noticed,
  granted,
  handed_back,
  stored,
  Entry,
  opened,
  did,
  told,
  ticked,
  refused,
  History,
}
use Rattle.history.specs.Promise.{is_call, Promised}
use Rattle.history.specs.Work.{erased_first}
use Rattle.store.specs.State.{Standing}
use Rattle.store.specs.declared.store.Permit.{Permit}
use Rattle.store.specs.declared.ticked.Ticked.{Ticked}
use Rattle.store.specs.State.{view_of}
use Rattle.store.specs.Effects.{asks_save, Opens, Admits, Notices, Takes, Returns, Stored, Saves, Reads, Passed, Ticks}

-- ---- what a call enters

abbrev pub entry_admit : ℕ → ℕ → ℕ → Result Plan Refusal → Entry
entry_admit i p w (Ok plan) = did i (admitted p w plan)
entry_admit i p w (Err e) = refused (admit i p w) (number e)

abbrev pub entry_notice : ℕ → Result (Unit {0}) Refusal → Entry
entry_notice i (Ok u) = did i noticed
entry_notice i (Err e) = refused (notice i) (number e)

abbrev pub entry_take : ℕ → Result Permit Refusal → Entry
entry_take i (Ok p) = did i granted
entry_take i (Err e) = refused (taking i) (number e)

abbrev pub entry_return : ℕ → Result (Unit {0}) Refusal → Entry
entry_return i (Ok u) = did i handed_back
entry_return i (Err e) = refused (hand_back i) (number e)

abbrev pub entry_save : ℕ → ℕ → List ℕ → Result ℕ Refusal → Entry
entry_save i n d (Ok tries) = did i (stored n d tries)
entry_save i n d (Err e) = refused (save i n d) (number e)

-- a read, by the length of the buffer, and the bytes that it then has in front
abbrev pub entry_read : ℕ → ℕ → List ℕ → Result ℕ Refusal → Entry
entry_read n room bytes (Ok size) = told n room bytes
entry_read n room bytes (Err e) = refused (read n room) (number e)

abbrev pub entry_tick : Result Ticked Refusal → Entry
entry_tick (Ok k) = ticked k.runs k.recycles k.copies k.tries
entry_tick (Err e) = refused tick (number e)

abbrev pub entry_open : ℕ → ℕ → ℕ → Result (Unit {0}) Refusal → Entry
entry_open numbers alpha pool (Ok u) = opened numbers alpha pool
entry_open numbers alpha pool (Err e) = refused (opening numbers alpha pool) (number e)

-- an accepted opening erases every block, in ascending order
abbrev pub erases : ℕ → Result (Unit {0}) Refusal → History → History
erases blocks (Ok u) h = erased_first blocks h
erases blocks (Err e) h = h

-- the bytes that a read put in front of the buffer
abbrev pub bytes_read : Result ℕ Refusal → List ℕ → List ℕ
bytes_read (Ok size) after = take size after
bytes_read (Err e) after = []

-- ---- histories

-- answers of chip and chooser, and no call, were entered since
pub data Grows (h : History) : History → Type 0 where
  still : Grows h h
  heard : {h' : History} (e : Entry) → is_call e ≡ false → Grows h h' → Grows h (e ∷ h')

module _ {C H : Type 0} {means : C → Meaning} where
  pub data Run : History → Standing means H → Type 0 where
    fresh : {s : Standing means H} → s.is_open ≡ false → Run [] s
    then_open : {h : History} {s t : Standing means H} (numbers alpha pool : ℕ) (r : Result (Unit {0}) Refusal) → Run h s → Opens s numbers alpha pool r t
        → Run (entry_open numbers alpha pool r ∷ erases s.chip.blocks r h) t
    then_admit : {h : History} {s t : Standing means H} (i p w : ℕ) (r : Result Plan Refusal) → Run h s → Admits s i p w r t → Run (entry_admit i p w r ∷ h) t
    then_notice : {h : History} {s t : Standing means H} (i : ℕ) (r : Result (Unit {0}) Refusal) → Run h s → Notices s i r t → Run (entry_notice i r ∷ h) t
    then_take : {h : History} {s t : Standing means H} (i : ℕ) (r : Result Permit Refusal) → Run h s → Takes s i r t → Run (entry_take i r ∷ h) t
    then_return : {h : History} {s t : Standing means H} (i : ℕ) (r : Result (Unit {0}) Refusal) → Run h s → Returns s i r t → Run (entry_return i r ∷ h) t
    then_store : {h h' : History} {s t : Standing means H} (i n : ℕ) (d : List ℕ) (tries : ℕ) → Run h s
        → asks_save s.is_open (books_of s.ledger) i n (length d) ≡ None → Stored s i n d tries h h' t → Run (entry_save i n d (Ok tries) ∷ h') t
    then_no_store : {h : History} {s t : Standing means H} (i n : ℕ) (d : List ℕ) (e : Refusal) → Run h s → Saves s i n d (Err e) t → Run (entry_save i n d (Err e) ∷ h) t
    then_read : {h : History} {s t : Standing means H} (n : ℕ) (before after : List ℕ) (r : Result ℕ Refusal) → Run h s → Reads s n before r t after
        → Run (entry_read n (length before) (bytes_read r after) r ∷ h) t
    then_tick : {h h' : History} {s t : Standing means H} (k : Ticked) → Run h s → Passed s k h h' t → Run (entry_tick (Ok k) ∷ h') t
    then_no_tick : {h : History} {s t : Standing means H} (e : Refusal) → Run h s → Ticks s (Err e) t → Run (entry_tick (Err e) ∷ h) t

  -- a call was entered, after what chip and chooser answered during it; the history is one that calls can make, and
  -- it keeps the promise
  pub record Entered (e : Entry) (h : History) (t : Standing means H) : Type 0 where
    pub past : History
    pub grows : Grows h past
    pub run : Run (e ∷ past) t
    pub promise : Promised t.chip (e ∷ past) (view_of t)
