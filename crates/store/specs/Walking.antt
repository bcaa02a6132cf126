-- One run, one seat, and how a tick goes on from any moment of it.
--
-- Few          the counts so far are small, so that none is near the end of its type
-- Goes_on      a walk that has come to the first store goes on to the second, both inside a seat or both between seats
-- Ran          one run of a seat was made; Runs what the call answers
-- Served       a seat was entered, made its runs and was ended; Serves what the call answers
use Rattle.std.specs.Prelude.{◌≡◌, ℕ, ◌+◌, ◌*◌, ◌<◌, ◌≤◌, Bool, true, false, Ok, Err, Result}
use Rattle.chip.specs.Meaning.{Meaning}
use Rattle.ledger.specs.declared.refusal.Refusal.{Refusal}
use Rattle.ledger.specs.Books.{Books}
use Rattle.ledger.specs.Of.{books_of}
use Rattle.ledger.specs.Steps.{owes}
use Rattle.ledger.specs.Settled.{Settled, SettledBut}
use Rattle.history.specs.History.{History}
use Rattle.pages.specs.Write.{SameSize}
use Rattle.pages.specs.declared.emptied.Emptied.{Emptied}
use Rattle.store.specs.State.{Standing}
use Rattle.store.specs.declared.ticked.Ticked.{Ticked}
use Rattle.store.specs.State.{SoundAt}
use Rattle.store.specs.Tick.{Desk, Walk}
use Rattle.store.specs.Effects.{desk_of}

pub record Few (n : ℕ) (k : Ticked) (m : Meaning) : Type 0 where
  pub runs : k.runs ≤ n
  pub recycles : k.recycles ≤ n
  pub copies : k.copies ≤ 32 * n
  pub tries : k.tries + m.allowance ≤ 65535 + k.copies

-- one run more, without a recycle and with one
abbrev pub one_run : Ticked → Ticked
one_run k = record { runs = k.runs + 1; recycles = k.recycles; copies = k.copies; tries = k.tries }

abbrev pub one_recycle : Ticked → Emptied → Ticked
one_recycle k d = record { runs = k.runs + 1; recycles = k.recycles + 1; copies = k.copies + d.copies; tries = k.tries + d.tries }

module _ {C H : Type 0} {means : C → Meaning} where
  abbrev pub Goes_on : Bool → Standing means H → ℕ → Ticked → Standing means H → ℕ → Ticked → Type 0
  Goes_on inside s i k t j l =
      (b : Books) (x : Desk) (h : History) → Walk b x i inside k.runs k.recycles k.copies k.tries (books_of s.ledger) (desk_of h s)
      → ((h' : History) × Walk b x j inside l.runs l.recycles l.copies l.tries (books_of t.ledger) (desk_of h' t))

  -- what every part of a tick keeps
  pub record Between (n : ℕ) (k : Ticked) (s : Standing means H) (l : Ticked) (t : Standing means H) : Type 0 where
    pub sound : SoundAt t.chip (books_of t.ledger) t.tables
    pub few : Few n l t.chip
    pub failed : t.chip.allowance + l.tries + k.copies ≡ s.chip.allowance + l.copies + k.tries
    pub sizes : SameSize s.chip t.chip
    pub is_open : t.is_open ≡ s.is_open

  pub record CanRun (n i : ℕ) (k : Ticked) (s : Standing means H) : Type 0 where
    pub sound : SoundAt s.chip (books_of s.ledger) s.tables
    pub few : Few n k s.chip
    pub little : n < 8192
    pub owing : 0 < owes (books_of s.ledger) i
    pub but : SettledBut i (books_of s.ledger)

  pub record Ran (n i : ℕ) (k : Ticked) (s : Standing means H) (l : Ticked) (t : Standing means H) : Type 0 where
    pub between : Between (n + 1) k s l t
    pub goes : Goes_on true s i k t i l
    pub owing : owes (books_of t.ledger) i + 1 ≡ owes (books_of s.ledger) i
    pub but : SettledBut i (books_of t.ledger)

  abbrev pub Runs : ℕ → ℕ → Ticked → Standing means H → Result Ticked Refusal → Standing means H → Type 0
  Runs n i k s (Err e) t = ⊥
  Runs n i k s (Ok l) t = Ran n i k s l t

  pub record CanServe (n i : ℕ) (k : Ticked) (s : Standing means H) : Type 0 where
    pub sound : SoundAt s.chip (books_of s.ledger) s.tables
    pub few : Few n k s.chip
    pub little : n ≤ 7168
    pub seat : i < 8
    pub settled : Settled (books_of s.ledger)

  pub record Served (n i : ℕ) (k : Ticked) (s : Standing means H) (l : Ticked) (t : Standing means H) : Type 0 where
    pub between : Between (n + 1024) k s l t
    pub goes : Goes_on false s i k t (i + 1) l
    pub settled : Settled (books_of t.ledger)

  abbrev pub Serves : ℕ → ℕ → Ticked → Standing means H → Result Ticked Refusal → Standing means H → Type 0
  Serves n i k s (Err e) t = ⊥
  Serves n i k s (Ok l) t = Served n i k s l t

  -- ---- the runs of one seat

  -- a seat was entered, and so many runs are due
  pub record Begun (n i : ℕ) (k : Ticked) (s : Standing means H) (due : ℕ) : Type 0 where
    pub sound : SoundAt s.chip (books_of s.ledger) s.tables
    pub few : Few n k s.chip
    pub little : n ≤ 7168
    pub some : due ≤ 1024
    pub owing : owes (books_of s.ledger) i ≡ due
    pub but : SettledBut i (books_of s.ledger)

  -- so many of them were made
  pub record Midway (n i : ℕ) (k : Ticked) (s : Standing means H) (done : ℕ) (l : Ticked) (t : Standing means H) : Type 0 where
    pub between : Between (n + done) k s l t
    pub goes : Goes_on true s i k t i l
    pub owing : owes (books_of t.ledger) i + done ≡ owes (books_of s.ledger) i
    pub but : SettledBut i (books_of t.ledger)

  -- ---- the seats of a tick

  pub record Walked (k : Ticked) (s : Standing means H) (done : ℕ) (l : Ticked) (t : Standing means H) : Type 0 where
    pub between : Between (1024 * done) k s l t
    pub goes : Goes_on false s 0 k t done l
    pub settled : Settled (books_of t.ledger)
