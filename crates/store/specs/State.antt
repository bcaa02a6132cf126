-- What a store is between two calls.
--
-- frame_for     what an opening fixes: the chip's sizes and allowance, and the three numbers that it is given
-- paid_for      the spare account has paid for so many failed tries
-- SoundAt       tables, ledger and chip of an open store belong together, and every token has a free page: this is
--               true inside a tick too
-- Standing      what a store is: what its chip means, its chooser, and whether it is open, with its ledger and its tables
-- Parts         a store's parts, which its contracts see
-- parts         the same put together
-- standing      what a store of these parts is; one that is shut has no tokens, and maps nothing
-- Sound         a store is shut, or open with all of that and with settled seats
-- sound_prop    that there is one proof of this at most
-- view_of       what can be seen of a store: its map, its chip's pages, and account and charge of each seat
use Rattle.std.specs.Prelude.{◌≡◌, ℕ, ◌-◌, ◌<◌, ◌≤◌, Bool, List, length, replicate, Some, None, Option, MatchBool}
use Rattle.std.specs.Option.{is_some}
use Rattle.std.specs.Coded.{Unit-prop}
use Rattle.std.proofs.Common.{rules, arith, sym, ◌∙◌, refl}
use Rattle.std.proofs.Props.{props}
use mathlib.Core.HLevel.{is_prop→PathP}
use Rattle.chip.specs.Meaning.{Page, written, Meaning}
use Rattle.ledger.specs.declared.frame.Frame.{Frame}
use Rattle.ledger.specs.declared.ledger.Ledger.{Ledger}
use Rattle.ledger.specs.Seats.{nobody}
use Rattle.ledger.specs.Fair.{idle}
use Rattle.ledger.specs.Books.{Books, seat_of, tokens}
use Rattle.ledger.specs.Of.{books_of}
use Rattle.ledger.specs.Settled.{Settled}
use Rattle.history.specs.Promise.{View}
use Rattle.pages.specs.declared.tables.Tables.{Tables}
use Rattle.pages.specs.Tied.{maps_of, Tied}
use Rattle.pages.specs.Recycle.{all_free, SameBlocks}
use Rattle.store.specs.declared.open.Open.{Open}

abbrev pub frame_for : Meaning → ℕ → ℕ → ℕ → Frame
frame_for m numbers alpha pool =
    record {
      blocks = m.blocks;
      pages_per_block = m.per_block;
      page_size = m.page_size;
      allowance = m.allowance;
      numbers = numbers;
      alpha = alpha;
      pool = pool;
    }

abbrev pub paid_for : ℕ → Books → Books
paid_for n b = record { seats = b.seats; pool = b.pool; spare = b.spare - n; frame = b.frame }

pub record SoundAt (m : Meaning) (b : Books) (t : Tables) : Type 0 where
  pub tied : Tied m.page_size m.pages t
  pub shape : SameBlocks m t
  pub blocks : b.frame.blocks ≡ m.blocks
  pub per_block : b.frame.pages_per_block ≡ m.per_block
  pub page_size : b.frame.page_size ≡ m.page_size
  pub numbers : b.frame.numbers ≤ 1920
  pub labels : (l q : ℕ) → maps_of t l ≡ Some q → l < b.frame.numbers
  -- the spare account can pay for every failure that is left
  pub spare : m.allowance ≤ b.spare
  -- every token has a free page
  pub room : tokens b ≤ all_free m

pub record Standing {C : Type 0} (means : C → Meaning) (H : Type 0) : Type 0 where
  pub chip : Meaning
  -- of this chip
  pub of : C
  pub is : means of ≡ chip
  pub chooser : H
  pub is_open : Bool
  pub ledger : Ledger
  pub tables : Tables

pub record Parts (C H : Type 0) : Type 0 where
  pub chip : C
  pub chooser : H
  pub opened : Option Open

abbrev pub parts : {C H : Type 0} → C → H → Option Open → Parts C H
parts k c o = record { chip = k; chooser = c; opened = o }

pub no_ledger : Ledger
no_ledger = record { seats = replicate 8 nobody; pool = 0; spare = 0; frame = idle; fair = ∣ search rules ∣₁ }

pub no_tables : Tables
no_tables =
    record {
      map = replicate 1920 None;
      dead = replicate 64 0;
      free = 4;
      start = 0;
      geometry = record { blocks = 2; pages_per_block = 2; sized = (omega arith, omega arith, omega arith, omega arith) };
    }

abbrev pub ledger_in : Option Open → Ledger
ledger_in None = no_ledger
ledger_in (Some o) = o.ledger

abbrev pub tables_in : Option Open → Tables
tables_in None = no_tables
tables_in (Some o) = o.tables

abbrev pub standing : {C H : Type 0} (means : C → Meaning) → C → H → Option Open → Standing means H
standing means k c o = record { chip = means k; of = k; is = refl; chooser = c; is_open = is_some o; ledger = ledger_in o; tables = tables_in o }

module _ {C H : Type 0} {means : C → Meaning} where
  pub record OpenSound (s : Standing means H) : Type 0 where
    pub at : SoundAt s.chip (books_of s.ledger) s.tables
    pub settled : Settled (books_of s.ledger)

  abbrev pub Sound : Standing means H → Type 0
  Sound s = MatchBool s.is_open (OpenSound s) (Unit {0})

  abbrev pub view_of : Standing means H → View
  view_of s =
      record {
        maps = maps_of s.tables;
        pages = s.chip.pages;
        account = λ i. (seat_of (books_of s.ledger) i).account;
        charge = λ i. (seat_of (books_of s.ledger) i).charge;
      }

-- a page that is written is written in one way
written_prop : (p : Page) (l most : ℕ) → IsProp ((d : List ℕ) × (p ≡ written l d) × (length d ≤ most))
written_prop p l most x y =
    let same : written l x.0 ≡ written l y.0 = sym x.1 ∙ y.1 in
    let bytes : x.0 ≡ y.0 = cc in
    λ i. (
      bytes i,
      is_prop→PathP (λ j. p ≡ written l (bytes j)) (λ j. Prim.hlevel props) x.1 y.1 i,
      is_prop→PathP (λ j. length (bytes j) ≤ most) (λ j. Prim.hlevel props) x.2 y.2 i,
    )

pub sound_prop : {C H : Type 0} (means : C → Meaning) (k : C) (c : H) (o : Option Open) → IsProp (Sound (standing means k c o))
sound_prop means k c None = Unit-prop
sound_prop means k c (Some o) = Prim.hlevel (props, written_prop)
