-- That books are fair is a fact, and so every ledger gives it. Assumes nothing.
use Rattle.std.proofs.Common.{◌≡◌, ℕ, List}
use mathlib.Core.HLevel.{is_prop→PathP}
use mathlib.Core.Logic.{∥∥₁_elim, ∥∥₁_prop}
use native.Mathlib.Bridge.{le_prop}
use denote.Struct.Props.{≡_prop}
use base.Stored.{coded_ℕ, coded_bool}
use Rattle.ledger.specs.contracts.seat.Seat.{the_row}
use Rattle.ledger.specs.declared.frame.Frame.{Frame}
use Rattle.ledger.specs.declared.ledger.Ledger.{Ledger}
use Rattle.ledger.specs.declared.seat.Seat.{Seat}
use Rattle.ledger.specs.Fair.{Fair, JobFair, SeatFair}
use Rattle.ledger.specs.Of.{books_of}

job_fact : (f : Frame) (s : Seat) → IsProp (JobFair f s)
job_fact f s a b = λ i.
    record {
      lasts = le_prop a.lasts b.lasts i;
      writes_some = le_prop a.writes_some b.writes_some i;
      writes_few = le_prop a.writes_few b.writes_few i;
      runs_few = le_prop a.runs_few b.runs_few i;
      won_back = le_prop a.won_back b.won_back i;
      charged = le_prop a.charged b.charged i;
      within = le_prop a.within b.within i;
      true_account = ≡_prop coded_ℕ _ _ a.true_account b.true_account i;
      clock = le_prop a.clock b.clock i;
      none_early = le_prop a.none_early b.none_early i;
      copies_paid = ≡_prop coded_ℕ _ _ a.copies_paid b.copies_paid i;
      on_leaving = λ e. ≡_prop coded_ℕ _ _ (a.on_leaving e) (b.on_leaving e) i;
    }

seat_fact : (f : Frame) (s : Seat) → IsProp (SeatFair f s)
seat_fact f s a b = λ i.
    record {
      unused = λ e. ≡_prop the_row.coded _ _ (a.unused e) (b.unused e) i;
      used = λ e. job_fact f s (a.used e) (b.used e) i;
    }

fair_fact : (seats : List Seat) (pool spare : ℕ) (f : Frame) → IsProp (Fair seats pool spare f)
fair_fact seats pool spare f a b = λ i.
    record {
      eight = ≡_prop coded_ℕ _ _ a.eight b.eight i;
      each = λ k h. seat_fact f _ (a.each k h) (b.each k h) i;
      lent_out = ≡_prop coded_ℕ _ _ a.lent_out b.lent_out i;
      spare_within = le_prop a.spare_within b.spare_within i;
      yields = le_prop a.yields b.yields i;
      yields_within = le_prop a.yields_within b.yields_within i;
      small_blocks = le_prop a.small_blocks b.small_blocks i;
      few_blocks = le_prop a.few_blocks b.few_blocks i;
      rule = ≡_prop coded_bool _ _ a.rule b.rule i;
    }

pub fair_of : (l : Ledger) → Fair l.seats l.pool l.spare l.frame
fair_of l = ∥∥₁_elim l.fair (fair_fact l.seats l.pool l.spare l.frame) (λ fair. fair)

-- two ledgers with the same books are the same
pub same_ledger : (l m : Ledger) → books_of l ≡ books_of m → l ≡ m
same_ledger l m same = λ i.
    record {
      seats = (same i).seats;
      pool = (same i).pool;
      spare = (same i).spare;
      frame = (same i).frame;
      fair = is_prop→PathP (λ j. ∥ Fair (same j).seats (same j).pool (same j).spare (same j).frame ∥₁) (λ j. ∥∥₁_prop) l.fair m.fair i;
    }
