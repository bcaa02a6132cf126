-- The runs of one seat, and the seats of a tick.
use Rattle.std.proofs.lemmas.Grind.{common_steps}
use Rattle.std.proofs.Common.{◌≡◌, ℕ, ◌+◌, ◌*◌, ◌<◌, ◌≤◌, true, false, sym, refl, ap, ◌∙◌, subst, arith, rules}
use Rattle.chip.specs.Meaning.{Meaning}
use Rattle.ledger.specs.declared.ledger.Ledger.{Ledger}
use Rattle.ledger.specs.Books.{Books, used_seat, entered, ended}
use Rattle.ledger.specs.Of.{books_of}
use Rattle.ledger.specs.Steps.{stepped, owes}
use Rattle.ledger.specs.Settled.{Settled, SettledBut}
use Rattle.ledger.specs.Seats.{due}
use Rattle.ledger.proofs.Facts.{fair_of}
use Rattle.ledger.proofs.Jobs.{due_within}
use Rattle.ledger.proofs.Kept.{step_keeps, end_keeps, end_settles}
use Rattle.ledger.proofs.Settles.{stepped_is, entered_settled}
use Rattle.store.specs.State.{Standing}
use Rattle.store.specs.declared.ticked.Ticked.{Ticked}
use Rattle.store.specs.State.{SoundAt}
use Rattle.store.specs.Tick.{Walk, unused, enters, ends}
use Rattle.store.specs.Effects.{desk_of}
use Rattle.store.proofs.Booking.{sound_at}
use Rattle.store.specs.Walking.{Few, CanRun, Ran, CanServe, Served, Begun, Midway, Walked}

pub few_more : (n p : ℕ) (k : Ticked) (m : Meaning) → n ≤ p → Few n k m → Few p k m
few_more n p k m more few = search rules

module _ {C H : Type 0} {means : C → Meaning} where
  -- ---- the runs of one seat

  module _ (n i due done : ℕ) (k : Ticked) (s : Standing means H) (g : Begun n i k s due) (l : Ticked) (t : Standing means H) (y : Midway n i k s done l t) (more : done < due) where
    pub midway_can : CanRun (n + done) i l t
    midway_can = search rules

    pub midway_more : (j : Ticked) (u : Standing means H) → Ran (n + done) i l t j u → Midway n i k s (done + 1) j u
    midway_more j u r = grind (arith, common_steps)

  -- ---- a seat

  module _ (n i : ℕ) (k : Ticked) (s : Standing means H) (can : CanServe n i k s) where
    -- an empty seat is passed
    pub served_unused : (c : Ledger) → used_seat (books_of s.ledger) i ≡ false → books_of c ≡ books_of s.ledger
        → Served n i k s k (record { chip = s.chip; of = s.of; is = s.is; chooser = s.chooser; is_open = s.is_open; ledger = c; tables = s.tables })
    served_unused c none same =
        record {
          between =
              record {
                sound = subst (λ b. SoundAt s.chip b s.tables) (sym same) can.sound;
                few = few_more n (n + 1024) k s.chip (omega arith) can.few;
                failed = omega arith;
                sizes = record { blocks = refl; per_block = refl; page_size = refl };
                is_open = refl;
              };
          goes = λ b x h w. (h, subst (λ a. Walk b x (i + 1) false k.runs k.recycles k.copies k.tries a (desk_of h s)) (sym same) (unused w none));
          settled = subst Settled (sym same) can.settled;
        }

    -- a seat in use: entered, its runs made, and ended
    module _ (e : Ledger) (used : used_seat (books_of s.ledger) i ≡ true) (enter : books_of e ≡ entered (books_of s.ledger) i) where
      abbrev pub at_seat : Standing means H
      at_seat = record { chip = s.chip; of = s.of; is = s.is; chooser = s.chooser; is_open = s.is_open; ledger = e; tables = s.tables }

      pub served_used : (due : ℕ) (l : Ticked) (t : Standing means H) (c : Ledger) → Begun n i k at_seat due → Midway n i k at_seat due l t → books_of c ≡ ended (books_of t.ledger) i
          → Served n i k s l (record { chip = t.chip; of = t.of; is = t.is; chooser = t.chooser; is_open = t.is_open; ledger = c; tables = t.tables })
      served_used due l t c g y close =
          let none : owes (books_of t.ledger) i ≡ 0 = omega (arith, y.owing, g.owing) in
          let fair = fair_of t.ledger in
          record {
            between =
                record {
                  sound =
                      sound_at refl refl (ap (λ a. a.frame) close) (ap (λ a. a.spare) close) (end_keeps fair i close none) y.between.sound;
                  few = few_more (n + due) (n + 1024) l t.chip (omega (arith, g.some)) y.between.few;
                  failed = y.between.failed;
                  sizes = y.between.sizes;
                  is_open = y.between.is_open;
                };
            goes = λ b x h w.
                let v = y.goes b x h (subst (λ a. Walk b x i true k.runs k.recycles k.copies k.tries a (desk_of h s)) (sym enter) (enters w used)) in
                (v.0, subst (λ a. Walk b x (i + 1) false l.runs l.recycles l.copies l.tries a (desk_of v.0 t)) (sym close) (ends v.1 none));
            settled = end_settles fair i close can.seat none y.but;
          }

  -- ---- the seats of a tick

  module _ (k : Ticked) (s : Standing means H) (done : ℕ) (l : Ticked) (t : Standing means H) (y : Walked k s done l t) (more : done < 8) where
    pub walked_can : CanServe (1024 * done) done l t
    walked_can = search rules

    pub walked_more : (j : Ticked) (u : Standing means H) → Served (1024 * done) done l t j u → Walked k s (done + 1) j u
    walked_more j u r = search rules

-- ---- where a seat begins

-- a seat in use was entered
module _ {C H : Type 0} {means : C → Meaning} (n i : ℕ) (k : Ticked) (s : Standing means H) (can : CanServe n i k s) (e : Ledger) (used : used_seat (books_of s.ledger) i ≡ true)
    (step : books_of e ≡ stepped (books_of s.ledger) i) where
  pub entered_so : books_of e ≡ entered (books_of s.ledger) i
  entered_so = step ∙ stepped_is (books_of s.ledger) i can.settled used

  few_due : owes (books_of e) i ≤ 1024
  few_due = grind (arith, common_steps, fair_of, due_within)

  pub begun_so : (owed : ℕ) → owed ≡ owes (books_of e) i → Begun {means = means} n i k (record { chip = s.chip; of = s.of; is = s.is; chooser = s.chooser; is_open = s.is_open; ledger = e; tables = s.tables }) owed
  begun_so owed is =
      record {
        sound =
            sound_at refl refl (ap (λ a. a.frame) entered_so) (ap (λ a. a.spare) entered_so) (omega (arith, step_keeps (fair_of s.ledger) i step)) can.sound;
        few = can.few;
        little = can.little;
        some = omega (arith, is, few_due);
        owing = sym is;
        but = subst (SettledBut i) (sym entered_so) (entered_settled (books_of s.ledger) i (fair_of s.ledger).eight can.settled);
      }

-- nothing happens to an empty seat
pub stepped_unused : (b : Books) (i : ℕ) → used_seat b i ≡ false → stepped b i ≡ b
stepped_unused b i none = search rules
