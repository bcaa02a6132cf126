-- A whole tick.
use Rattle.chip.specs.Meaning.{Meaning}
use Rattle.std.proofs.Common.{◌≡◌, ℕ, true, false, [], Ok, Err, Result, ◌∙◌, subst, arith, rules}
use Rattle.ledger.specs.declared.refusal.Refusal.{Refusal}
use Rattle.ledger.specs.Of.{books_of}
use Rattle.history.specs.History.{History}
use Rattle.store.specs.declared.ticked.Ticked.{Ticked}
use Rattle.store.specs.State.{Standing, OpenSound}
use Rattle.store.specs.Tick.{Walk, begun}
use Rattle.store.specs.Effects.{desk_of, Passed, Ticks}
use Rattle.store.specs.Walking.{Walked}
use Rattle.store.proofs.Booking.{sound_open, open_sound}

module _ {C H : Type 0} {means : C → Meaning} where
  pub passed_all : (s : Standing means H) → s.is_open ≡ true → (done : ℕ) (l : Ticked) (t : Standing means H) → done ≡ 8 → Walked (record { runs = 0; recycles = 0; copies = 0; tries = 0 }) s done l t
      → (h : History) → ((h' : History) × Passed s l h h' t)
  passed_all s opened done l t all y h =
      let v = y.goes (books_of s.ledger) (desk_of h s) h begun in (
        v.0,
        record {
          open_before = opened;
          is_open = y.between.is_open ∙ opened;
          failed = omega (arith, y.between.failed);
          sizes = y.between.sizes;
          walk = subst (λ i. Walk (books_of s.ledger) (desk_of h s) i false l.runs l.recycles l.copies l.tries (books_of t.ledger) (desk_of v.0 t)) all v.1;
          sound = open_sound t (y.between.is_open ∙ opened) (record { at = y.between.sound; settled = y.settled });
        },
      )

  -- an open store is sound after its tick, whatever the tick answers
  pub ticked_sound : (s t : Standing means H) (r : Result Ticked Refusal) → s.is_open ≡ true → t.is_open ≡ true → Ticks s r t → OpenSound t
  ticked_sound s t (Ok k) is after did = sound_open t after (did []).1.sound
  ticked_sound s t (Err e) is after did = search rules
