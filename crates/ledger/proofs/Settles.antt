-- Between the calls every seat's runs are those that are due. Assumes nothing.
use Rattle.std.proofs.lemmas.Grind.{common_steps}
use Rattle.std.proofs.Common.{rules, ◌≡◌, ℕ, ◌+◌, ◌<◌, ◌≤◌, true, length, arith}
use Rattle.plan.specs.declared.numbers.Plan.{Plan}
use Rattle.ledger.specs.declared.frame.Frame.{Frame}
use Rattle.ledger.specs.declared.seat.Seat.{Seat}
use Rattle.ledger.specs.Seats.{due}
use Rattle.ledger.specs.Books.{Books, seat_of, used_seat, admitted, noticed, taken, returned, spent, entered, ran_once, ended}
use Rattle.ledger.specs.Fair.{FairBooks, JobFair, opened}
use Rattle.ledger.specs.Settled.{Settled, SettledBut, Below}
use Rattle.ledger.specs.Steps.{stepped, owes, made_one}
use Rattle.ledger.proofs.Clockwork.{runs_left}
use Rattle.ledger.proofs.Jobs.{some_run, due_within}

pub opened_settled : (f : Frame) → Settled (opened f)
opened_settled f i there = search rules

-- one seat for another: of the seats around it nothing changes
module _ (b : Books) (at : ℕ) (long : length b.seats ≡ 8) where
  pub noticed_settled : used_seat b at ≡ true → Settled b → Settled (noticed b at)
  noticed_settled used all = search rules

  pub taken_settled : Settled b → Settled (taken b at)
  taken_settled all = search rules

  pub returned_settled : Settled b → Settled (returned b at)
  returned_settled all = search rules

  pub spent_settled : Settled b → Settled (spent b at)
  spent_settled all = search rules

  pub admitted_settled : (plan : Plan) → 1 ≤ plan.meta_period → Settled b → Settled (admitted b at plan)
  admitted_settled plan lasts all = search rules

  -- inside a tick
  pub entered_settled : Settled b → SettledBut at (entered b at)
  entered_settled all = search rules

  pub ran_settled : SettledBut at b → SettledBut at (ran_once b at)
  ran_settled but = search rules

-- ---- the end of a seat's tick

-- a tick that has made a seat's runs leaves every seat settled
pub ended_settled : (b : Books) (at : ℕ) → FairBooks b → at < 8 → SettledBut at b → (used_seat b at ≡ true → (seat_of b at).runs ≡ due (seat_of b at)) → Settled (ended b at)
ended_settled b at fair within but made = grind (arith, common_steps)

-- a settled seat has a run left
pub run_left : {f : Frame} {s : Seat} → JobFair f s → (s.elapsed < s.plan.meta_period) × (s.runs ≡ due s) → s.runs < s.plan.runs
run_left {s = s} j settled = grind (arith, common_steps, runs_left, some_run)

-- ---- what a seat owes

module _ (b : Books) (i : ℕ) (fair : FairBooks b) where
  pub none_owed : owes b i ≡ 0 → used_seat b i ≡ true → (seat_of b i).runs ≡ due (seat_of b i)
  none_owed none used = search rules

  -- a seat that owes a run is in use, and has fewer than are due
  pub owing : 0 < owes b i → (used_seat b i ≡ true) × ((seat_of b i).runs < due (seat_of b i))
  owing some = search rules

  pub made_one_is : 0 < owes b i → made_one b i ≡ ran_once b i
  made_one_is some = search rules

  -- each run pays off one
  pub owes_less : 0 < owes b i → owes (ran_once b i) i + 1 ≡ owes b i
  owes_less some = search rules

  -- ---- whenever a block is chosen, no seat has made its last run

  pub below_owing : SettledBut i b → 0 < owes b i → Below b
  below_owing but some j there used = grind (arith, common_steps, due_within, run_left)

pub below_settled : (b : Books) → FairBooks b → Settled b → Below b
below_settled b fair all i there used = run_left ((fair.each i there).used used) (all i there used)

-- one tick more for a seat in use
pub stepped_is : (b : Books) (i : ℕ) → Settled b → used_seat b i ≡ true → stepped b i ≡ entered b i
stepped_is b i all used = search rules
