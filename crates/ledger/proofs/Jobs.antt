-- What each deed and each part of a tick keep of a fair seat. Assumes nothing.
use Rattle.std.proofs.Common.{rules, ◌≡◌, ◌+◌, ◌*◌, ◌<◌, ◌≤◌, true, arith}
use Rattle.plan.specs.declared.numbers.Plan.{Plan}
use Rattle.ledger.specs.declared.frame.Frame.{Frame}
use Rattle.ledger.specs.declared.seat.Seat.{Seat}
use Rattle.ledger.specs.Seats.{is_serving, in_use, seated, warned, took, gave_back, saved, one_later, due, ran, turned}
use Rattle.ledger.specs.Books.{collector_share}
use Rattle.ledger.specs.Fair.{JobFair, SeatFair}

module _ {f : Frame} {s : Seat} (j : JobFair f s) where
  -- each permit that is out is paid for
  pub out_paid : s.out ≤ s.account
  out_paid = omega (arith, j.true_account, j.within)

  pub due_within : due s ≤ s.plan.runs
  due_within = search rules

  pub some_run : 1 ≤ s.plan.runs
  some_run = search rules

  -- an account never holds more than W and α for each run
  pub account_within : s.account ≤ s.plan.writes + f.alpha * s.runs
  account_within = omega (arith, j.true_account, j.charged)

  pub warned_fair : s.out ≡ 0 → JobFair f (warned s)
  warned_fair none = search rules

  pub took_fair : is_serving s ≡ true → s.charge < s.plan.writes → JobFair f (took s)
  took_fair serving room = search rules

  pub gave_back_fair : 0 < s.out → JobFair f (gave_back s)
  gave_back_fair some = search rules

  pub saved_fair : 0 < s.out → JobFair f (saved s)
  saved_fair some = search rules

  pub one_later_fair : s.elapsed < s.plan.meta_period → JobFair f (one_later s)
  one_later_fair before = search rules

  pub ran_fair : s.runs < due s → JobFair f (ran f.alpha s)
  ran_fair more = search rules

-- ---- seats

pub job_seat : {f : Frame} {s : Seat} → in_use s ≡ true → JobFair f s → SeatFair f s
job_seat {s = s} used j = search rules

pub seated_fair :
    (f : Frame) (plan : Plan) → 1 ≤ plan.meta_period → 1 ≤ plan.writes → plan.writes ≤ 1024 → plan.runs ≤ 1024 → plan.writes ≤ plan.runs * f.alpha → JobFair f (seated plan (collector_share f))
seated_fair f plan lasts some few runs_few won_back = search rules

pub turned_fair : {f : Frame} {s : Seat} → SeatFair f s → SeatFair f (turned s)
turned_fair {s = s} fair = search rules
