-- One seat, and what each deed and each tick make of it.
--
-- nobody      the record of an empty seat
-- is_empty, is_serving, in_use    tests of a seat's status
-- seated      a seat that was just admitted with a plan, its collector holding so many tokens
-- warned      under notice
-- took        one more permit granted
-- gave_back   a permit handed back
-- saved       a save stored: a permit and a token are spent, and the charge stands
-- one_later   a tick has passed
-- due         the runs of this meta-period that the ticks so far ask for: ⌊e·k/σ⌋
-- ran         a run was made: the account gains the yield α
-- turned      at the end of its meta-period a serving seat starts a new one and a seat under notice is emptied
-- passed      all that one tick makes of a seat
use Rattle.std.specs.Prelude.{ℕ, ◌+◌, ◌-◌, ◌*◌, ◌/◌, Bool, true, false, cond, not, ◌==◌}
use Rattle.plan.specs.declared.numbers.Plan.{Plan}
use Rattle.ledger.specs.declared.seat.Status.{Status}
use Rattle.ledger.specs.declared.seat.Status.TheVariants.{Empty, Serving, OnNotice}
use Rattle.ledger.specs.declared.seat.Seat.{Seat}

abbrev pub nobody : Seat
nobody =
    record {
      status = Empty;
      plan = record { meta_period = 0; writes = 0; runs = 0 };
      account = 0;
      collector = 0;
      charge = 0;
      out = 0;
      elapsed = 0;
      runs = 0;
    }

abbrev pub empty_status : Status → Bool
empty_status Empty = true
empty_status Serving = false
empty_status OnNotice = false

abbrev pub serving_status : Status → Bool
serving_status Empty = false
serving_status Serving = true
serving_status OnNotice = false

abbrev pub is_empty : Seat → Bool
is_empty s = empty_status s.status

abbrev pub is_serving : Seat → Bool
is_serving s = serving_status s.status

abbrev pub in_use : Seat → Bool
in_use s = not (is_empty s)

-- ---- what a call makes of a seat

abbrev pub seated : Plan → ℕ → Seat
seated plan collector = record { status = Serving; plan = plan; account = plan.writes; collector = collector; charge = 0; out = 0; elapsed = 0; runs = 0 }

abbrev pub warned : Seat → Seat
warned s =
    record { status = OnNotice; plan = s.plan; account = s.account; collector = s.collector; charge = s.charge; out = s.out; elapsed = s.elapsed; runs = s.runs }

abbrev pub took : Seat → Seat
took s =
    record {
      status = s.status;
      plan = s.plan;
      account = s.account;
      collector = s.collector;
      charge = s.charge + 1;
      out = s.out + 1;
      elapsed = s.elapsed;
      runs = s.runs;
    }

abbrev pub gave_back : Seat → Seat
gave_back s =
    record {
      status = s.status;
      plan = s.plan;
      account = s.account;
      collector = s.collector;
      charge = s.charge - 1;
      out = s.out - 1;
      elapsed = s.elapsed;
      runs = s.runs;
    }

abbrev pub saved : Seat → Seat
saved s =
    record {
      status = s.status;
      plan = s.plan;
      account = s.account - 1;
      collector = s.collector;
      charge = s.charge;
      out = s.out - 1;
      elapsed = s.elapsed;
      runs = s.runs;
    }

-- ---- what a tick makes of a seat

abbrev pub one_later : Seat → Seat
one_later s =
    record {
      status = s.status;
      plan = s.plan;
      account = s.account;
      collector = s.collector;
      charge = s.charge;
      out = s.out;
      elapsed = s.elapsed + 1;
      runs = s.runs;
    }

abbrev pub due : Seat → ℕ
due s = s.elapsed * s.plan.runs / s.plan.meta_period

abbrev pub ran : ℕ → Seat → Seat
ran α s =
    record {
      status = s.status;
      plan = s.plan;
      account = s.account + α;
      collector = s.collector;
      charge = s.charge;
      out = s.out;
      elapsed = s.elapsed;
      runs = s.runs + 1;
    }

-- so many runs more
abbrev pub ran_times : ℕ → ℕ → Seat → Seat
ran_times α n s =
    record {
      status = s.status;
      plan = s.plan;
      account = s.account + α * n;
      collector = s.collector;
      charge = s.charge;
      out = s.out;
      elapsed = s.elapsed;
      runs = s.runs + n;
    }

abbrev pub renewed : Seat → Seat
renewed s =
    record {
      status = s.status;
      plan = s.plan;
      account = s.plan.writes;
      collector = s.collector;
      charge = s.out;
      out = s.out;
      elapsed = 0;
      runs = 0;
    }

abbrev pub at_end : Status → Seat → Seat
at_end Empty s = s
at_end Serving s = renewed s
at_end OnNotice s = nobody

abbrev pub turned : Seat → Seat
turned s = cond (s.elapsed == s.plan.meta_period) (at_end s.status s) s

-- a tick passes for a seat in use: its clock, the runs that are due then, and the end of its meta-period
abbrev pub served : ℕ → Seat → Seat
served α s = ran_times α (due (one_later s) - s.runs) (one_later s)

abbrev pub passed : ℕ → Seat → Seat
passed α s = cond (in_use s) (turned (served α s)) s
