-- The eight seats with pool and spare account, the questions a call asks of them, and what it makes of them.
--
-- Books       seats, pool, spare account, and what the opening fixed
-- seat_of     the seat of a number; past the last one nobody
-- tokens      ρ: all tokens, of pool, spare account, seats and collectors
-- highest     H: the most tokens that can be out when a block is chosen
-- lent        what the seats in use have had from the pool
-- ask         one question, and the refusal if the answer is no
-- asks_admit, asks_notice, asks_take, asks_return    the first question of a call that fails, if one does;
--             hand back and save ask asks_return
-- admitted, noticed, taken, returned, spent    the books after an accepted admit, notice, take, hand back, stored save
-- paid        the spare account pays for a failed try
-- paid_for    it pays for so many
-- entered, ran_once, ended    the parts of a tick: its clock, one run, and the end of the meta-period
use Rattle.std.specs.Prelude.{ℕ, ◌+◌, ◌-◌, ◌*◌, Bool, true, false, cond, not, ◌&&◌, List, [], ◌∷◌, Some, None, Ok, Err, Option, Result, ◌==◌, nat_le, nat_lt, slice_index_or, slice_set}
use Rattle.plan.specs.declared.numbers.Plan.{Plan}
use Rattle.plan.specs.Plan.{planned}
use Rattle.plan.specs.Yield.{yield_rule}
use Rattle.ledger.specs.declared.frame.Frame.{Frame}
use Rattle.ledger.specs.declared.refusal.Refusal.{Refusal}
use Rattle.ledger.specs.declared.refusal.Refusal.TheVariants.{
  NoSuchSeat,
  SeatInUse,
  JobOutOfRange,
  PoolTooSmall,
  YieldRuleWouldFail,
  SeatNotInUse,
  SeatNotServing,
  AllCharged,
  PermitsOut,
  NoPermitOut,
}
use Rattle.ledger.specs.declared.seat.Seat.{Seat}
use Rattle.ledger.specs.Seats.{
  nobody,
  is_empty,
  is_serving,
  in_use,
  seated,
  warned,
  took,
  gave_back,
  saved,
  one_later,
  ran,
  turned,
}

pub record Books : Type 0 where
  pub seats : List Seat
  pub pool : ℕ
  pub spare : ℕ
  pub frame : Frame

abbrev pub seat_of : Books → ℕ → Seat
seat_of b i = slice_index_or b.seats i nobody

-- ---- sums over the seats

abbrev pub held : List Seat → ℕ
held [] = 0
held (s ∷ xs) = s.account + s.collector + held xs

abbrev pub tokens : Books → ℕ
tokens b = b.pool + b.spare + held b.seats

abbrev pub extra : ℕ → List Seat → ℕ
extra α [] = 0
extra α (s ∷ xs) = cond (in_use s) ((s.plan.runs - 1) * α) 0 + extra α xs

abbrev pub highest : Books → ℕ
highest b = b.frame.pool + b.frame.allowance + extra b.frame.alpha b.seats

-- what a collector holds: it can copy every live page of a block with at least α dead ones
abbrev pub collector_share : Frame → ℕ
collector_share f = f.pages_per_block - f.alpha

abbrev pub lent : Frame → List Seat → ℕ
lent f [] = 0
lent f (s ∷ xs) = cond (in_use s) (s.plan.writes + collector_share f) 0 + lent f xs

-- ---- questions

abbrev pub ask : Bool → Refusal → Option Refusal → Option Refusal
ask true e rest = rest
ask false e rest = Some e

abbrev pub answer : {X : Type 0} → Option Refusal → X → Result X Refusal
answer None x = Ok x
answer (Some e) x = Err e

-- what a call leaves: a refused one leaves all as it was
abbrev pub unless : {X : Type 0} → Option Refusal → X → X → X
unless None after before = after
unless (Some e) after before = before

abbrev pub rule_with : Books → Plan → Bool
rule_with b plan =
    yield_rule b.frame.blocks b.frame.pages_per_block b.frame.numbers (highest b + (plan.runs - 1) * b.frame.alpha) b.frame.alpha

abbrev pub asks_plan : Books → Option Plan → Option Refusal
asks_plan b None = Some JobOutOfRange
asks_plan b (Some plan) = ask (nat_le (plan.writes + collector_share b.frame) b.pool) PoolTooSmall (ask (rule_with b plan) YieldRuleWouldFail None)

abbrev pub asks_admit : Books → ℕ → ℕ → ℕ → Option Refusal
asks_admit b i p w = ask (nat_lt i 8) NoSuchSeat (ask (is_empty (seat_of b i)) SeatInUse (asks_plan b (planned b.frame.alpha p w)))

abbrev pub used_seat : Books → ℕ → Bool
used_seat b i = nat_lt i 8 && in_use (seat_of b i)

abbrev pub asks_notice : Books → ℕ → Option Refusal
asks_notice b i = ask (used_seat b i) SeatNotInUse (ask (is_serving (seat_of b i)) SeatNotServing (ask ((seat_of b i).out == 0) PermitsOut None))

abbrev pub asks_take : Books → ℕ → Option Refusal
asks_take b i = ask (used_seat b i) SeatNotInUse (ask (is_serving (seat_of b i)) SeatNotServing (ask (nat_lt (seat_of b i).charge (seat_of b i).plan.writes) AllCharged None))

abbrev pub asks_return : Books → ℕ → Option Refusal
asks_return b i = ask (used_seat b i) SeatNotInUse (ask (nat_lt 0 (seat_of b i).out) NoPermitOut None)

-- ---- what a call makes of the books

abbrev pub with_seat : Books → ℕ → Seat → Books
with_seat b i s = record { seats = slice_set b.seats i s; pool = b.pool; spare = b.spare; frame = b.frame }

abbrev pub with_pool : Books → ℕ → Books
with_pool b pool = record { seats = b.seats; pool = pool; spare = b.spare; frame = b.frame }

abbrev pub admitted : Books → ℕ → Plan → Books
admitted b i plan = with_pool (with_seat b i (seated plan (collector_share b.frame))) (b.pool - (plan.writes + collector_share b.frame))

abbrev pub noticed : Books → ℕ → Books
noticed b i = with_seat b i (warned (seat_of b i))

abbrev pub taken : Books → ℕ → Books
taken b i = with_seat b i (took (seat_of b i))

abbrev pub returned : Books → ℕ → Books
returned b i = with_seat b i (gave_back (seat_of b i))

abbrev pub spent : Books → ℕ → Books
spent b i = with_seat b i (saved (seat_of b i))

abbrev pub paid : Books → Books
paid b = record { seats = b.seats; pool = b.pool; spare = b.spare - 1; frame = b.frame }

abbrev pub paid_for : ℕ → Books → Books
paid_for n b = record { seats = b.seats; pool = b.pool; spare = b.spare - n; frame = b.frame }

-- ---- the parts of a tick

abbrev pub entered : Books → ℕ → Books
entered b i = with_seat b i (one_later (seat_of b i))

abbrev pub ran_once : Books → ℕ → Books
ran_once b i = with_seat b i (ran b.frame.alpha (seat_of b i))

-- a seat that ends its meta-period under notice gives back what it had from the pool
abbrev pub leaves : Seat → Bool
leaves s = in_use s && (not (is_serving s) && s.elapsed == s.plan.meta_period)

abbrev pub ended : Books → ℕ → Books
ended b i =
    with_pool (with_seat b i (turned (seat_of b i)))
    (b.pool + cond (leaves (seat_of b i)) ((seat_of b i).plan.writes + collector_share b.frame) 0)
