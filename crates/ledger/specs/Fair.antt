-- What is true of the books at every moment, also inside a tick.
--
-- JobFair     a seat in use: its plan pays for itself, and its charge, its account and its clock belong together
-- SeatFair    an empty seat is nobody's, and a seat in use is a fair job's
-- Fair        eight fair seats, a pool that has lent what they had from it, a spare account within the allowance,
--             and the yield rule
-- FairBooks   the same of books
-- Found       a seat in use, as the books have it under its number
-- Affordable  a plan that pays for itself, and that pool and yield rule allow
-- stands      the frames that a ledger can be opened with
-- opened      the books of a ledger that was just opened
-- idle        a frame with no tokens, for a store that is shut
use Rattle.std.specs.Prelude.{◌≡◌, ℕ, ◌+◌, ◌*◌, ◌<◌, ◌≤◌, Bool, true, false, ◌&&◌, List, length, replicate, nat_le, slice_index_or}
use Rattle.plan.specs.declared.numbers.Plan.{Plan}
use Rattle.plan.specs.Yield.{yield_rule}
use Rattle.ledger.specs.declared.frame.Frame.{Frame}
use Rattle.ledger.specs.declared.seat.Seat.{Seat}
use Rattle.ledger.specs.Seats.{nobody, is_serving, in_use, due}
use Rattle.ledger.specs.Books.{Books, seat_of, collector_share, lent, extra, rule_with}

pub record JobFair (f : Frame) (s : Seat) : Type 0 where
  pub lasts : 1 ≤ s.plan.meta_period
  pub writes_some : 1 ≤ s.plan.writes
  pub writes_few : s.plan.writes ≤ 1024
  pub runs_few : s.plan.runs ≤ 1024
  -- what a meta-period may write, its runs win back
  pub won_back : s.plan.writes ≤ s.plan.runs * f.alpha
  pub charged : s.out ≤ s.charge
  pub within : s.charge ≤ s.plan.writes
  -- the account is W, and α for each run, less the saves stored, which are the charge less the permits out
  pub true_account : s.account + s.charge ≡ s.plan.writes + f.alpha * s.runs + s.out
  pub clock : s.elapsed ≤ s.plan.meta_period
  pub none_early : s.runs ≤ due s
  pub copies_paid : s.collector ≡ collector_share f
  pub on_leaving : is_serving s ≡ false → s.out ≡ 0

pub record SeatFair (f : Frame) (s : Seat) : Type 0 where
  pub unused : in_use s ≡ false → s ≡ nobody
  pub used : in_use s ≡ true → JobFair f s

pub record Fair (seats : List Seat) (pool spare : ℕ) (f : Frame) : Type 0 where
  pub eight : length seats ≡ 8
  pub each : (i : ℕ) → i < 8 → SeatFair f (slice_index_or seats i nobody)
  pub lent_out : pool + lent f seats ≡ f.pool
  pub spare_within : spare ≤ f.allowance
  pub yields : 1 ≤ f.alpha
  pub yields_within : f.alpha ≤ f.pages_per_block
  pub small_blocks : f.pages_per_block ≤ 32
  pub few_blocks : f.blocks ≤ 64
  pub rule : yield_rule f.blocks f.pages_per_block f.numbers (f.pool + f.allowance + extra f.alpha seats) f.alpha ≡ true

pub record Found (b : Books) (i : ℕ) (s : Seat) : Type 0 where
  pub there : i < 8
  pub is : s ≡ seat_of b i
  pub used : in_use s ≡ true
  pub fair : JobFair b.frame s

pub record Affordable (b : Books) (plan : Plan) : Type 0 where
  pub lasts : 1 ≤ plan.meta_period
  pub writes_some : 1 ≤ plan.writes
  pub writes_few : plan.writes ≤ 1024
  pub runs_few : plan.runs ≤ 1024
  pub won_back : plan.writes ≤ plan.runs * b.frame.alpha
  pub in_pool : plan.writes + collector_share b.frame ≤ b.pool
  pub rule : rule_with b plan ≡ true

abbrev pub stands : Frame → Bool
stands f =
    (nat_le 1 f.alpha && nat_le f.alpha f.pages_per_block) && ((nat_le f.pages_per_block 32 && nat_le f.blocks 64) && yield_rule f.blocks f.pages_per_block f.numbers (f.pool + f.allowance) f.alpha)

abbrev pub opened : Frame → Books
opened f = record { seats = replicate 8 nobody; pool = f.pool; spare = f.allowance; frame = f }

abbrev pub idle : Frame
idle = record { blocks = 2; pages_per_block = 2; page_size = 1; allowance = 0; numbers = 1; alpha = 1; pool = 0 }

abbrev pub FairBooks : Books → Type 0
FairBooks b = Fair b.seats b.pool b.spare b.frame
