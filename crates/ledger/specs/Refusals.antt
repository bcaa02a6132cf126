-- number    the number of a refusal
use Rattle.std.specs.Prelude.{ℕ}
use Rattle.ledger.specs.declared.refusal.Refusal.{Refusal}
use Rattle.ledger.specs.declared.refusal.Refusal.TheVariants.{
  AlreadyOpen,
  BlocksOutOfRange,
  NumbersOutOfRange,
  AlphaOutOfRange,
  YieldRuleFails,
  NotOpen,
  NoSuchSeat,
  SeatInUse,
  JobOutOfRange,
  PoolTooSmall,
  YieldRuleWouldFail,
  SeatNotInUse,
  SeatNotServing,
  AllCharged,
  PermitsOut,
  NoPermitOut,
  NoSuchNumber,
  DataTooLong,
  NothingStored,
  BufferTooShort,
  TablesDisagree,
}

abbrev pub number : Refusal → ℕ
number AlreadyOpen = 1
number BlocksOutOfRange = 2
number NumbersOutOfRange = 3
number AlphaOutOfRange = 4
number YieldRuleFails = 5
number NotOpen = 6
number NoSuchSeat = 7
number SeatInUse = 8
number JobOutOfRange = 9
number PoolTooSmall = 10
number YieldRuleWouldFail = 11
number SeatNotInUse = 12
number SeatNotServing = 13
number AllCharged = 14
number PermitsOut = 15
number NoPermitOut = 16
number NoSuchNumber = 17
number DataTooLong = 18
number NothingStored = 19
number BufferTooShort = 20
number TablesDisagree = 99
