use Rattle.std.proofs.Common.{◌≡◌, ◌≤◌, drop}
use Rattle.script.specs.Numbers.{number_from}
use Rattle.script.proofs.numbers.number.Given as goal

abbrev pub invariant-loop-b : goal.invariant-loop-b
invariant-loop-b l = (number_from l.value (drop l.b-index l.word) ≡ number_from 0 l.word) × (l.value ≤ 65535)
