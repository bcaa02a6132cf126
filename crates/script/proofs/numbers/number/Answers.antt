use Rattle.std.proofs.Common.{arith, rules}
use Rattle.script.proofs.Digits.{past_most}
use Rattle.script.proofs.numbers.number.Goals as goal

pub returns-then-value-from : goal.returns-then-value-from
returns-then-value-from c =
    let none = past_most c.args.word.now c.loop-b.b-index c.loop-b.value (omega arith) (grind arith) in
    search rules
