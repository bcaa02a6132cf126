use Rattle.std.proofs.Common.{arith, rules}
use Rattle.chooser.proofs.Askable.{tested}
use Rattle.chooser.proofs.counts.askable.Goals as goal

pub returns-then-dead-le-MOST_BLOCKS : goal.returns-then-dead-le-MOST_BLOCKS
returns-then-dead-le-MOST_BLOCKS c =
    let small = tested 32 c.args.dead.now c.all.result (search rules) in
    grind arith
