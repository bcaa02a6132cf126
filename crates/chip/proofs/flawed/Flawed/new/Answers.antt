use Rattle.std.proofs.Common.{rules}
use Rattle.chip.proofs.Flawing.{means_made}
use Rattle.chip.proofs.flawed.Flawed.new.Goals as goal

pub returns-clause-means : goal.returns-clause-means
returns-clause-means c =
    let made = c.map_or.ensures in
    rw (c.new-2.ensures.size, c.new-2.ensures.bytes)
    (means_made c.args.size c.default.result c.none.result c.args.gaps.now c.args.memory.now c.default.ensures.0 c.new.result c.map_or.result c.new.ensures (search rules))
