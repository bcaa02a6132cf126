use Rattle.std.proofs.Common.{rules}
use Rattle.std.proofs.iter.runs.Sources.{sums}
use Rattle.chooser.proofs.Askable.{asked}
use Rattle.chooser.proofs.counts.Counts.of.Goals as goal

pub sum-requires-clause-fits : goal.sum-requires-clause-fits
sum-requires-clause-fits c =
    let few = (asked c.args.dead.now (search rules)).few in
    search (rules, sums)
