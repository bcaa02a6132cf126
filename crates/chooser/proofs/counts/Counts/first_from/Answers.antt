use Rattle.std.proofs.Common.{rules}
use Rattle.std.proofs.iter.runs.Sources.{ranges}
use Rattle.chooser.proofs.Search.{searched}
use Rattle.chooser.proofs.counts.Counts.first_from.Goals as goal

pub returns : goal.returns
returns c = searched c.args.self.now.dead.now c.args.from c.find.result (search (rules, ranges))
