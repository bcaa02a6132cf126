use Rattle.script.proofs.Whole.{cut_law}
use Rattle.script.proofs.readers.Script.new.Goals as goal

pub returns-clause-law : goal.returns-clause-law
returns-clause-law c = cut_law c.args.input.now
