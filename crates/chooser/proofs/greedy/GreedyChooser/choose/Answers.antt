use Rattle.std.proofs.Common.{rules}
use Rattle.chooser.proofs.Yield.{fullest_yields, stays_answer}
use Rattle.chooser.proofs.greedy.GreedyChooser.choose.Goals as goal

pub returns-clause-law : goal.returns-clause-law
returns-clause-law c =
    let dead = c.args.question.dead.now in
    stays_answer dead c.args.self.now c.map_or.result (λ asked. fullest_yields dead c.map_or.result (search rules)) (search rules)
