use Rattle.chip.proofs.Blocks.{length_shaped, after_first, after_second}
use Rattle.chip.proofs.pair.PairChip.erase.Goals as goal

pub returns-in-First-clause-after : goal.returns-in-First-clause-after
returns-in-First-clause-after g c =
    let f = c.in_ok-block.ensures in
    let at = rw c.in-First.is at f.value.1 in
    let long = length_shaped _ (g.A.Chip.shaped c.args.self.now.first) in
    rw (c.erase.ensures.after, f.first, f.second, at.1) (after_first _ _ f.value.0 long c.args.block at.0)

pub returns-in-Second-clause-after : goal.returns-in-Second-clause-after
returns-in-Second-clause-after g c =
    let f = c.in_ok-block.ensures in
    let at = rw c.in-Second.is at f.value.1 in
    let long = length_shaped _ (g.A.Chip.shaped c.args.self.now.first) in
    rw (c.erase-in-Second.ensures.after, f.first, f.second, at.1) (after_second _ _ f.value.0 long c.args.block at.0)
