use Rattle.chip.proofs.Joining.{program_first, program_second}
use Rattle.chip.proofs.pair.PairChip.program.Goals as goal

pub returns-in-First-clause-effect : goal.returns-in-First-clause-effect
returns-in-First-clause-effect g c =
    let f = c.in_ok-page.ensures in
    let at = rw c.in-First.is at f.value.1 in
    let did = rw (f.first, at.1) at c.program.ensures.effect in
    rw f.second (program_first _ _ f.value.0 c.args.page c.args.label c.args.bytes.now c.program.result _ at.0 did)

pub returns-in-Second-clause-effect : goal.returns-in-Second-clause-effect
returns-in-Second-clause-effect g c =
    let f = c.in_ok-page.ensures in
    let at = rw c.in-Second.is at f.value.1 in
    let did = rw (f.second, at.1) at c.program-in-Second.ensures.effect in
    rw f.first (program_second _ _ f.value.0 c.args.page c.args.label c.args.bytes.now c.program-in-Second.result _ at.0 did)
