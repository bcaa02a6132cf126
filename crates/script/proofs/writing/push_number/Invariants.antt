use Rattle.script.proofs.Decimals.{Wrote}
use Rattle.script.proofs.writing.push_number.Given as goal

abbrev pub invariant-loop-rest : goal.invariant-loop-rest
invariant-loop-rest l = Wrote l.number l.rest l.first l.digits

abbrev pub decreases-loop-rest : goal.decreases-loop-rest
decreases-loop-rest l = l.rest
