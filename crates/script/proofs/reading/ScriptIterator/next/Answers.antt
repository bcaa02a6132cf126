use Rattle.std.proofs.Common.{length, ap, arith}
use Rattle.script.proofs.Cuts.{line_out}
use Rattle.script.proofs.reading.ScriptIterator.next.Goals as goal

pub returns : goal.returns
returns c =
    let split = c.split_at_mark.ensures in
    let first = line_out c.args.self.now.rest.now _ _ _ (grind arith) split.first split.rest c.unwrap_or_default-self.ensures in
    record { steps = first; goes = record { on = λ _. (tt, tt, omega (arith, ap length first)); keeps = tt; rests = λ _. tt } }
