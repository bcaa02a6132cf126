use Rattle.std.proofs.Common.{[], length, ap, ◌∙◌, arith}
use Rattle.std.specs.Option.{option_map_or}
use Rattle.script.specs.Text.{words_of}
use Rattle.script.proofs.Cuts.{word_out}
use Rattle.script.proofs.reading.LineIterator.next.Goals as goal

pub returns : goal.returns
returns c =
    let split = c.split_at_mark.ensures in
    let first = ap (λ rest. option_map_or (λ r. words_of r.now) rest []) c.in_ok-self.was ∙ word_out c.in_ok-self.field-0.now _ _ split.first split.rest in
    record { steps = first; goes = record { on = λ _. (tt, tt, omega (arith, ap length first)); keeps = tt; rests = λ _. tt } }
