use Rattle.std.proofs.Common.{◌≡◌, ℕ, ◌==◌, length, sym, refl, arith, rules, take_all}
use Rattle.std.proofs.lemmas.List.Sums.{position_or_len_is}
use Rattle.std.proofs.lemmas.List.{take_rest}
use Rattle.script.specs.Text.{part}
use Rattle.script.proofs.reading.split_at_mark.Goals as goal

pub returns-in-Some : goal.returns-in-Some
returns-in-Some c =
    let bytes = c.args.bytes.now in
    let found : part c.args.mark bytes ≡ c.in-Some.at = position_or_len_is (λ (b : ℕ). b == c.args.mark) bytes c.in-Some.at 0 (search rules) (search rules) (search rules) in
    record { first = rw found; rest = rw (found, take_rest) (search rules, refl) }

pub returns-in-None : goal.returns-in-None
returns-in-None c =
    let bytes = c.args.bytes.now in
    let none : part c.args.mark bytes ≡ length bytes = position_or_len_is (λ (b : ℕ). b == c.args.mark) bytes (length bytes) 0 (omega arith) (search rules) (search rules) in
    record { first = rw none (sym (take_all (length bytes) bytes (omega arith))); rest = none }
