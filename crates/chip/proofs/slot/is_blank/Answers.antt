use Rattle.std.proofs.Common.{◌≡◌, fold, bit_and, ap, ◌∙◌, eqb, arith, rules}
use Rattle.chip.proofs.Reading.{ones_in_common}
use Rattle.chip.proofs.slot.is_blank.Goals as goal

pub returns : goal.returns
returns c =
    let e : c.fold.result ≡ fold (λ a b. bit_and a b) 255 c.args.bytes.now = search rules in
    ap (λ n. eqb n 255) e ∙ ones_in_common c.args.bytes.now (λ i. let h = c.type_inv.bytes i in omega arith)
