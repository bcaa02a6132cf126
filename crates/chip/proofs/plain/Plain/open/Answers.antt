use Rattle.std.proofs.Common.{◌≤◌, sym, ap, ◌∙◌, arith}
use Rattle.chip.specs.Slot.{all_ones}
use Rattle.chip.proofs.Placing.{within, asks_nothing}
use Rattle.chip.proofs.plain.Plain.open.Goals as goal

pub returns : goal.returns
returns c =
    let p = c.args.self.now in
    let s = c.in_ok-slot.ensures in
    let wide = c.from.ensures in
    let test = c.if-long-from.false in
    let short : c.args.long ≤ p.size.page_size = omega arith in
    let free = ap all_ones (sym s.bytes) ∙ sym c.if-not-is_free.ensures in (
      asks_nothing p.size 0 p.memory.now s.whole c.args.page c.args.long s.there free short,
      within p.size 0 p.memory.now s.whole c.args.page c.slot-2.result s.there c.slot-2.ensures.from c.slot-2.ensures.to,
      short,
    )
