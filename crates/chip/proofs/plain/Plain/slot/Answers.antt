use Rattle.std.proofs.Common.{◌*◌, ◌<◌, ◌∙◌, sym, arith}
use Rattle.chip.proofs.Placing.{within}
use Rattle.chip.proofs.plain.Plain.slot.Goals as goal

pub slice_bounds-result-end : goal.slice_bounds-result-end
slice_bounds-result-end c =
    let p = c.args.self.now in
    let whole = sym c.fits.ensures ∙ c.if-not-fits.false in
    let e = c.pages.ensures in
    let test = c.if-from-pages.false in
    let here : c.args.page < p.size.blocks * p.size.pages_per_block = omega arith in
    (within p.size 0 p.memory.now whole c.args.page c.slot-at.result here c.slot-at.ensures.from c.slot-at.ensures.to).ends
