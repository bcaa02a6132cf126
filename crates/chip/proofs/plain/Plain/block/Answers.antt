use Rattle.std.proofs.Common.{◌∙◌, sym}
use Rattle.chip.proofs.Placing.{block_within}
use Rattle.chip.proofs.plain.Plain.block.Goals as goal

pub returns : goal.returns
returns c =
    let p = c.args.self.now in
    let whole = sym c.fits.ensures ∙ c.if-not-fits.false in
    block_within p.size 0 p.memory.now whole c.args.block c.block.result c.if-block-self.false c.block.ensures.from c.block.ensures.to
