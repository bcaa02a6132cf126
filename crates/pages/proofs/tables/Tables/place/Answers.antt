use Rattle.std.proofs.Common.{sym, ◌∙◌, arith}
use Rattle.pages.specs.Search.{over}
use Rattle.pages.proofs.Searching.{looked_all}
use Rattle.pages.proofs.tables.Tables.place.Goals as goal

pub returns-clause-found : goal.returns-clause-found
returns-clause-found g c = λ sized.
    let passed = over c.args.self.now.geometry.pages_per_block c.args.skip in
    let inv = c.loop.invariant.2 sized in
    looked_all passed (g.C.Chip.means c.args.chip.now).pages c.pages-end.result c.args.self.now.start (sized.long ∙ sym c.pages-end.ensures) (omega arith)
    (λ j h. inv.1 j (omega arith))
