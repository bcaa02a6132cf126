use Rattle.std.proofs.Common.{length}
use Rattle.pages.proofs.Copying.{fetched_told, named, moved_on}
use Rattle.pages.proofs.tables.Tables.copy_one.Goals as goal

pub returns : goal.returns
returns g c = λ can.
    let m = g.C.Chip.means c.args.chip.now in
    let t = c.args.self.now in
    let room = length c.args.buffer.now in
    let told = fetched_told m c.args.page room c.in-Ok.label c.in-Ok.length c.in-Ok.ensures.value in
    let by = named t c.in-Ok.label c.args.page c.if-not-names.ensures in
    moved_on m (g.C.Chip.means c.fetch.new.self) (g.C.Chip.means c.write.new.chip) t c.write.new.self c.args.block c.args.page room
    c.in-Ok.label c.in-Ok.length c.args.buffer.now c.fetch.new.buffer c.write.result can told c.in-Ok.ensures.same by.0 by.1 c.in-Ok.ensures.buffer c.write.ensures
