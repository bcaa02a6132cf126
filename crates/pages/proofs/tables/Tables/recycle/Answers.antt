use Rattle.pages.proofs.Recycling.{few_bytes, there, enough, can_empty, can_wipe, recycled}
use Rattle.pages.proofs.tables.Tables.recycle.Goals as goal

pub returns-in_err-done : goal.returns-in_err-done
returns-in_err-done g c = λ α can.
    let m = g.C.Chip.means c.args.chip.now in
    absurd (c.in_err-done.ensures (can_empty m c.args.self.now α can c.args.chooser.now c.choose-block.result c.choose-block.new.self c.choose-block.ensures 512
    (few_bytes m (g.C.Chip.shaped c.args.chip.now))))

pub returns : goal.returns
returns g c = λ α can.
    let m = g.C.Chip.means c.args.chip.now in
    let n = g.C.Chip.means c.empty.new.chip in
    let t = c.args.self.now in
    let u = c.empty.new.self in
    let b = c.choose-block.result in
    let d = c.in_ok-done.done in
    let was = c.args.chooser.now in
    let is = c.choose-block.new.self in
    let inside = there m t α can was b is c.choose-block.ensures in
    let e = c.in_ok-done.ensures (can_empty m t α can was b is c.choose-block.ensures 512 (few_bytes m (g.C.Chip.shaped c.args.chip.now))) in
    let w = c.in_ok-wipe.ensures (can_wipe m t b d.copies d.tries n u e inside can.shape) in
    recycled m t b d.copies d.tries n u e inside can.shape α (enough m t α can was b is c.choose-block.ensures) (g.C.Chip.means c.wipe.new.chip) c.wipe.new.self w

pub returns-in_err-wipe : goal.returns-in_err-wipe
returns-in_err-wipe g c = λ α can.
    let m = g.C.Chip.means c.args.chip.now in
    let t = c.args.self.now in
    let b = c.choose-block.result in
    let d = c.in_ok-done.done in
    let inside = there m t α can c.args.chooser.now b c.choose-block.new.self c.choose-block.ensures in
    let e = c.in_ok-done.ensures (can_empty m t α can c.args.chooser.now b c.choose-block.new.self c.choose-block.ensures 512 (few_bytes m (g.C.Chip.shaped c.args.chip.now))) in
    absurd (c.in_err-wipe.ensures (can_wipe m t b d.copies d.tries (g.C.Chip.means c.empty.new.chip) c.empty.new.self e inside can.shape))
