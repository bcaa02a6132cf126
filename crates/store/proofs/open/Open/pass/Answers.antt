use Rattle.std.proofs.Common.{◌*◌, Some, refl, arith}
use Rattle.store.specs.declared.ticked.Ticked.{Ticked}
use Rattle.store.specs.State.{standing}
use Rattle.store.proofs.Serving.{walked_can, walked_more}
use Rattle.store.proofs.Passing.{passed_all}
use Rattle.store.proofs.open.Open.pass.Goals as goal

pub returns-in_err-count : goal.returns-in_err-count
returns-in_err-count g c = λ sound.
    let s = standing g.C.Chip.means c.args.chip.now c.args.chooser.now (Some c.args.self.now) in
    let t = standing g.C.Chip.means c.loop-seat.chip c.loop-seat.chooser (Some c.loop-seat.self) in
    let zero : Ticked = record { runs = 0; recycles = 0; copies = 0; tries = 0 } in
    absurd (c.in_err-count.ensures (1024 * c.loop-seat.seat) (walked_can zero s c.loop-seat.seat c.loop-seat.count t (c.loop-seat.invariant sound) (omega arith)))

pub loop-seat-preserved : goal.loop-seat-preserved
loop-seat-preserved g c = λ sound.
    let s = standing g.C.Chip.means c.args.chip.now c.args.chooser.now (Some c.args.self.now) in
    let t = standing g.C.Chip.means c.loop-seat.chip c.loop-seat.chooser (Some c.loop-seat.self) in
    let u = standing g.C.Chip.means c.serve.new.chip c.serve.new.chooser (Some c.serve.new.self) in
    let zero : Ticked = record { runs = 0; recycles = 0; copies = 0; tries = 0 } in
    let y = c.loop-seat.invariant sound in
    walked_more zero s c.loop-seat.seat c.loop-seat.count t y (omega arith) c.in_ok-count.count u
    (c.in_ok-count.ensures (1024 * c.loop-seat.seat) (walked_can zero s c.loop-seat.seat c.loop-seat.count t y (omega arith)))

pub returns : goal.returns
returns g c = λ sound.
    let s = standing g.C.Chip.means c.args.chip.now c.args.chooser.now (Some c.args.self.now) in
    let t = standing g.C.Chip.means c.loop-seat.chip c.loop-seat.chooser (Some c.loop-seat.self) in
    passed_all s refl c.loop-seat.seat c.loop-seat.count t (omega arith) (c.loop-seat.invariant sound)
