use Rattle.std.proofs.Common.{Some}
use Rattle.store.specs.State.{standing, OpenSound}
use Rattle.store.specs.Walking.{Walked}
use Rattle.store.proofs.open.Open.pass.Given as goal

abbrev pub invariant-loop-seat : goal.invariant-loop-seat
invariant-loop-seat g l =
    let was = standing g.C.Chip.means l.initial.chip l.initial.chooser (Some l.initial.self) in
    OpenSound was → Walked (record { runs = 0; recycles = 0; copies = 0; tries = 0 }) was l.seat l.count (standing g.C.Chip.means l.chip l.chooser (Some l.self))
