use Rattle.std.proofs.Common.{ℕ, Some}
use Rattle.store.specs.State.{standing}
use Rattle.store.specs.Walking.{Begun, Midway}
use Rattle.store.proofs.open.Open.serve.Given as goal

abbrev pub invariant-loop : goal.invariant-loop
invariant-loop g l =
    let was = standing g.C.Chip.means l.initial.chip l.initial.chooser (Some l.initial.self) in
    (n : ℕ) → Begun n l.seat l.initial.count was l.due → Midway n l.seat l.initial.count was l.counter l.count (standing g.C.Chip.means l.chip l.chooser (Some l.self))
