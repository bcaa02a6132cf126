use Rattle.std.proofs.Common.{◌-◌, ◌*◌}
use Rattle.pages.specs.Recycle.{CanEmpty, EmptiedTo}
use Rattle.pages.proofs.tables.Tables.empty.Given as goal

abbrev pub invariant-loop-page : goal.invariant-loop-page
invariant-loop-page g l =
    CanEmpty (g.C.Chip.means l.initial.chip) l.initial.self l.block 512
    → EmptiedTo (g.C.Chip.means l.initial.chip) l.initial.self l.block (l.page - l.block * l.initial.self.geometry.pages_per_block) l.done.copies l.done.tries (g.C.Chip.means l.chip) l.self
