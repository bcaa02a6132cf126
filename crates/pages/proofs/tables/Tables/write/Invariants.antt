use Rattle.std.proofs.Common.{◌≡◌, ◌+◌, length}
use Rattle.pages.specs.Write.{CanWrite}
use Rattle.pages.proofs.Writing.{Trying}
use Rattle.pages.proofs.tables.Tables.write.Given as goal

-- every failed try took one from the allowance
abbrev pub invariant-loop-page : goal.invariant-loop-page
invariant-loop-page g l =
    ((g.C.Chip.means l.chip).allowance + l.tries ≡ (g.C.Chip.means l.initial.chip).allowance)
    × (CanWrite (g.C.Chip.means l.initial.chip) l.initial.self l.skip l.label (length l.bytes)
    → Trying (g.C.Chip.means l.initial.chip) l.initial.self l.skip l.label l.bytes l.tries (g.C.Chip.means l.chip) l.self)

abbrev pub decreases-loop-page : goal.decreases-loop-page
decreases-loop-page g l = (g.C.Chip.means l.chip).allowance
