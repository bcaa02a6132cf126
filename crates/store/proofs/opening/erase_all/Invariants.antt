use Rattle.std.proofs.Common.{◌≡◌}
use Rattle.store.proofs.Fresh.{ErasedTo}
use Rattle.store.proofs.opening.erase_all.Given as goal

abbrev pub invariant-loop-block : goal.invariant-loop-block
invariant-loop-block g l = l.blocks ≡ (g.C.Chip.means l.initial.chip).blocks → ErasedTo (g.C.Chip.means l.initial.chip) (g.C.Chip.means l.chip) l.block
