-- seen    what a store is, as its contracts see it
use Rattle.chip.specs.Meaning.{Meaning}
use Rattle.store.specs.State.{Parts, Standing, standing}

abbrev pub seen : {C H : Type 0} (means : C → Meaning) → Parts C H → Standing means H
seen means s = standing means s.chip s.chooser s.opened
