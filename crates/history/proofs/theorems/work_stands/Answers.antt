use Rattle.std.proofs.Common.{refl}
use Rattle.history.proofs.Laws.{work_keeps, work_counts, live_erase_breaks, choice_yields, write_costs, recycle_keeps, recycle_right}
use Rattle.history.proofs.theorems.work_stands.Goals as goal

pub returns : goal.returns
returns c =
    record { keeps = work_keeps; counts = work_counts; breaks = live_erase_breaks; yields = choice_yields; recycles = recycle_keeps; right = recycle_right; costs = write_costs; value = refl }
