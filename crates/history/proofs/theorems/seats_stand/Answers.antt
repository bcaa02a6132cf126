use Rattle.std.proofs.Common.{refl}
use Rattle.history.proofs.Kept.{seats_kept}
use Rattle.history.proofs.theorems.seats_stand.Goals as goal

pub returns : goal.returns
returns c = record { law = seats_kept; value = refl }
