use Rattle.std.proofs.Common.{refl}
use Rattle.history.proofs.Places.{one_place}
use Rattle.history.proofs.theorems.place_is_one.Goals as goal

pub returns : goal.returns
returns c = record { law = one_place; value = refl }
