use Rattle.std.proofs.Common.{refl}
use Rattle.history.proofs.Joined.{promise_stands}
use Rattle.history.proofs.Reframed.{promise_reaches}
use Rattle.history.proofs.theorems.promise_stands.Goals as goal

pub returns : goal.returns
returns c = record { stands = promise_stands; reaches = promise_reaches; value = refl }
