use Rattle.std.proofs.lemmas.Grind.{common_steps}
use Rattle.std.proofs.Common.{arith}
use Rattle.store.proofs.Fresh.{erased_all}
use Rattle.store.proofs.opening.erase_all.Goals as goal

pub returns : goal.returns
returns g c = grind (arith, common_steps, erased_all)
