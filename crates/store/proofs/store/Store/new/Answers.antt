use Rattle.std.proofs.Common.{refl}
use Rattle.store.specs.Calls.{fresh}
use Rattle.store.proofs.store.Store.new.Goals as goal

pub returns-clause-run : goal.returns-clause-run
returns-clause-run g c = fresh refl
