use Rattle.closed_sets.proofs.Closure.{closed_holds}
use Rattle.closed_sets.proofs.closed_holds.Goals as goal

pub returns : goal.returns
returns c = closed_holds
