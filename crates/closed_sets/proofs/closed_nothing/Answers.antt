use Rattle.closed_sets.proofs.Closure.{closed_nothing}
use Rattle.closed_sets.proofs.closed_nothing.Goals as goal

pub returns : goal.returns
returns c = closed_nothing
