use Rattle.closed_sets.proofs.Closure.{found_nothing}
use Rattle.closed_sets.proofs.found_nothing.Goals as goal

pub returns : goal.returns
returns c = found_nothing
