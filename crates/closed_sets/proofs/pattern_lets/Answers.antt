use Rattle.closed_sets.proofs.Lets.{pattern_lets}
use Rattle.closed_sets.proofs.pattern_lets.Goals as goal

pub returns : goal.returns
returns c = pattern_lets
