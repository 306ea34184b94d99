use Rattle.closed_sets.proofs.Lets.{surprise_lets}
use Rattle.closed_sets.proofs.surprise_lets.Goals as goal

pub returns : goal.returns
returns c = surprise_lets
