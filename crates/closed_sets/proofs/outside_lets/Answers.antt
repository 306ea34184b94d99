use Rattle.closed_sets.proofs.Outside.{outside_lets, outside_not}
use Rattle.closed_sets.proofs.outside_lets.Goals as goal

pub returns : goal.returns
returns c = record { lets = outside_lets; only = outside_not }
