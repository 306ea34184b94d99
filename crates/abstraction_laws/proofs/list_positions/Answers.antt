use Rattle.abstraction_laws.proofs.Positions.{list_positions}
use Rattle.abstraction_laws.proofs.list_positions.Goals as goal

pub returns : goal.returns
returns c = list_positions
