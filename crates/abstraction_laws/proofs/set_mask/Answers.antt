use Rattle.set_abstraction.specs.Codes.{code_waits, waits_code}
use Rattle.abstraction_laws.proofs.set_mask.Goals as goal

pub returns : goal.returns
returns c m Q e = (code_waits m e Q, waits_code m e Q)
