use Rattle.abstraction_laws.proofs.Prefix.{layers_keep_prefix}
use Rattle.abstraction_laws.proofs.layers_keep_prefix.Goals as goal

pub returns : goal.returns
returns c = layers_keep_prefix
