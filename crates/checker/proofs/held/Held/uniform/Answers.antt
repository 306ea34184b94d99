use Rattle.std.proofs.lemmas.List.{take-replicate}
use Rattle.checker.proofs.held.Held.uniform.Goals as goal

pub returns-clause-is : goal.returns-clause-is
returns-clause-is c = take-replicate c.args.machines 6 (0, c.args.code) c.requires
