use Rattle.checker.proofs.Holding.{held_set}
use Rattle.checker.proofs.held.Held.with.Goals as goal

pub returns-clause-is : goal.returns-clause-is
returns-clause-is c = held_set c.args.self.now.machines c.args.self.now.entries c.args.i c.args.entry c.requires
