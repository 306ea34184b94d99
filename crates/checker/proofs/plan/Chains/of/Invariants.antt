use Rattle.std.proofs.Common.{◌≤◌}
use Rattle.table.specs.Layout.{rules_n}
use Rattle.checker.specs.Plan.{Chained}
use Rattle.checker.proofs.plan.Chains.of.Given as goal

abbrev pub invariant-loop-r : goal.invariant-loop-r
invariant-loop-r l = (l.r ≤ rules_n l.table.view.bytes.now) × Chained l.table.view.bytes.now l.r l.chains
