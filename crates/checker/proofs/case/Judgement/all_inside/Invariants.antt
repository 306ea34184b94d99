use Rattle.std.proofs.Common.{◌≡◌, ℕ, ◌<◌}
use Rattle.model.specs.Order.{Nothing}
use Rattle.model.specs.System.{rule_of}
use Rattle.closed_sets.specs.Judging.{Applies, outcomes_of}
use Rattle.table.specs.Layout.{rules_n}
use Rattle.table.specs.SystemOf.{system_of}
use Rattle.checker.specs.Case.{claim_at, table_at}
use Rattle.checker.proofs.case.Judgement.all_inside.Given as goal

abbrev pub invariant-loop-i : goal.invariant-loop-i
invariant-loop-i g l =
    let bs = table_at l.self in
    let T = claim_at g.A.QueueAbstraction l.self in
    (j : ℕ) → j < l.i → (r : ℕ) → r < rules_n bs → (rule_of (system_of bs) r).machine ≡ j → Nothing (Applies T) (outcomes_of T l.self.k r)
