use Rattle.model.specs.Order.{Nothing}
use Rattle.checker.proofs.Walking.{left, Walked}
use Rattle.checker.specs.Held.{record_in}
use Rattle.checker.specs.Plan.{cell_of}
use Rattle.closed_sets.specs.Judging.{Applies, outcomes_of}
use Rattle.closed_sets.specs.Records.{local_in}
use Rattle.table.specs.Layout.{rules_n}
use Rattle.checker.specs.Case.{claim_at, table_at}
use Rattle.checker.proofs.case.Judgement.machine_inside.Given as goal

abbrev pub invariant-loop-next : goal.invariant-loop-next
invariant-loop-next g l =
    let bs = table_at l.self in
    let T = claim_at g.A.QueueAbstraction l.self in
    Walked (λ j. Nothing (Applies T) (outcomes_of T l.self.k j)) bs (cell_of l.i (local_in (record_in l.self.held) l.i)) l.next

abbrev pub decreases-loop-next : goal.decreases-loop-next
decreases-loop-next g l = left (rules_n (table_at l.self)) l.next
