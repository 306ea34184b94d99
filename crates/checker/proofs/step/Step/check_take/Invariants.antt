-- The outcomes whose removals were taken stay inside; those left are the others.
use Rattle.std.proofs.Common.{◌≡◌, ℕ, ◌<◌, ◌≤◌, length, drop}
use Rattle.std.specs.Iterator.Adapters.{enumerate_source, enumerate_count}
use Rattle.closed_sets.specs.Judging.{Applies, outside}
use Rattle.closed_sets.specs.Records.{code_in, record_of}
use Rattle.table.specs.Layout.{events_n}
use Rattle.checker.specs.Case.{claim_at, table_at}
use Rattle.checker.proofs.step.Step.check_take.Given as goal

abbrev pub invariant-loop-c : goal.invariant-loop-c
invariant-loop-c g l =
    let T = claim_at g.A.QueueAbstraction l.self.judgement.now in
    let xs = T.removals (events_n (table_at l.self.judgement.now)) (code_in (record_of T l.self.judgement.now.k) l.self.rule.machine) in
    let n = enumerate_count l.c-iterator in
    (goal.iterator-loop-c g).can_next l.c-iterator
    × (goal.iterator-loop-c g).is_finite l.c-iterator
    × (enumerate_source l.c-iterator ≡ drop n xs)
    × (n ≤ length xs)
    × ((j : ℕ) → j < n → Applies T (outside l.self.judgement.now.k l.self.r j) → ⊥)
