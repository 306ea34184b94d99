use Rattle.std.proofs.Common.{◌≡◌, ℕ, ◌<◌, length, get_or, None}
use Rattle.std.specs.Option.{IfSome}
use Rattle.table.specs.Layout.{rules_n}
use Rattle.checker.proofs.plan.Plan.takers_of.Given as goal

abbrev pub invariant-loop-r : goal.invariant-loop-r
invariant-loop-r l = (length l.takers ≡ 2048) × ((x : ℕ) → IfSome (get_or l.takers x None) (λ r. r < rules_n l.table.view.bytes.now))
