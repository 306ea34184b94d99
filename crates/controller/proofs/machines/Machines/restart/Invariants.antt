use Rattle.std.proofs.Common.{◌≡◌, ◌<◌, [], ℕ, get_or}
use Rattle.controller.proofs.machines.Machines.restart.Given as goal

abbrev pub invariant-loop-entry : goal.invariant-loop-entry
invariant-loop-entry l = (k : ℕ) → k < l.entry-index → get_or l.entry-items k (0, []) ≡ (0, [])
