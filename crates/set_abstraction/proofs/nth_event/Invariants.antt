use Rattle.std.proofs.Common.{◌≡◌, ◌-◌}
use Rattle.std.specs.List.{slice_get, filter, range_with_len}
use Rattle.model.specs.Queue.{present}
use Rattle.set_abstraction.proofs.nth_event.Given as goal

abbrev pub invariant-loop-e : goal.invariant-loop-e
invariant-loop-e l = slice_get (filter (present l.c) (range_with_len 0 l.m)) l.n ≡ slice_get (filter (present l.c) (range_with_len l.e (l.m - l.e))) l.left
