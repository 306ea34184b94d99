-- With the replies to the lines left, the replies so far are those to all lines.
use Rattle.std.proofs.Common.{◌≡◌, ◌+◌, ◌++◌, drop, vec_items}
use Rattle.controller.specs.Views.{system_in, state_in, Keeps}
use Rattle.rehearsal.specs.Replies.{loaded}
use Rattle.rehearsal.proofs.rehearsal.perform.Given as goal

abbrev pub invariant-loop-at : goal.invariant-loop-at
invariant-loop-at l =
    (vec_items l.replies ++ loaded (system_in l.initial.controller) l.initial.controller.capacity (state_in l.controller) (l.first + l.at + 1) (drop l.at l.rest) ≡ vec_items l.initial.replies ++ loaded (system_in l.initial.controller) l.initial.controller.capacity (state_in l.initial.controller) (l.first + 1) l.rest)
    × Keeps l.initial.controller l.controller
