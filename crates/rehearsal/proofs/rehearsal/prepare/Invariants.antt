-- With the replies to the lines left, the replies so far are those to all lines.
use Rattle.std.proofs.Common.{◌≡◌, ◌+◌, ◌++◌, drop, vec_items}
use Rattle.model.specs.System.{System}
use Rattle.rehearsal.specs.Replies.{held}
use Rattle.rehearsal.proofs.rehearsal.prepare.Given as goal

abbrev pub invariant-loop-at : goal.invariant-loop-at
invariant-loop-at l =
    ((S : System) → vec_items l.replies ++ held S l.pass.capacity (l.at + 1) (drop l.at l.lines) ≡ vec_items l.initial.replies ++ held S l.initial.pass.capacity 1 l.lines)
    × (l.pass.table ≡ l.initial.pass.table)
