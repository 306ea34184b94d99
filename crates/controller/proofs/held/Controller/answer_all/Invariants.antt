use Rattle.std.proofs.Common.{◌≡◌, ◌++◌, take, drop}
use Rattle.controller.specs.Reference.{answers_to, after}
use Rattle.controller.specs.Views.{system_in, state_in, Keeps}
use Rattle.controller.proofs.held.Controller.answer_all.Given as goal

abbrev pub invariant-loop-i : goal.invariant-loop-i
invariant-loop-i l =
    Keeps l.initial.self l.self
    × (state_in l.self ≡ after (system_in l.initial.self) l.initial.self.capacity (state_in l.initial.self) (take l.i l.made))
    × (l.answers ≡ answers_to (system_in l.initial.self) l.initial.self.capacity (state_in l.initial.self) (take l.i l.made) ++ drop l.i l.initial.answers)
