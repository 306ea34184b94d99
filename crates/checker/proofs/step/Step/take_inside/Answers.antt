use Rattle.std.proofs.Common.{ℕ, Some, Option, refl, ap, ◌∙◌}
use Rattle.checker.proofs.Deciding.{judged_inside}
use Rattle.checker.proofs.step.Step.take_inside.Goals as goal

pub returns : goal.returns
returns g c =
    judged_inside c.args.self.now g.A.QueueAbstraction (g.met.A.QueueAbstraction.meaning _) c.requires.sound c.requires.action _ c.inside.result
    (c.args.removal.1, c.requires.removal ∙ ap {B = Option (ℕ × ℕ)} (λ (z : ℕ). Some (z, c.args.removal.1)) c.if-taken-event.false, refl)
    refl c.moved.ensures.is c.inside.ensures
