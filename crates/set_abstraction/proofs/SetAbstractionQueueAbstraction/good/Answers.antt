use Rattle.std.proofs.Common.{ℕ, ◌^◌, ◌<◌, Decides, refl, subst}
use Rattle.std.proofs.lemmas.Bool.Decides.{Decides-like}
use Rattle.abstraction.specs.Meaning.{Valid}
use Rattle.set_abstraction.specs.Codes.{good_set, set_good_below}
use Rattle.set_abstraction.proofs.SetAbstractionQueueAbstraction.good.Goals as goal

pub returns-then-valid : goal.returns-then-valid
returns-then-valid c =
    Decides-like _ (good_set c.args.m c.args.c (subst (Valid c.args.m) c.width.ensures (c.if-valid.ensures.0 refl))) (set_good_below c.args.m c.args.c) (subst (λ (n : ℕ). Decides c.fits.result (c.args.c < 2 ^ n)) c.from.ensures c.fits.ensures)
