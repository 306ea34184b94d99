use Rattle.std.proofs.Common.{ℕ, is_some, Some, None, Decides, Option, refl}
use Rattle.std.proofs.lemmas.Bool.{false≢true}
use Rattle.std.proofs.lemmas.Bool.Decides.{Decides-at}
use Rattle.abstraction.specs.Meaning.{Good}
use Rattle.list_abstraction.specs.List.{list_code}
use Rattle.list_abstraction.specs.Read.{Read}
use Rattle.list_abstraction.specs.Meaning.{coded_good}
use Rattle.list_abstraction.proofs.ListAbstractionQueueAbstraction.good.Goals as goal

told : (m c : ℕ) (o : Option ℕ) → Read m c o → Decides (is_some o) (Good 32 list_code m c)
told m c None f = (λ t. absurd (false≢true t), λ g. absurd (f g))
told m c (Some x) f = (λ t. coded_good m c f.list f.coded, λ g. refl)

pub returns : goal.returns
returns c = Decides-at _ _ c.is_some.ensures (told c.args.m c.args.c c.read.result c.read.ensures)
