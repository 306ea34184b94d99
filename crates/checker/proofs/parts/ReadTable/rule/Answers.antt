use Rattle.std.proofs.Common.{◌≡◌, ℕ, ◌<◌, List, is_some, Some, ap, ◌∙◌, arith}
use Rattle.std.proofs.lemmas.Option.{slice_get-get_or}
use Rattle.std.specs.List.{slice_get}
use Rattle.model.specs.System.{rule_of}
use Rattle.table.proofs.Parts.{rules_long}
use Rattle.table.specs.Layout.{rules_n}
use Rattle.table.specs.SystemOf.{system_of}
use Rattle.checker.proofs.parts.ReadTable.rule.Goals as goal

there : (bs : List ℕ) (r : ℕ) → r < rules_n bs → slice_get (system_of bs).rules r ≡ Some (rule_of (system_of bs) r)
there bs r h = slice_get-get_or (system_of bs).rules r _ (omega (arith, rules_long bs))

pub unwrap-requires : goal.unwrap-requires
unwrap-requires c = ap is_some (c.rule.ensures ∙ there c.args.self.now.view.bytes.now c.args.r c.requires)
