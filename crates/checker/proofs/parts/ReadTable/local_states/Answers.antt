use Rattle.std.proofs.Common.{ℕ, Option, unwrap_or, ap, ◌∙◌}
use Rattle.std.proofs.lemmas.Option.{unwrap_or-slice_get}
use Rattle.std.specs.List.{slice_get}
use Rattle.table.specs.SystemOf.{system_of}
use Rattle.checker.proofs.parts.ReadTable.local_states.Goals as goal

pub returns : goal.returns
returns c =
    let xs = (system_of c.args.self.now.view.bytes.now).states in
    c.unwrap_or.ensures ∙ ap (λ (o : Option ℕ). unwrap_or o 0) (c.local_states.ensures ∙ ap (slice_get xs) c.from.ensures) ∙ unwrap_or-slice_get xs c.args.machine 0
