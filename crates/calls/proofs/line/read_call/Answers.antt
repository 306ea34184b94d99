use borrow.Author.Tests.{both_ways}
use Rattle.std.proofs.Common.{sym, ◌∙◌}
use Rattle.std.proofs.lemmas.Slice.Eq.{slice_eq-Decides}
use Rattle.calls.proofs.Sayings.{asks_nothing}
use Rattle.calls.proofs.line.read_call.Goals as goal
use Rattle.std.proofs.lemmas.Bool.Decides.{Decides-eqb}

pub returns-in_err-machine : goal.returns-in_err-machine
returns-in_err-machine c =
    rw c.from_residual.ensures (asks_nothing c.args.line.now (λ e. both_ways c.eq.result c.if-eq.false ((slice_eq-Decides Decides-eqb _ _ _ c.eq.ensures).1 (e ∙ sym c.as_slice.ensures))) c.in_default.ensures c.in_err-machine.ensures)
