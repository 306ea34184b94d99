use Rattle.std.proofs.Common.{Some, None}
use Rattle.std.proofs.lemmas.Bool.Decides.{Decides-eqb}
use Rattle.std.proofs.lemmas.Slice.Eq.{strip_prefix_is}
use Rattle.calls.proofs.Parts.{found_after}
use Rattle.calls.proofs.word.after_word.Goals as goal

pub returns-in_err-strip_prefix : goal.returns-in_err-strip_prefix
returns-in_err-strip_prefix g c =
    let other = strip_prefix_is Decides-eqb c.args.line.now c.args.word.now None c.in_err-strip_prefix.ensures.cases in
    rw c.from_residual.ensures (λ x a. other a.rest a.split)

pub returns : goal.returns
returns g c =
    let split = strip_prefix_is Decides-eqb c.args.line.now c.args.word.now (Some c.in_ok-strip_prefix.field-0) c.in_ok-strip_prefix.ensures.cases in
    found_after g.T.Written.writes c.args.line.now c.args.word.now c.in_ok-strip_prefix.field-0.now split c.read.result c.read.ensures
