use Rattle.std.proofs.Common.{◌<◌, length, take, Ok, ap, ◌∙◌, arith, length-take}
use Rattle.table.specs.SystemOf.{system_of}
use Rattle.table.specs.declared.view.Table.{Table}
use Rattle.controller.specs.Hosted.{hosted}
use Rattle.controller.specs.declared.call.Answer.TheVariants.{Accepted}
use Rattle.controller.proofs.Runs.{state_more, answers_more}
use Rattle.controller.proofs.held.Controller.answer_all.Goals as goal

pub loop-i-preserved : goal.loop-i-preserved
loop-i-preserved c =
    let v = c.loop-i.invariant in
    let a = c.answer.ensures in
    let made = take c.min.result c.args.calls.now in
    let eS = ap (λ (t : Table). hosted (system_of t.bytes.now)) v.0.table in
    let long = length-take c.min.result c.args.calls.now in
    let lc : c.loop-i.i < length made = c.loop-i-test.true in
    let la : c.loop-i.i < length c.args.answers.now = omega (arith, c.min.ensures) in (
      record { table = a.keeps.table ∙ v.0.table; capacity = a.keeps.capacity ∙ v.0.capacity },
      state_more _ _ _ _ _ _ _ _ _ _ _ eS v.0.capacity lc la v.1 v.2 _ a.state,
      answers_more _ _ _ _ _ _ _ _ _ _ _ eS v.0.capacity lc la v.1 v.2 (Ok Accepted) _ a.answer,
    )
