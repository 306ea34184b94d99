use Rattle.std.proofs.Common.{◌≡◌, ◌+◌, ◌-◌, ◌++◌, length, take, drop, vec_items, sym, ap, ◌∙◌, arith, append-nil, length-drop}
use Rattle.std.proofs.lemmas.List.{take_all, drop_min, at_drop_all}
use Rattle.table.specs.SystemOf.{system_of}
use Rattle.controller.specs.Hosted.{hosted}
use Rattle.controller.specs.Views.{system_in, state_in}
use Rattle.rehearsal.specs.Replies.{loaded}
use Rattle.rehearsal.proofs.Turning.{loaded_more}
use Rattle.rehearsal.proofs.rehearsal.perform.Goals as goal

pub loop-at-preserved : goal.loop-at-preserved
loop-at-preserved c =
    let k = c.loop-at.invariant.1 in
    let m = c.make.ensures.keeps in
    (loaded_more (system_in c.args.controller.now) (system_in c.loop-at.controller) c.args.controller.now.capacity c.loop-at.controller.capacity (state_in c.loop-at.controller) (state_in c.make.new.controller) _ c.loop-at.at (c.args.first + c.loop-at.at + 1) _ (vec_items c.loop-at.replies) (vec_items c.add.new.replies) _ c.make.result (omega arith) (ap (λ t. hosted (system_of t.bytes.now)) k.table) k.capacity c.loop-at-test.true c.loop-at.invariant.0 c.make.ensures.reply c.make.ensures.state c.in_ok-add.ensures, record { table = m.table ∙ k.table; capacity = m.capacity ∙ k.capacity })
