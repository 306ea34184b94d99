use Rattle.std.proofs.Common.{◌≡◌, vec_items, sym, ap, ◌∙◌, subst}
use Rattle.model.specs.System.{System}
use Rattle.table.specs.Reading.{Reads}
use Rattle.table.specs.SystemOf.{system_of}
use Rattle.table.specs.declared.view.Table.{Table}
use Rattle.controller.specs.Hosted.{hosted}
use Rattle.controller.specs.Views.{system_in, state_in}
use Rattle.rehearsal.specs.Laws.{Replied}
use Rattle.rehearsal.proofs.Answering.{replied}
use Rattle.rehearsal.proofs.Turning.{held_whole}
use Rattle.rehearsal.proofs.rehearsal.reply_to_lines.Goals as goal

-- whatever system the controller holds
by_system : (c : goal.In_ok-perform) (S : System) → system_in c.load-controller.result ≡ S → Replied S c.args.pass.capacity c.args.lines.now (vec_items c.perform.new.replies)
by_system c S system =
    let loads = c.load-controller.ensures in
    replied S c.args.pass.capacity c.args.lines.now (vec_items c.perform.new.replies) (held_whole S (system_in c.load-controller.result) c.args.pass.capacity c.prepare.new.pass.capacity c.load-controller.result.capacity (state_in c.load-controller.result) (vec_items c.new-replies.result) (vec_items c.prepare.new.replies) (vec_items c.perform.new.replies) c.args.lines.now c.in_ok-first.first c.new-replies.ensures.items system loads.capacity loads.state c.in_ok-first.ensures.replies c.in_ok-perform.ensures)

pub returns : goal.returns
returns c =
    let table : c.prepare.new.pass.table ≡ c.args.pass.table = c.prepare.ensures.table in
    record {
      hosted_replied =
          by_system c (hosted (system_of c.args.pass.table.bytes.now)) (ap (λ t. hosted (system_of t.bytes.now)) (c.load-controller.ensures.table ∙ table));
      replied =
          λ reads. by_system c (system_of c.args.pass.table.bytes.now) (c.load-controller.ensures.whole (subst (λ (t : Table). Reads t.bytes.now) (sym table) reads) ∙ ap (λ (t : Table). system_of t.bytes.now) table);
    }
