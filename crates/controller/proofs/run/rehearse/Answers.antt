use Rattle.std.proofs.Common.{ℕ, take, sym, ap, ◌∙◌, subst, arith}
use Rattle.model.specs.State.{start}
use Rattle.table.specs.Reading.{Reads}
use Rattle.table.specs.SystemOf.{system_of}
use Rattle.table.specs.declared.view.Table.{Table}
use Rattle.controller.specs.Reference.{made}
use Rattle.controller.specs.Runs.{Run}
use Rattle.controller.specs.Views.{state_in}
use Rattle.controller.proofs.Promising.{ran}
use Rattle.controller.proofs.Runs.{run_safe}
use Rattle.controller.proofs.run.rehearse.Goals as goal

pub returns : goal.returns
returns g c =
    let p = c.in_ok-pass.ensures.checked in
    let h = c.in_ok-set_capacity.ensures in
    let l = c.load-controller.ensures in
    let a = c.answer_all.ensures in
    let S = system_of c.args.table.now in
    let cap = c.args.capacity in
    let cs = made c.args.calls.now c.args.answers.now in
    let bytes = ap (λ (t : Table). t.bytes.now) h.table ∙ p.0 in
    let r = ran {S = S} {cap = cap} a.answers a.state l.state (l.whole (subst Reads (sym bytes) p.2.reads) ∙ ap system_of bytes) (l.granted (omega (arith, h.set.1, h.set.2)) ∙ h.set.2) in
    record {
      passes = p.2;
      nothing = p.4;
      some = h.set.0;
      few = h.set.1;
      count = a.count;
      answered = r.answered;
      related = (state_in c.answer_all.new.self, subst (λ (n : ℕ). Run S cap (start S) cs (take n c.answer_all.new.answers) (state_in c.answer_all.new.self)) (sym a.count) r.related);
      safe = run_safe S cap p.3.never cs;
    }
