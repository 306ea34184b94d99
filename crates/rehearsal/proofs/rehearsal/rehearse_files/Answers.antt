use Rattle.std.proofs.Common.{ℕ, List, refl, subst, vec_items}
use Rattle.rehearsal.specs.Laws.{Rehearsed}
use Rattle.rehearsal.proofs.Running.{under_pass}
use Rattle.rehearsal.proofs.rehearsal.rehearse_files.Goals as goal

pub returns-in_ok-reply_to_text-in-Ok : goal.returns-in_ok-reply_to_text-in-Ok
returns-in_ok-reply_to_text-in-Ok c =
    let p = c.in-Ok.ensures in
    let text = c.args.text.now in
    let replies = vec_items c.in_ok-reply_to_text-in-Ok.field-0 in
    under_pass c.args.table.now c.args.set.now text _ replies refl p.2 p.3 p.4 (subst (λ (n : ℕ). Rehearsed c.args.table.now n text replies) p.1 (subst (λ (bs : List ℕ). Rehearsed bs c.in-Ok.pass.capacity text replies) p.0 c.in_ok-reply_to_text-in-Ok.ensures))
