use Rattle.std.proofs.Common.{◌≡◌, ◌<◌, ◌++◌, [], length, take, drop, replicate, ℕ, sym, ap, ◌∙◌, arith}
use Rattle.std.proofs.Math.Seq.{take-append_seam}
use Rattle.std.proofs.lemmas.List.{ext_get_or, get_or-replicate, length-replicate}
use Rattle.controller.proofs.machines.Machines.restart.Goals as goal

pub returns : goal.returns
returns c =
    let xs = c.self.inside.entries.items in
    let es = c.loop-entry.entry-items in
    let n = length c.args.self.now in
    let same : length es ≡ length xs = c.loop-entry.auto.entry-items ∙ ap length c.as_mut_slice-entry-items.ensures.value in
    let long : length es ≡ n = same ∙ ap length c.self.view_is in
    ap (λ (z : ℕ). take z (es ++ drop (length es) xs)) (sym same)
    ∙ take-append_seam es (drop (length es) xs)
    ∙ ext_get_or (0, []) es (replicate n (0, [])) (long ∙ sym (length-replicate n (0, [])))
    (λ i lt. c.loop-entry.invariant i (omega (arith, lt, c.loop-entry.auto.entry-items, c.loop-entry-test.false)) ∙ sym (let below : i < n = omega (arith, lt, long) in get_or-replicate n i (0, []) (0, []) below))
