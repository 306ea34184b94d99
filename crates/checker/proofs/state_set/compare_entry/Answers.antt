use Rattle.std.proofs.Common.{◌≡◌, ◌+◌, ◌^◌, ◌<◌, ℕ, nat_cmp, sym, ap, ◌∙◌, arith}
use Rattle.checker.proofs.Ordered.{swapped, codes_stand}
use Rattle.checker.specs.SetFile.{long_at}
use Rattle.checker.proofs.state_set.compare_entry.Goals as goal

pub returns-in-Equal : goal.returns-in-Equal
unfolding swapped
returns-in-Equal c =
    let bs = c.args.set.now in
    let o = c.args.at in
    let e = c.args.entry in
    let small : e.code < 2 ^ 64 = omega arith in
    let there : c.swap_bytes.result ≡ swapped (long_at bs (o + 1)) = omega (arith, c.swap_bytes.ensures, c.long.ensures) in
    let here : c.swap_bytes-in-Equal.result ≡ swapped e.code = omega (arith, c.swap_bytes-in-Equal.ensures) in
    codes_stand bs (λ t. (c.type_inv.set t).fits) o e.local e.code small c.cmp-in-Equal.result
    (sym c.cmp.ensures ∙ c.in-Equal.is)
    (c.cmp-in-Equal.ensures ∙ ap (λ (x : ℕ). nat_cmp x c.swap_bytes-in-Equal.result) there ∙ ap (nat_cmp (swapped (long_at bs (o + 1)))) here)
