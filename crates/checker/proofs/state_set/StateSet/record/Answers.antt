use Rattle.std.proofs.Common.{◌≡◌, ℕ, ◌+◌, ◌*◌, ◌++◌, map, length, get_or, take, drop, replicate, sym, ap, ◌∙◌, arith}
use lib.ListN.{length-map}
use Rattle.std.proofs.Math.ListN.{get_or-map}
use Rattle.std.proofs.Math.Seq.{take-append_seam}
use Rattle.std.proofs.lemmas.List.{map-append}
use Rattle.std.proofs.lemmas.List.FromFn.{fill_by_all}
use Rattle.checker.proofs.Holding.{blank}
use Rattle.checker.specs.Held.{entry_of}
use Rattle.checker.specs.SetFile.{long_at}
use Rattle.checker.proofs.state_set.StateSet.record.Goals as goal

pub returns-clause-is : goal.returns-clause-is
returns-clause-is c =
    let n = c.args.n in
    let bs = c.args.self.now.bytes.now in
    let es = c.loop-i.entry-items in
    let rest = drop n (replicate 6 blank) in
    let same : length (map entry_of es) ≡ n = length-map es entry_of ∙ c.loop-i.invariant.0 in
    let f : ℕ → ℕ × ℕ = λ o. (get_or bs o 0, long_at bs (o + 1)) in
    ap (take n) (map-append entry_of es rest)
    ∙ ap (λ (z : ℕ). take z (map entry_of es ++ map entry_of rest)) (sym same)
    ∙ take-append_seam (map entry_of es) (map entry_of rest)
    ∙ fill_by_all (λ j. f (16 + 9 * n * c.args.k + 9 * j)) (map entry_of es) n (0, 0) same
    (λ j lt. get_or-map entry_of es j blank ∙ c.loop-i.invariant.1 j (omega arith) ∙ (let at : c.start-start.result + 9 * j ≡ 16 + 9 * n * c.args.k + 9 * j = omega (arith, c.start-start.ensures) in ap f at))
