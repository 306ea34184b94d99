use Rattle.std.proofs.Common.{◌≡◌, ℕ, zero, suc, ◌<◌, List, [], ◌∷◌, length, get_or, set, replicate, Option, None, Some, sym, refl, ◌∙◌, subst, arith, length-set}
use Rattle.std.specs.Option.{IfSome}
use Rattle.table.proofs.Parts.{rules_long}
use Rattle.table.specs.Layout.{rules_n}
use Rattle.checker.proofs.plan.Plan.takers_of.Goals.{in-Take, in_default}
use Rattle.checker.proofs.plan.Plan.takers_of.Goals as goal

abbrev Below : ℕ → List (Option ℕ) → Type 0
Below n ts = (x : ℕ) → IfSome (get_or ts x None) (λ r. r < n)

below_none : (n k : ℕ) → Below n (replicate k None)
below_none n zero x = tt
below_none n (suc k) zero = tt
below_none n (suc k) (suc x) = below_none n k x

below_set : (n : ℕ) (ts : List (Option ℕ)) (i r : ℕ) → r < n → Below n ts → Below n (set ts i (Some r))
below_set n [] i r lt h x = h x
below_set n (t ∷ ts) zero r lt h zero = lt
below_set n (t ∷ ts) zero r lt h (suc x) = h (suc x)
below_set n (t ∷ ts) (suc i) r lt h zero = h zero
below_set n (t ∷ ts) (suc i) r lt h (suc x) = below_set n ts i r lt (λ y. h (suc y)) x

pub loop-r-init : goal.loop-r-init
loop-r-init c = (refl, below_none (rules_n c.args.table.now.view.bytes.now) 2048)

pub rule-taker-requires : goal.rule-taker-requires
rule-taker-requires c = omega (arith, rules_long c.args.table.now.view.bytes.now)

pub overflow_cast-takers : goal.overflow_cast-takers
overflow_cast-takers c = omega (arith, rules_long c.args.table.now.view.bytes.now, c.args.table.now.ready.rules)

pub loop-r-preserved : goal.loop-r-preserved
loop-r-preserved c =
    let n = rules_n c.args.table.now.view.bytes.now in
    let i = c.loop-r.invariant in
    let lt : c.loop-r.r < n = omega (arith, rules_long c.args.table.now.view.bytes.now) in
    elim c.match-taker.branch [
      | in-Take w ↦ subst (λ (ts : List (Option ℕ)). (length ts ≡ 2048) × Below n ts) (sym w.takers-is) (length-set c.loop-r.takers w.taker_cell.result _ ∙ i.0, below_set n c.loop-r.takers w.taker_cell.result c.loop-r.r lt i.1)
      | in_default w ↦ subst (λ (ts : List (Option ℕ)). (length ts ≡ 2048) × Below n ts) (sym w.takers-is) i
    ]
