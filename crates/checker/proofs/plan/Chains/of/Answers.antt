use Rattle.std.proofs.Common.{◌≡◌, ℕ, Option, None, sym, refl, ◌∙◌, subst, arith}
use Rattle.std.proofs.lemmas.List.{get_or-replicate}
use Rattle.checker.specs.Plan.{FirstFrom}
use Rattle.table.proofs.Parts.{rules_long}
use Rattle.table.specs.Layout.{rules_n}
use Rattle.checker.proofs.plan.Chains.of.Goals as goal

pub loop-r-init : goal.loop-r-init
loop-r-init c =
    let bs = c.args.table.now.view.bytes.now in
    let n = c.rule_count-r.result in
    let is : n ≡ rules_n bs = c.rule_count-r.ensures ∙ rules_long bs in (
      omega (arith, is),
      record {
        links_long = refl;
        heads_long = refl;
        rules = λ j a b. absurd (omega (arith, is));
        next = λ j a b. absurd (omega (arith, is));
        heads = λ x h. subst (λ (o : Option ℕ). FirstFrom bs x n o) (sym (get_or-replicate 256 x None None h)) (λ j a b u e. omega (arith, is));
      },
    )
