use Rattle.std.proofs.Common.{◌≡◌, ℕ, ◌<◌, Bool, true, false, Option, Some, None, sym, ◌∙◌, rules, arith}
use Rattle.std.proofs.lemmas.Bool.{false≢true}
use Rattle.std.specs.Option.{MatchOption, IfSome}
use Rattle.model.specs.Bad.{Takes}
use Rattle.model.specs.System.{rule_of}
use Rattle.table.proofs.Parts.{rules_long}
use Rattle.table.specs.SystemOf.{system_of}
use Rattle.checker.proofs.plan.Plan.has_taker.Goals as goal

-- what is true of a number that was found below n
told : (n : ℕ) (o : Option ℕ) (r : Bool) {Q : ℕ → Type 0} {P : Type 0} → MatchOption o (r ≡ false) Q → IfSome o (λ x. x < n) → ((x : ℕ) → x < n → Q x → r ≡ true → P) → r ≡ true → P
told n None r q l f t = absurd (false≢true (sym q ∙ t))
told n (Some x) r q l f t = f x l q t

pub returns : goal.returns
returns c = told _ _ c.is_some_and.result c.is_some_and.ensures (c.requires.takers _) (λ x l q t none.
    let bs = c.args.table.now.view.bytes.now in
    let is = c.requires.chained.rules x (omega arith) l in
    let takes : Takes (rule_of (system_of bs) x) c.args.machine c.args.local c.args.event = search rules in
    none x (omega (arith, rules_long bs, l)) takes)
