use Rattle.std.proofs.Common.{ℕ, refl, rules, arith}
use Rattle.std.proofs.lemmas.Iterator.{cases_from_all, serves_from_Range, YieldsList-from_range}
use borrow.Author.Tests.{tests}
use Rattle.model.specs.Bad.{Takes}
use Rattle.model.specs.System.{rule_of}
use Rattle.checker.proofs.Read.{each_below, decided}
use Rattle.table.proofs.Parts.{rules_long}
use Rattle.table.specs.SystemOf.{system_of}
use Rattle.checker.proofs.parts.ReadTable.no_take.Goals as goal

pub all-requires-clause-callable : goal.all-requires-clause-callable
all-requires-clause-callable c = serves_from_Range (λ x q k. search rules) (λ x a b. omega (arith, rules_long c.args.self.now.view.bytes.now, c.rule_count.ensures))

pub returns : goal.returns
returns c =
    let n = c.rule_count.result in
    let Taken : ℕ → Type 0 = λ r. Takes (rule_of (system_of c.args.self.now.view.bytes.now) r) c.args.machine c.args.local c.args.event in
    let P : ℕ → Type 0 = λ r. Taken r → ⊥ in
    decided c.all.result
    (each_below n P c.all.result (cases_from_all _ _ _ P (λ r. P r → ⊥) c.all.ensures.ran (YieldsList-from_range 0 n n refl (omega arith)) (λ x q k. search (rules, tests)) (λ x q k. search (rules, tests))))
    (λ all r l. all r (omega (arith, c.rule_count.ensures)))
    (λ other none. other.2 (none other.0 (omega (arith, other.1, c.rule_count.ensures))))
