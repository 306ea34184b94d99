use Rattle.std.proofs.Common.{ℕ, sym, ap, ◌∙◌, arith}
use Rattle.checker.proofs.Deciding.{entry_local, not_from, rule_at}
use Rattle.table.proofs.Parts.{machines_long}
use Rattle.checker.specs.Case.{table_at}
use Rattle.checker.proofs.case.Judgement.check_rule.Goals as goal

pub returns-then-own-rule : goal.returns-then-own-rule
returns-then-own-rule g c =
    let at = rule_at c.args.self.now c.requires.below c.rule-rule.ensures in
    λ o l. not_from (g.met.A.QueueAbstraction.meaning _) c.requires.sound at (λ e. c.if-own-rule.true (entry_local c.requires.sound _ c.entry-own.ensures ∙ e)) o

pub invariant_of-step : goal.invariant_of-step
invariant_of-step g c =
    let bs = table_at c.args.self.now in
    let at = rule_at c.args.self.now c.requires.below c.rule-rule.ensures in
    record {
      enabled = record {
        below = c.requires.below;
        is = at.is;
        machine = omega (arith, at.fits.machine, machines_long bs);
        from = sym (ap (λ (z : ℕ × ℕ). z.0) c.entry-own.ensures) ∙ c.if-own-rule.false;
      };
    }
