use Rattle.std.proofs.Common.{◌≡◌, Some, length, slice_get, sym, ap, ◌∙◌, rules}
use Rattle.controller.specs.Promises.{FireAnswered}
use Rattle.controller.specs.Reference.{blocked, next}
use Rattle.controller.specs.declared.call.Call.TheVariants.{Fire}
use Rattle.controller.specs.Views.{system_in, state_in}
use Rattle.controller.proofs.Exact.{refusal_named, next_named, exact_at}
use Rattle.controller.proofs.Hindered.{first_at}
use Rattle.controller.proofs.Short.{short_fired, length_unless}
use Rattle.controller.proofs.held.Controller.fire.Goals as goal

pub invariant_of-self : goal.invariant_of-self
invariant_of-self c =
    let me = c.args.self.now in
    let x = c.in_ok-named.named in
    record {
      held = ap length c.fire.ensures.state ∙ length_unless (blocked me.capacity (state_in me) x) x (state_in me) ∙ me.held;
      small = me.small;
      short = short_fired me.capacity (state_in me) x c.fire.new.self c.fire.ensures.state me.short;
    }

-- what the table says of the rule's number
named : (c : goal.After-map_err) → slice_get (system_in c.args.self.now).rules c.args.rule ≡ Some c.in_ok-named.named
named c = sym c.rule.ensures ∙ c.in_ok-named.ensures.ok_part

answered : (c : goal.After-map_err) → FireAnswered c.args.self.now c.args.rule c.map_err.result
answered c =
    let me = c.args.self.now in
    let is = refusal_named (system_in me) me.capacity (state_in me) c.args.rule c.in_ok-named.named (named c) in search rules

moved : (c : goal.After-map_err) → c.fire.new.self ≡ next (system_in c.args.self.now) c.args.self.now.capacity (state_in c.args.self.now) (Fire c.args.rule)
moved c =
    let me = c.args.self.now in
    next_named (system_in me) me.capacity (state_in me) c.args.rule c.in_ok-named.named (named c) _ c.fire.ensures.state

pub returns-clause-answer : goal.returns-clause-answer
returns-clause-answer c = answered c

pub returns-clause-state : goal.returns-clause-state
returns-clause-state c = moved c

pub returns-clause-first : goal.returns-clause-first
returns-clause-first c =
    let me = c.args.self.now in first_at (system_in me) me.capacity (state_in me) c.args.rule _ (answered c)

pub returns-clause-exact : goal.returns-clause-exact
returns-clause-exact c =
    let me = c.args.self.now in exact_at (system_in me) me.capacity (state_in me) c.args.rule _ _ (answered c) (moved c)
