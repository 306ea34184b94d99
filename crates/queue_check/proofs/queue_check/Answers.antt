use Rattle.std.proofs.Common.{◌≡◌, ℕ, Result, Ok, Err, MatchResult, rules}
use Rattle.std.proofs.lemmas.Result.{IfErr-at_err, MatchResult-weaker}
use Rattle.model.specs.declared.fault.Fault.{Fault}
use Rattle.checker.specs.declared.pass.Pass.{Pass}
use Rattle.checker.specs.Promise.{Checked}
use Rattle.queue_check.specs.Layers.{named, claim_under}
use Rattle.queue_check.specs.Packed.{packed, verdict, Fits}
use Rattle.queue_check.proofs.Small.{checked_fits}
use Rattle.queue_check.proofs.queue_check.Goals as goal

is_verdict : (r : Result Pass Fault) (v : ℕ) → MatchResult r (λ _. v ≡ 0) (λ f. v ≡ packed f) → v ≡ verdict r
is_verdict (Ok p) v h = h
is_verdict (Err f) v h = h

pub map_or_else-requires-clause-default_callable :
    goal.map_or_else-requires-clause-default_callable
map_or_else-requires-clause-default_callable c =
    let t = c.args.table.now in
    let s = c.args.set.now in
    let checked : Checked t s (claim_under t s (named s)) c.check_files.result = search rules in
    λ f e. IfErr-at_err Fits e (checked_fits t s (λ i. (c.type_inv.table i).fits) (λ i. (c.type_inv.set i).fits) _ checked)

pub returns : goal.returns
returns c =
    let t = c.args.table.now in
    let s = c.args.set.now in
    let checked : Checked t s (claim_under t s (named s)) c.check_files.result = search rules in
    record {
      result = c.check_files.result;
      checked = checked;
      is = is_verdict c.check_files.result _ (MatchResult-weaker c.check_files.result c.map_or_else.ensures (λ p h. search rules) (λ f h. search rules));
      fits = checked_fits t s (λ i. (c.type_inv.table i).fits) (λ i. (c.type_inv.set i).fits) _ checked;
    }
