-- What the check and a loaded controller promise of runs. Assumes nothing.
use Rattle.std.proofs.Common.{◌≡◌, ℕ, List, Ok, Err, Result, length, refl, ap, ◌∙◌}
use Rattle.model.specs.declared.fault.Fault.{Fault}
use Rattle.model.specs.State.{State, start}
use Rattle.model.specs.System.{System}
use Rattle.closed_sets.specs.Records.{Claim}
use Rattle.checker.specs.declared.pass.Pass.{Pass}
use Rattle.checker.specs.Promise.{Checked}
use Rattle.controller.specs.Promises.{Promised, Ran}
use Rattle.controller.specs.Reference.{answers_to, after, made, filled}
use Rattle.controller.specs.Runs.{RunsAnswered}
use Rattle.controller.specs.declared.call.Answer.{Answer}
use Rattle.controller.specs.declared.call.Call.{Call}
use Rattle.controller.proofs.Only.{run_only}
use Rattle.controller.proofs.Exact.{exact_steps}
use Rattle.controller.proofs.Hindered.{first_hindrance}
use Rattle.controller.proofs.Runs.{runs_safe, runs_reach, reference_runs, places_run, loaded_answers, loaded_after}

answered : (S : System) (cap : ℕ) → RunsAnswered S cap
answered S cap = record { some = λ calls. reference_runs S cap calls (start S); only = run_only S cap (start S) }

-- the check, of all runs
pub promised : (table set : List ℕ) (T : Claim) (x : Result Pass Fault) → Checked table set T x → Promised table set T x
promised table set T (Ok p) h = record { checked = h; exactly = h.2; first = tt; alone = h.4; safe = h.3; runs = runs_safe T.system h.3.never; answers = λ cap. answered T.system cap; reached = runs_reach T.system; steps = exact_steps T.system; refusals = λ cap r s. first_hindrance T.system cap s r }
promised table set T (Err f) h = record { checked = h; exactly = h.0; first = h.1; alone = h.2; safe = tt; runs = tt; answers = λ cap. answered T.system cap; reached = runs_reach T.system; steps = exact_steps T.system; refusals = λ cap r s. first_hindrance T.system cap s r }

-- a controller at the start that was asked calls, of its system and capacity by any names
pub ran : {S0 S : System} {cap0 cap : ℕ} {s t : State} {calls : List Call} {places answers : List (Result Answer Fault)} → answers ≡ filled (answers_to S0 cap0 s (made calls places)) places → t ≡ after S0 cap0 s (made calls places) → s ≡ start S0 → S0 ≡ S → cap0 ≡ cap → Ran S cap calls places answers t
ran {S0 = S0} {S = S} {cap0 = cap0} {cap = cap} {s = s} {t = t} {calls = calls} {places = places} {answers = answers} h moves at eS ec =
    let cs = made calls places in
    let answered : answers ≡ filled (answers_to S cap (start S) cs) places = h ∙ ap (λ (a : List (Result Answer Fault)). filled a places) (loaded_answers S0 S cap0 cap s eS ec at cs) in
    let stands : t ≡ after S cap (start S) cs = moves ∙ loaded_after S0 S cap0 cap s eS ec at cs in
    record {
      answered = answered;
      stands = stands;
      related = places_run S cap cs (start S) (length cs) places answers t refl answered stands;
      reached = runs_reach S cap cs;
    }
