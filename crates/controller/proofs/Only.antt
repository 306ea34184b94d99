-- The relation Run lets calls have no other answers than the reference controller's. Assumes nothing.
use Rattle.std.proofs.Common.{◌≡◌, ℕ, ◌<◌, ◌≤◌, Bool, cond, List, ◌∷◌, length, Some, None, Ok, Err, Option, Result, sym, refl, ap, ◌∙◌, subst}
use Rattle.std.proofs.lemmas.Bool.{lt-ltb, le-ltb}
use Rattle.model.specs.declared.fault.Fault.{Fault}
use Rattle.model.specs.declared.fault.Refusal.{Refusal}
use Rattle.model.specs.declared.fault.Refusal.TheVariants.{NoMachine}
use Rattle.model.specs.Order.{FirstFault, Answered}
use Rattle.model.specs.System.{System, machines, rule_of}
use Rattle.model.specs.State.{State, start, local_at, queue_at}
use Rattle.model.proofs.Findings.{not_both, fault_only}
use Rattle.model.proofs.States.{rule_determines}
use Rattle.table.specs.Header.{fault_at}
use Rattle.controller.specs.Exact.{May, Fires}
use Rattle.controller.specs.Hindrances.{Applies, numbers, order}
use Rattle.controller.specs.Reference.{refusal, acted, unless, fired, sight, looked, to_fire, to_look, answer, next, answers_to, after}
use Rattle.controller.specs.Runs.{Sees, Run, done, steps, stays, restarts, sees, lacks}
use Rattle.controller.specs.declared.call.Answer.{Answer}
use Rattle.controller.specs.declared.call.Answer.TheVariants.{Accepted, Seen}
use Rattle.controller.specs.declared.call.Call.{Call}
use Rattle.controller.specs.declared.call.Call.TheVariants.{Fire, Reset, Look}
use Rattle.controller.specs.declared.call.Sight.{Sight}
use Rattle.controller.proofs.Exact.{exact}
use Rattle.controller.proofs.Hindered.{first_hindrance}

module _ (S : System) (cap : ℕ) where
  abbrev done_by : ℕ → State → State
  done_by r s = acted (rule_of S r).action (rule_of S r) s

  -- a step for which there is room is what a fire does
  stepped : (r : ℕ) (s t : State) → May S cap r s t → (o : Option Refusal) → Fires S cap r s (unless o s (done_by r s)) (fired r o) → (Ok Accepted ≡ to_fire (fired r o)) × (t ≡ unless o s (done_by r s))
  stepped r s t may None fires = (refl, rule_determines (rule_of S r) s t (done_by r s) may.makes fires.makes)
  stepped r s t may (Some n) fires = absurd (fires.1 t may)

  -- the first reason is what a fire is refused for
  stayed : (r : ℕ) (s : State) (f : Fault) → FirstFault (Applies S cap s r) (numbers r) order f → (o : Option Refusal) → Answered (Applies S cap s r) (numbers r) order (fired r o) → (Err f ≡ to_fire (fired r o)) × (s ≡ unless o s (done_by r s))
  stayed r s f first None nothing = absurd (not_both (Applies S cap s r) (numbers r) order first.finding nothing first.first)
  stayed r s f first (Some n) other = (ap Err (fault_only (Applies S cap s r) (numbers r) order f (fault_at n r) first other), refl)

  saw : (s : State) (i p : ℕ) (l : Sight) → i < machines S → Sees s i p l → Ok (Seen l) ≡ to_look (looked S s i p)
  saw s i p l lt h =
      let same : l ≡ sight s i p = record_eq in
      subst (λ (b : Bool). Ok (Seen l) ≡ to_look (cond b (Ok (sight s i p)) (Err (fault_at NoMachine i)))) (sym (lt-ltb i (machines S) lt)) (ap (λ (v : Sight). Ok (Seen v)) same)
    where
      record_eq : l ≡ sight s i p
      record_eq = ap (λ (n : ℕ). record { local = n; waiting = l.waiting; event = l.event }) h.local ∙ ap (λ (n : ℕ). record { local = local_at s i; waiting = n; event = l.event }) h.waiting ∙ ap (λ (e : Option ℕ). record { local = local_at s i; waiting = length (queue_at s i); event = e }) h.event

  lacked : (s : State) (i p : ℕ) → machines S ≤ i → Err (fault_at NoMachine i) ≡ to_look (looked S s i p)
  lacked s i p ge = subst (λ (b : Bool). Err (fault_at NoMachine i) ≡ to_look (cond b (Ok (sight s i p)) (Err (fault_at NoMachine i)))) (sym (le-ltb i (machines S) ge)) refl

  abbrev Same : State → List Call → List (Result Answer Fault) → State → Type 0
  Same s cs ws u = (ws ≡ answers_to S cap s cs) × (u ≡ after S cap s cs)

  -- one call more: its answer and the state after it are the reference's
  more : (s t u : State) (c : Call) (cs : List Call) (w : Result Answer Fault) (ws : List (Result Answer Fault)) → w ≡ answer S cap s c → t ≡ next S cap s c → Same t cs ws u → Same s (c ∷ cs) (w ∷ ws) u
  more s t u c cs w ws ew et h = (
    ap (λ (a : Result Answer Fault). a ∷ ws) ew ∙ ap (λ (r : List (Result Answer Fault)). answer S cap s c ∷ r) (h.0 ∙ ap (λ (v : State). answers_to S cap v cs) et),
    h.1 ∙ ap (λ (v : State). after S cap v cs) et,
  )

  pub run_only : (s : State) (cs : List Call) (ws : List (Result Answer Fault)) (u : State) → Run S cap s cs ws u → Same s cs ws u
  run_only s _ _ _ done = (refl, refl)
  run_only s _ _ u (steps {t = t} {r = r} {cs = cs} {ws = ws} may rest) =
      let h = stepped r s t may (refusal S cap s r) (exact S cap s r) in
      more s t u (Fire r) cs (Ok Accepted) ws h.0 h.1 (run_only t cs ws u rest)
  run_only s _ _ u (stays {r = r} {f = f} {cs = cs} {ws = ws} first rest) =
      let h = stayed r s f first (refusal S cap s r) (first_hindrance S cap s r) in
      more s s u (Fire r) cs (Err f) ws h.0 h.1 (run_only s cs ws u rest)
  run_only s _ _ u (restarts {cs = cs} {ws = ws} rest) = more s (start S) u Reset cs _ ws refl refl (run_only (start S) cs ws u rest)
  run_only s _ _ u (sees {i = i} {p = p} {l = l} {cs = cs} {ws = ws} lt h rest) = more s s u (Look i p) cs (Ok (Seen l)) ws (saw s i p l lt h) refl (run_only s cs ws u rest)
  run_only s _ _ u (lacks {i = i} {p = p} {cs = cs} {ws = ws} ge rest) = more s s u (Look i p) cs _ ws (lacked s i p ge) refl (run_only s cs ws u rest)
