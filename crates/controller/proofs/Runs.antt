-- Whole runs of the reference controller. Assumes nothing.
use Rattle.std.proofs.Common.{◌≡◌, ℕ, suc, ◌+◌, ◌<◌, Bool, cond, List, [], ◌∷◌, ◌++◌, length, get_or, take, drop, set, Some, None, Ok, Err, Option, Result, sym, refl, ap, ◌∙◌, subst, inl, inr, append_assoc, arith, length-take-le}
use lib.Seq.{take-append_seam}
use Rattle.std.specs.List.{AllByRecursion}
use Rattle.std.proofs.lemmas.List.{take_more, drop_more, set_at}
use Rattle.std.proofs.lemmas.List.Elements.{All-weaker, All-from_recursion, recursion_from_All}
use Rattle.std.proofs.lemmas.Bool.{cases_lt, lt-ltb, le-ltb}
use Rattle.model.specs.declared.fault.Fault.{Fault}
use Rattle.model.specs.declared.fault.Refusal.{Refusal}
use Rattle.model.specs.declared.fault.Refusal.TheVariants.{NoMachine}
use Rattle.table.specs.Header.{fault_at}
use Rattle.model.specs.Order.{Answered}
use Rattle.model.specs.System.{System, machines, rule_of}
use Rattle.model.specs.State.{State, start}
use Rattle.model.specs.Steps.{Reaches, begin, onward}
use Rattle.model.specs.Bad.{Bad, GoesWrong}
use Rattle.controller.specs.Exact.{Fires}
use Rattle.controller.specs.Hindrances.{Applies, numbers, order}
use Rattle.controller.specs.Reference.{refusal, acted, unless, fired, sight, looked, to_fire, to_look, answer, next, answers_to, after, states, filled}
use Rattle.controller.specs.Runs.{Run, done, steps, stays, restarts, sees, lacks, RunReaches, RunSafe, RunsSafe}
use Rattle.controller.specs.declared.call.Answer.{Answer}
use Rattle.controller.specs.declared.call.Call.{Call}
use Rattle.controller.specs.declared.call.Call.TheVariants.{Fire, Reset, Look}
use Rattle.controller.proofs.Exact.{exact}
use Rattle.controller.proofs.Hindered.{first_hindrance}

module _ (S : System) (cap : ℕ) where
  -- a call leads from a state that is reached to one that is
  reach_next : (s : State) → Reaches S s → (c : Call) → Reaches S (next S cap s c)
  reach_next s p (Fire r) = go (refusal S cap s r) (exact S cap s r)
    where
      go : (o : Option Refusal) → Fires S cap r s (unless o s (acted (rule_of S r).action (rule_of S r) s)) (fired r o) → Reaches S (unless o s (acted (rule_of S r).action (rule_of S r) s))
      go None may = onward p (r, may.rule, may.makes)
      go (Some n) same = p
  reach_next s p Reset = begin
  reach_next s p (Look i k) = p

  reach_states : (cs : List Call) (s : State) → Reaches S s → AllByRecursion (Reaches S) (states S cap s cs)
  reach_states [] s p = (p, tt)
  reach_states (c ∷ cs) s p = (p, reach_states cs (next S cap s c) (reach_next s p c))

  pub runs_reach : (cs : List Call) → RunReaches S cap cs
  runs_reach cs = reach_states cs (start S) begin

  pub run_safe : (GoesWrong S → ⊥) → (cs : List Call) → RunSafe S cap cs
  run_safe never cs =
      let ts = states S cap (start S) cs in
      recursion_from_All (λ (s : State). Bad S s → ⊥) ts (All-weaker (Reaches S) (λ (s : State). Bad S s → ⊥) (λ s r bad. never (s, r, bad)) ts (All-from_recursion (Reaches S) ts (runs_reach cs)))

  -- one call more
  after_push : (cs : List Call) (s : State) (c : Call) → after S cap s (cs ++ (c ∷ [])) ≡ next S cap (after S cap s cs) c
  after_push [] s c = refl
  after_push (b ∷ cs) s c = after_push cs (next S cap s b) c

  answers_push : (cs : List Call) (s : State) (c : Call) → answers_to S cap s (cs ++ (c ∷ [])) ≡ answers_to S cap s cs ++ (answer S cap (after S cap s cs) c ∷ [])
  answers_push [] s c = refl
  answers_push (b ∷ cs) s c = ap (λ (r : List (Result Answer Fault)). answer S cap s b ∷ r) (answers_push cs (next S cap s b) c)

  length_answers : (cs : List Call) (s : State) → length (answers_to S cap s cs) ≡ length cs
  length_answers [] s = refl
  length_answers (c ∷ cs) s = ap suc (length_answers cs (next S cap s c))

-- the reference controller's answers and states are related to the calls by Run
module _ (S : System) (cap : ℕ) where
  fire_runs : (cs : List Call) → ((t : State) → Run S cap t cs (answers_to S cap t cs) (after S cap t cs)) → (s : State) (r : ℕ) (o : Option Refusal) → Fires S cap r s (unless o s (acted (rule_of S r).action (rule_of S r) s)) (fired r o) → Answered (Applies S cap s r) (numbers r) order (fired r o) → Run S cap s (Fire r ∷ cs) (to_fire (fired r o) ∷ answers_to S cap (unless o s (acted (rule_of S r).action (rule_of S r) s)) cs) (after S cap (unless o s (acted (rule_of S r).action (rule_of S r) s)) cs)
  fire_runs cs rest s r None may nothing = steps may (rest _)
  fire_runs cs rest s r (Some n) still first = stays first (rest s)

  look_runs : (cs : List Call) → ((t : State) → Run S cap t cs (answers_to S cap t cs) (after S cap t cs)) → (s : State) (i p : ℕ) → Run S cap s (Look i p ∷ cs) (to_look (looked S s i p) ∷ answers_to S cap s cs) (after S cap s cs)
  look_runs cs rest s i p = elim (cases_lt i (machines S)) [
    | inl lt ↦ subst (λ (b : Bool). Run S cap s (Look i p ∷ cs) (to_look (cond b (Ok (sight s i p)) (Err (fault_at NoMachine i))) ∷ answers_to S cap s cs) (after S cap s cs)) (sym (lt-ltb i (machines S) lt)) (sees lt (record { local = refl; waiting = refl; event = refl }) (rest s))
    | inr ge ↦ subst (λ (b : Bool). Run S cap s (Look i p ∷ cs) (to_look (cond b (Ok (sight s i p)) (Err (fault_at NoMachine i))) ∷ answers_to S cap s cs) (after S cap s cs)) (sym (le-ltb i (machines S) ge)) (lacks ge (rest s))
  ]

  pub reference_runs : (cs : List Call) (s : State) → Run S cap s cs (answers_to S cap s cs) (after S cap s cs)
  reference_runs [] s = done
  reference_runs (Fire r ∷ cs) s = fire_runs cs (reference_runs cs) s r (refusal S cap s r) (exact S cap s r) (first_hindrance S cap s r)
  reference_runs (Reset ∷ cs) s = restarts (reference_runs cs (start S))
  reference_runs (Look i p ∷ cs) s = look_runs cs (reference_runs cs) s i p

  -- the same of places that the answers were written to
  pub places_run : (cs : List Call) (s : State) (n : ℕ) (E out : List (Result Answer Fault)) (t : State) → n ≡ length cs → out ≡ filled (answers_to S cap s cs) E → t ≡ after S cap s cs → Run S cap s cs (take n out) t
  places_run cs s n E out t long is stands =
      let A = answers_to S cap s cs in
      let front : take n out ≡ A = ap (take n) is ∙ ap (λ (k : ℕ). take k (A ++ drop (length A) E)) (long ∙ sym (length_answers S cap cs s)) ∙ take-append_seam A (drop (length A) E) in
      subst (λ (ws : List (Result Answer Fault)). Run S cap s cs ws t) (sym front) (subst (λ (u : State). Run S cap s cs A u) (sym stands) (reference_runs cs s))

pub runs_safe : (S : System) → (GoesWrong S → ⊥) → RunsSafe S
runs_safe S never cap cs low high = run_safe S cap never cs

-- a run, one call on: from controllers that keep system S and capacity cap
module _ (S S1 : System) (cap cap1 : ℕ) (s s1 : State) (cs : List Call) (E out : List (Result Answer Fault)) (i : ℕ) (d : Call)
    (same_system : S1 ≡ S) (ec : cap1 ≡ cap) (hc : i < length cs) (room : i < length E)
    (hs : s1 ≡ after S cap s (take i cs)) (ho : out ≡ answers_to S cap s (take i cs) ++ drop i E) where
  pub state_more : (t : State) → t ≡ next S1 cap1 s1 (get_or cs i d) → t ≡ after S cap s (take (i + 1) cs)
  state_more t h =
      h ∙ ap (λ (x : System). next x cap1 s1 (get_or cs i d)) same_system ∙ ap (λ (n : ℕ). next S n s1 (get_or cs i d)) ec ∙ ap (λ (u : State). next S cap u (get_or cs i d)) hs
      ∙ sym (after_push S cap (take i cs) s (get_or cs i d)) ∙ ap (after S cap s) (sym (take_more cs i d hc))

  pub answers_more : (e a : Result Answer Fault) → a ≡ answer S1 cap1 s1 (get_or cs i d) → set out i a ≡ answers_to S cap s (take (i + 1) cs) ++ drop (i + 1) E
  answers_more e a h =
      let A = answers_to S cap s (take i cs) in
      let is : a ≡ answer S cap (after S cap s (take i cs)) (get_or cs i d) =
      h ∙ ap (λ (x : System). answer x cap1 s1 (get_or cs i d)) same_system ∙ ap (λ (n : ℕ). answer S n s1 (get_or cs i d)) ec ∙ ap (λ (u : State). answer S cap u (get_or cs i d)) hs in
      let long : length A ≡ i = length_answers S cap (take i cs) s ∙ length-take-le i cs (omega arith) in
      ap (λ (o : List (Result Answer Fault)). set o i a) (ho ∙ ap (λ (r : List (Result Answer Fault)). A ++ r) (drop_more E i e room))
      ∙ set_at A (get_or E i e) (drop (i + 1) E) a i long
      ∙ sym (append_assoc A (a ∷ []) (drop (i + 1) E))
      ∙ ap (λ (r : List (Result Answer Fault)). r ++ drop (i + 1) E) (ap (λ (b : Result Answer Fault). A ++ (b ∷ [])) is ∙ sym (answers_push S cap (take i cs) s (get_or cs i d)) ∙ ap (answers_to S cap s) (sym (take_more cs i d hc)))

-- a controller that was loaded with system S at a capacity runs as the reference does from the start
module _ (S0 S : System) (cap0 cap : ℕ) (s : State) (same_system : S0 ≡ S) (ec : cap0 ≡ cap) (es : s ≡ start S0) (cs : List Call) where
  pub loaded_answers : answers_to S0 cap0 s cs ≡ answers_to S cap (start S) cs
  loaded_answers = ap (λ (u : State). answers_to S0 cap0 u cs) es ∙ ap (λ (n : ℕ). answers_to S0 n (start S0) cs) ec ∙ ap (λ (x : System). answers_to x cap (start x) cs) same_system

  pub loaded_after : after S0 cap0 s cs ≡ after S cap (start S) cs
  loaded_after = ap (λ (u : State). after S0 cap0 u cs) es ∙ ap (λ (n : ℕ). after S0 n (start S0) cs) ec ∙ ap (λ (x : System). after x cap (start x) cs) same_system
