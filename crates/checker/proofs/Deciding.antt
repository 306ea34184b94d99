-- What the tests of a record that is held decide. Assumes nothing.
use Rattle.std.proofs.Common.{◌≡◌, ℕ, ◌<◌, Bool, false, eqb, List, [], ◌∷◌, ◌++◌, length, get_or, Some, Ok, Err, Decides, Result, sym, refl, ap, ◌∙◌, subst, arith}
use Rattle.std.proofs.lemmas.Bool.{true≢false, eq-eqb, eqb-true}
use Rattle.std.proofs.lemmas.Bool.Decides.{Decides-like}
use Rattle.std.proofs.lemmas.Option.{same_Some}
use Rattle.std.specs.List.{slice_get}
use Rattle.std.specs.Prelude.{slice_index_or}
use Rattle.std.specs.Result.{is_err}
use Rattle.model.specs.Bad.{NoTake}
use Rattle.model.specs.Order.{Order, Nothing, each, one}
use Rattle.model.specs.Queue.{Over}
use Rattle.model.specs.System.{System, machines, WellFormed, RuleFits, ActionFits, pattern_of, rule_of}
use Rattle.model.specs.declared.fault.Fault.{Fault}
use Rattle.model.specs.declared.pattern.Condition.{Condition}
use Rattle.model.specs.declared.queue.Front.TheVariants.{Event}
use Rattle.model.specs.declared.rule.Action.{Action}
use Rattle.model.specs.declared.rule.Action.TheVariants.{Take, Send}
use Rattle.model.specs.declared.rule.Rule.{Rule}
use Rattle.abstraction.specs.Meaning.{Allowed}
use Rattle.abstraction.specs.declared.QueueAbstraction as queue_abstraction
use Rattle.table.proofs.Kept.{all_kept}
use Rattle.table.proofs.Parts.{machines_long, rules_long, lines_long, patterns_long, pattern_at}
use Rattle.table.specs.Layout.{machines_n, events_n, rules_n, pattern_lines_n, pattern_offset}
use Rattle.table.specs.Lines.{condition_at}
use Rattle.table.specs.SystemOf.{system_of, pattern_lines_of, pattern_count, number_of}
use Rattle.checker.proofs.Read.{kept_all, record_at_lem}
use Rattle.checker.specs.Case.{claim, claim_at, table_at, IsSound}
use Rattle.checker.specs.Held.{record_in}
use Rattle.checker.specs.Inner.{Judging, Calm, ListedIn, Inside, Keeps}
use Rattle.checker.specs.Plan.{no_link}
use Rattle.checker.specs.SetFile.{records_n, record_at}
use Rattle.checker.specs.declared.case.Case.{Case}
use Rattle.checker.specs.declared.case.Judgement.{Judgement}
use Rattle.checker.specs.declared.held.Held.{Held}
use Rattle.checker.specs.declared.step.Step.{Step}
use Rattle.closed_sets.proofs.Lets.{surprise_lets, pattern_lets}
use Rattle.closed_sets.proofs.Outside.{outside_lets, outside_not}
use Rattle.closed_sets.specs.Codes.{MaySurprise, MayHold, MayMeet, Leads}
use Rattle.closed_sets.specs.Judging.{Finding, Leaves, Applies, Judged, outcomes, outcomes_of, surprise, met, outside}
use Rattle.closed_sets.specs.Records.{Claim, Record, record_of, local_in, code_in, Sound, Listed, Lets}
use Rattle.closed_sets.specs.Theorems.{Means}

-- x is rule r of a system, which has it
pub record RuleOf (S : System) (r : ℕ) (x : Rule) : Type 0 where
  pub below : r < length S.rules
  pub is : x ≡ rule_of S r
  pub fits : RuleFits S x

pub rule_of_system : {S : System} → WellFormed S → {r : ℕ} {x : Rule} → r < length S.rules → x ≡ rule_of S r → RuleOf S r x
rule_of_system {S} proper {r} lt is = record { below = lt; is = is; fits = subst (RuleFits S) (sym is) (proper.rules r lt) }

-- what a judgement knows of its table
module _ {A : Type 0} (j : Judgement A) where
  pub proper_at : WellFormed (system_of (table_at j))
  proper_at = j.judge.now.case.now.table.ready.proper

  pub machine_at : {i : ℕ} → i < machines_n (table_at j) → i < machines (system_of (table_at j))
  machine_at lt = omega (arith, machines_long (table_at j), lt)

  pub pattern_below : {p : ℕ} → p < pattern_count (table_at j) → p < length (system_of (table_at j)).patterns
  pattern_below lt = omega (arith, patterns_long (table_at j), lt)

  pub line_below : {l n : ℕ} → n ≡ length (pattern_lines_of (table_at j)) → l < n → l < pattern_lines_n (table_at j)
  line_below is lt = omega (arith, lines_long (table_at j), is, lt)

  pub rule_in : {r : ℕ} → r < rules_n (table_at j) → RuleOf (system_of (table_at j)) r (rule_of (system_of (table_at j)) r)
  rule_in lt = rule_of_system proper_at (omega (arith, rules_long (table_at j), lt)) refl

  -- what the plan has as rule r is the table's
  pub rule_at : {r : ℕ} {x : Rule} → r < rules_n (table_at j) → x ≡ (slice_index_or j.plan.now.chains.links r no_link).rule → RuleOf (system_of (table_at j)) r x
  rule_at {r} lt is = rule_of_system proper_at (omega (arith, rules_long (table_at j), lt)) (is ∙ j.planned.chained.rules r (omega arith) lt)

-- what is read from a case's set as record k is held as that record
pub read_judging : {A : Type 0} (q : queue_abstraction.Ghosts A) (c : Case A) (m : ℕ) {k : ℕ} {h : Held} → k < records_n c.set.bytes.now → m ≡ machines_n c.table.view.bytes.now → record_in h ≡ record_at m c.set.bytes.now k → h.machines ≡ m → Sound (claim q c) (record_of (claim q c) k) → Judging (claim q c) (machines_n c.table.view.bytes.now) k h
read_judging q c m {k} lt e is machines sound = record {
  is = is ∙ ap (λ (z : ℕ). record_at z c.set.bytes.now k) e ∙ sym (record_at_lem (machines_n c.table.view.bytes.now) c.set.bytes.now k lt);
  sound = sound;
  machines = machines ∙ e;
}

-- what is held is what record k says
module _ {T : Claim} {n k : ℕ} {h : Held} (j : Judging T n k h) where
  entry_is : (i : ℕ) {l c : ℕ} → (l, c) ≡ get_or (record_in h) i (0, 0) → (l, c) ≡ get_or (record_of T k) i (0, 0)
  entry_is i q = q ∙ ap (λ (r : Record). get_or r i (0, 0)) j.is

  pub entry_local : (i : ℕ) {l c : ℕ} → (l, c) ≡ get_or (record_in h) i (0, 0) → l ≡ local_in (record_of T k) i
  entry_local i q = ap (λ (x : ℕ × ℕ). x.0) (entry_is i q)

  pub entry_code : (i : ℕ) {l c : ℕ} → (l, c) ≡ get_or (record_in h) i (0, 0) → c ≡ code_in (record_of T k) i
  entry_code i q = ap (λ (x : ℕ × ℕ). x.1) (entry_is i q)

module _ {T : Claim} (law : Means T) {n k : ℕ} {h : Held} (j : Judging T n k h) where
  module _ {i l c : ℕ} (q : (l, c) ≡ get_or (record_in h) i (0, 0)) (lt : i < machines T.system) where
    pub surprise_not : {e : ℕ} → (NoTake T.system i l e → ⊥) → Applies T (surprise k i e) → ⊥
    surprise_not {e} taken a = taken (subst (λ (z : ℕ). NoTake T.system i z e) (sym (entry_local j i q)) ((surprise_lets T law (record_of T k) j.sound i e lt).1 a).1)

    pub surprise_allowed : {e m : ℕ} → m ≡ T.system.events → Applies T (surprise k i e) → Allowed T.width T.code m c (Event e) 0
    surprise_allowed {e} {m} ev a =
        subst (λ (z : ℕ). Allowed T.width T.code m z (Event e) 0) (sym (entry_code j i q))
        (subst (λ (z : ℕ). Allowed T.width T.code z (code_in (record_of T k) i) (Event e) 0) (sym ev) ((surprise_lets T law (record_of T k) j.sound i e lt).1 a).0)

    pub surprise_where : {e m : ℕ} (b : Bool) → m ≡ T.system.events → Allowed T.width T.code m c (Event e) 0 → Decides b (NoTake T.system i l e) → Decides b (Applies T (surprise k i e))
    surprise_where {e} {m} b ev a d =
        let both = surprise_lets T law (record_of T k) j.sound i e lt in
        Decides-like b
        (λ none. both.0 (subst (λ (z : ℕ). Allowed T.width T.code z (code_in (record_of T k) i) (Event e) 0) ev (subst (λ (z : ℕ). Allowed T.width T.code m z (Event e) 0) (entry_code j i q) a), subst (λ (z : ℕ). NoTake T.system i z e) (entry_local j i q) none))
        (λ s. subst (λ (z : ℕ). NoTake T.system i z e) (sym (entry_local j i q)) (both.1 s).1)
        d

  -- a machine is surprised by what its own entry says
  AtEntry : ℕ → ℕ → ℕ × ℕ → Type 0
  AtEntry i e z = Allowed T.width T.code T.system.events z.1 (Event e) 0 × NoTake T.system i z.0 e

  pub surprise_as_before : (h' : Held) {i e : ℕ} → i < machines T.system → get_or (record_in h) i (0, 0) ≡ get_or (record_in h') i (0, 0) → (MaySurprise T (record_in h') i e → ⊥) → Applies T (surprise k i e) → ⊥
  unfolding AtEntry
  surprise_as_before h' {i} {e} lt same calm a =
      calm (subst (AtEntry i e) (ap (λ (r : Record). get_or r i (0, 0)) (sym j.is) ∙ same) ((surprise_lets T law (record_of T k) j.sound i e lt).1 a))

  -- a record in which no surprise is found is calm
  pub calm_from : h.machines ≡ n → ((i : ℕ) → i < machines T.system → (e : ℕ) → e < T.system.events → Applies T (surprise k i e) → ⊥) → Calm T n h
  calm_from e none = record {
    machines = e;
    calm = λ i e lt le m. none i lt e le ((surprise_lets T law (record_of T k) j.sound i e lt).0 (subst (λ (r : Record). MaySurprise T r i e) j.is m));
  }

  module _ (proper : WellFormed T.system) {p : ℕ} (lt : p < length T.system.patterns) where
    pub pattern_if : MayMeet T (record_of T k) (pattern_of T.system p) → Applies T (met k p)
    pattern_if m = (pattern_lets T law (record_of T k) j.sound (pattern_of T.system p) (proper.patterns p lt)).0 m

    pub pattern_from : Applies T (met k p) → MayMeet T (record_of T k) (pattern_of T.system p)
    pattern_from a = (pattern_lets T law (record_of T k) j.sound (pattern_of T.system p) (proper.patterns p lt)).1 a

  module _ {r : ℕ} {x : Rule} (at : RuleOf T.system r x) where
    leaves : (c : ℕ) → Applies T (outside k r c) → Lets T (record_of T k) (Leaves T (record_of T k) x c)
    leaves c a = subst (λ (z : Rule). Lets T (record_of T k) (Leaves T (record_of T k) z c)) (sym at.is) a

    pub not_from : (local_in (record_of T k) x.machine ≡ x.from → ⊥) → (c : ℕ) → Applies T (outside k r c) → ⊥
    not_from ne c a = ne (outside_not T law (record_of T k) j.sound x at.fits c (leaves c a)).0

    module _ (from : local_in (record_of T k) x.machine ≡ x.from) where
      pub out_if : (a : Action) → x.action ≡ a → (c : ℕ) (q : Record) → Leads T x a (record_of T k) c q → (Listed T q → ⊥) → Applies T (outside k r c)
      out_if a e c q l absent =
          subst (λ (z : Rule). Lets T (record_of T k) (Leaves T (record_of T k) z c)) at.is
          ((outside_lets T law (record_of T k) j.sound x at.fits c q from (subst (λ (b : Action). Leads T x b (record_of T k) c q) (sym e) l)).0 absent)

      pub out_not : (a : Action) → x.action ≡ a → (c : ℕ) (q : Record) → Leads T x a (record_of T k) c q → Listed T q → Applies T (outside k r c) → ⊥
      out_not a e c q l there ap =
          (outside_lets T law (record_of T k) j.sound x at.fits c q from (subst (λ (b : Action). Leads T x b (record_of T k) c q) (sym e) l)).1 (leaves c ap) there

-- what a step knows of its rule, and what is answered of where it leads
module _ {A : Type 0} (s : Step A) where
  pub rule_of_step : RuleOf (system_of (table_at s.judgement.now)) s.r s.rule
  rule_of_step = rule_of_system (proper_at s.judgement.now) (omega (arith, rules_long (table_at s.judgement.now), s.enabled.below)) s.enabled.is

  -- a machine that is sent to is there, and so is the event
  pub sends_there : {e d : ℕ} → s.rule.action ≡ Send e d → (e < events_n (table_at s.judgement.now)) × (d < machines_n (table_at s.judgement.now))
  sends_there is =
      let fits = subst (ActionFits (system_of (table_at s.judgement.now))) is rule_of_step.fits.action in
      (fits.0, omega (arith, fits.1, machines_long (table_at s.judgement.now)))

  module _ (q : queue_abstraction.Ghosts A) (law : Means (claim_at q s.judgement.now)) (sound : IsSound q s.judgement.now) where
    abbrev T : Claim
    T = claim_at q s.judgement.now

    abbrev k : ℕ
    k = s.judgement.now.k

    from : local_in (record_of T k) s.rule.machine ≡ s.rule.from
    from = ap (λ (z : Record). local_in z s.rule.machine) (sym sound.is) ∙ s.enabled.from

    pub take_other : (v u c d : ℕ) → s.rule.action ≡ Take v → slice_get (T.removals T.system.events (code_in (record_of T k) s.rule.machine)) c ≡ Some (u, d) → (u ≡ v → ⊥) → Applies T (outside k s.r c) → ⊥
    take_other v u c d action is ne o =
        let l = subst (λ (b : Action). (q : Record) × Leads T s.rule b (record_of T k) c q) action (outside_not T law (record_of T k) sound.sound s.rule rule_of_step.fits c (leaves law sound rule_of_step c o)).1 in
        ne (ap (λ (z : ℕ × ℕ). z.0) (same_Some (u, d) (v, l.1.0) (sym is ∙ l.1.1)))

    pub judged_inside : {a : Action} → s.rule.action ≡ a → (c : ℕ) {q u : Record} {rs : List Record} (res : Result (Unit {0}) Fault) → Leads T s.rule a (record_of T k) c q → rs ≡ T.records → u ≡ q → Inside rs u k s.r c res → Judged T (one (outside k s.r c)) res
    judged_inside {a} action c {q} {u} (Ok v) l e f i =
        out_not law sound rule_of_step from a action c q l (subst (Listed T) f (subst (λ (z : List Record). ListedIn z u) e i))
    judged_inside {a} action c {q} {u} (Err g) l e f i =
        record { finding = outside k s.r c; numbered = i.0; first = (refl, out_if law sound rule_of_step from a action c q l (λ there. i.1 (subst (λ (z : List Record). ListedIn z u) (sym e) (subst (Listed T) (sym f) there)))) }

-- a pattern of a judgement's table may be met just where each of its lines may hold
module _ {A : Type 0} (q : queue_abstraction.Ghosts A) (j : Judgement A) (law : Means (claim_at q j)) (sound : IsSound q j) {p : ℕ} (lt : p < pattern_count (table_at j)) where
  abbrev bs : List ℕ
  bs = table_at j

  abbrev Holds : Condition → Type 0
  Holds = MayHold (claim_at q j) (record_of (claim_at q j) j.k)

  abbrev line : ℕ → Condition
  line l = condition_at bs (pattern_offset bs l)

  abbrev mine : ℕ → Bool
  mine l = eqb (number_of bs l) p

  line_from : Applies (claim_at q j) (met j.k p) → (l : ℕ) → l < pattern_lines_n bs → number_of bs l ≡ p → Holds (line l)
  line_from a l u e =
      let all = subst (MayMeet (claim_at q j) (record_of (claim_at q j) j.k)) (pattern_at bs p lt) (pattern_from law sound (proper_at j) (pattern_below j lt) a) in
      kept_all Holds line mine 0 (pattern_lines_n bs) all l (omega arith) (omega arith) (eq-eqb _ _ e)

  -- a line that does not hold keeps the pattern from being met
  pub kept_not : {l : ℕ} → l < pattern_lines_n bs → Keeps (claim_at q j) bs j.k p l → Applies (claim_at q j) (met j.k p) → ⊥
  kept_not {l} below kept a = kept.1 (line_from a l below kept.0)

  pub pattern_where : ((l : ℕ) → l < pattern_lines_n bs → number_of bs l ≡ p → Holds (line l)) → Applies (claim_at q j) (met j.k p)
  pattern_where all =
      pattern_if law sound (proper_at j) (pattern_below j lt)
      (subst (MayMeet (claim_at q j) (record_of (claim_at q j) j.k)) (sym (pattern_at bs p lt))
      (all_kept Holds line mine 0 (pattern_lines_n bs) (λ l a u e. all l (omega arith) (eqb-true _ _ e))))

pub judged_one : (T : Claim) (k r : ℕ) (res : Result (Unit {0}) Fault) → Judged T (one (outside k r 0)) res → Judged T (each 1 (λ c. one (outside k r c))) res
judged_one T k r (Ok u) h = λ c l. subst (λ (z : ℕ). Applies T (outside k r z) → ⊥) (omega arith) h
judged_one T k r (Err f) h = record { finding = h.finding; numbered = h.numbered; first = (0, omega arith, h.first, λ j l. absurd (omega arith)) }

pub judged_rule : (T : Claim) (k : ℕ) {r : ℕ} {x : Rule} {a : Action} (res : Result (Unit {0}) Fault) → RuleOf T.system r x → x.action ≡ a → Judged T (each (outcomes T (record_of T k) x a) (λ c. one (outside k r c))) res → Judged T (outcomes_of T k r) res
judged_rule T k {r} {x} res known f h =
    subst (λ (z : Rule). Judged T (each (outcomes T (record_of T k) z z.action) (λ c. one (outside k r c))) res) known.is
    (subst (λ (b : Action). Judged T (each (outcomes T (record_of T k) x b) (λ c. one (outside k r c))) res) (sym f) h)

pub appends_as : (code : ℕ → List ℕ → ℕ) {m n b c e d : ℕ} → m ≡ n → b ≡ c → ((Q : List ℕ) → Over m Q → code m Q ≡ b → code m (Q ++ (e ∷ [])) ≡ d) → (Q : List ℕ) → Over n Q → code n Q ≡ c → code n (Q ++ (e ∷ [])) ≡ d
appends_as code {m} {n} {b} {c} {e} {d} f g h =
    subst (λ (z : ℕ). (Q : List ℕ) → Over z Q → code z Q ≡ c → code z (Q ++ (e ∷ [])) ≡ d) f
    (subst (λ (z : ℕ). (Q : List ℕ) → Over m Q → code m Q ≡ z → code m (Q ++ (e ∷ [])) ≡ d) g h)

-- where no error is answered, nothing of the order applies
pub judged_ok : (T : Claim) (o : Order Finding) (r : Result (Unit {0}) Fault) → is_err r ≡ false → Judged T o r → Nothing (Applies T) o
judged_ok T o (Ok v) e h = h
judged_ok T o (Err f) e h = absurd (true≢false e)
