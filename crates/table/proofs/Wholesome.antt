-- A table with nothing wrong stands for a well-formed system. Assumes nothing.
use Rattle.std.proofs.Common.{◌≡◌, ℕ, zero, suc, ◌+◌, ◌-◌, ◌<◌, ◌≤◌, Bool, eqb, ◌⊎◌, List, length, sym, ap, ◌∙◌, subst, inl, inr, arith}
use Rattle.std.proofs.lemmas.Bool.{cases_eq, eq-eqb, ne_eqb, eqb-true}
use Rattle.model.specs.declared.pattern.Condition.{Condition}
use Rattle.model.specs.System.{machines, states_of, rule_of, pattern_of, ActionFits, RuleFits, LocalFits, FrontFits, ConditionFits, PatternFits, WellFormed}
use Rattle.table.specs.Bytes.{byte_at}
use Rattle.table.specs.Layout.{machines_n, events_n, rules_n, pattern_lines_n, end_at, rule_offset, pattern_offset}
use Rattle.table.specs.Lines.{action_of, rule_at, local_of, front_of, condition_at}
use Rattle.table.specs.SystemOf.{number_of, pattern_count, conditions_of, system_of}
use Rattle.table.specs.Findings.{bounds, states_at, GoodMachine, GoodAction, GoodRuleAt, Follows, GoodConditionAt, GoodPatternAt}
use Rattle.table.specs.Header.{OutOfBounds}
use Rattle.table.specs.Reading.{Reads, Numbered}
use Rattle.table.proofs.Kept.{all_kept, some_kept, rise_kept}
use Rattle.table.proofs.Patterns.{climbs}
use Rattle.table.proofs.Parts.{machines_long, states_at_lem, rules_long, rule_at_lem, patterns_long, pattern_at}

module _ (bs : List ℕ) (reads : Reads bs) where
  pub head : 16 ≤ length bs
  head = grind (arith, reads.0.0)

  pub as_long : length bs ≡ end_at bs
  as_long = grind (arith, reads.0.1.1)

  pub field_in : (i : ℕ) → i < 8 → OutOfBounds bs (bounds bs) i → ⊥
  field_in = reads.0.1.0

  pub some_machines : 1 ≤ machines_n bs
  some_machines = grind (arith, field_in 1 (omega arith))

  pub few_machines : machines_n bs ≤ 6
  few_machines = grind (arith, field_in 1 (omega arith))

  pub some_events : 1 ≤ events_n bs
  some_events = grind (arith, field_in 2 (omega arith))

  pub few_events : events_n bs ≤ 8
  few_events = grind (arith, field_in 2 (omega arith))

  pub few_rules : rules_n bs ≤ 256
  few_rules = grind (arith, field_in 3 (omega arith))

  pub few_lines : pattern_lines_n bs ≤ 64
  few_lines = grind (arith, field_in 4 (omega arith))

  machine_good : (i : ℕ) → i < machines_n bs → GoodMachine bs i
  machine_good i h = let good = reads.1.0 i h in (grind (arith, good), grind (arith, good), grind (arith, good))

  rule_good : (r : ℕ) → r < rules_n bs → GoodRuleAt bs (rule_offset bs r)
  rule_good r h = let good = reads.1.1.0 r h in (grind (arith, good), grind (arith, good), grind (arith, good), grind (arith, good))

  line_good : (l : ℕ) → l < pattern_lines_n bs → GoodPatternAt bs l (pattern_offset bs l)
  line_good l h = let good = reads.1.1.1 l h in (grind (arith, good), (grind (arith, good), grind (arith, good), grind (arith, good), grind (arith, good)), grind (arith, good))

  -- a local state that a line's machine has is one that the system's machine has
  local_there : (i l : ℕ) → i < machines_n bs → l < states_at bs i → l < states_of (system_of bs) i
  local_there i l h k = grind (arith, states_at_lem bs i h)

  machine_there : (i : ℕ) → i < machines_n bs → i < machines (system_of bs)
  machine_there i h = omega (arith, machines_long bs)

  action_fits : (k e d : ℕ) → GoodAction bs k e d → ActionFits (system_of bs) (action_of k e d)
  action_fits k e d (inl x) = rw x.0 tt
  action_fits k e d (inr (inl x)) = rw x.0 (x.1)
  action_fits k e d (inr (inr x)) = rw x.0 (x.1, machine_there d x.2)

  rule_fits : (o : ℕ) → GoodRuleAt bs o → RuleFits (system_of bs) (rule_at bs o)
  rule_fits o good =
      let m = byte_at bs (o + 1) in
      record {
        machine = machine_there m good.0;
        from = local_there m (byte_at bs (o + 2)) good.0 good.1;
        to = local_there m (byte_at bs (o + 3)) good.0 good.2;
        action = action_fits (byte_at bs o) (byte_at bs (o + 4)) (byte_at bs (o + 5)) good.3;
      }

  rules_fit : (r : ℕ) → r < length (system_of bs).rules → RuleFits (system_of bs) (rule_of (system_of bs) r)
  rules_fit r h =
      let l : r < rules_n bs = omega (arith, rules_long bs) in
      rw (rule_at_lem bs r l) (rule_fits (rule_offset bs r) (rule_good r l))

  pub line_machine : (l : ℕ) → l < pattern_lines_n bs → byte_at bs (pattern_offset bs l + 1) < machines_n bs
  line_machine l h = (line_good l h).1.0

  local_fits : (n l : ℕ) → (l < n) ⊎ (l ≡ 255) → LocalFits n (local_of l)
  local_fits n l good = elim (cases_eq l 255) [
    | inl e ↦ rw e tt
    | inr ne ↦ rw (ne_eqb l 255 ne) (elim good [ inl x ↦ x | inr x ↦ absurd (ne x) ])
  ]

  front_fits : (m f : ℕ) → (f < m) ⊎ ((f ≡ 254) ⊎ (f ≡ 255)) → FrontFits m (front_of f)
  front_fits m f good = elim (cases_eq f 255) [
    | inl e ↦ rw e tt
    | inr ne ↦ elim (cases_eq f 254) [
      | inl e ↦ rw e tt
      | inr ne4 ↦ rw (ne_eqb f 255 ne, ne_eqb f 254 ne4) (elim good [ inl x ↦ x | inr y ↦ absurd (elim y [ inl x ↦ ne4 x | inr x ↦ ne x ]) ])
    ]
  ]

  condition_fits : (o : ℕ) → GoodConditionAt bs o → ConditionFits (system_of bs) (condition_at bs o)
  condition_fits o good =
      let m = byte_at bs (o + 1) in
      record {
        machine = machine_there m good.0;
        local = rw (states_at_lem bs m good.0) (local_fits (states_at bs m) (byte_at bs (o + 2)) good.1);
        front = front_fits (events_n bs) (byte_at bs (o + 3)) good.2;
        mask = good.3;
      }

  abbrev machine_of : ℕ → ℕ
  machine_of l = byte_at bs (pattern_offset bs l + 1)

  -- from a line to the next: the same pattern and a higher machine, or the next pattern
  abbrev GoesOn : ℕ → Type 0
  GoesOn l = ((number_of bs (l + 1) ≡ number_of bs l) × (machine_of l < machine_of (l + 1))) ⊎ (number_of bs (l + 1) ≡ number_of bs l + 1)

  followed : (l : ℕ) → Follows bs (l + 1) (pattern_offset bs (l + 1)) → GoesOn l
  followed l f =
      let g6 : byte_at bs (pattern_offset bs (l + 1) - 6) ≡ number_of bs l = ap (byte_at bs) (omega arith) in
      let g5 : byte_at bs (pattern_offset bs (l + 1) - 5) ≡ machine_of l = ap (byte_at bs) (omega arith) in
      elim f [
        | inl x ↦ absurd (omega (arith, x.0))
        | inr y ↦ elim y [ inl x ↦ inl (x.1 ∙ g6, omega (arith, x.2, g5)) | inr x ↦ inr (x.1 ∙ ap (λ (z : ℕ). z + 1) g6) ]
      ]

  goes_on : (l : ℕ) → l + 1 < pattern_lines_n bs → GoesOn l
  goes_on l h = followed l (line_good (l + 1) h).0

  begins : 0 < pattern_lines_n bs → number_of bs 0 ≡ 0
  begins h = grind (arith, (line_good 0 h).0)

  pub reads_numbered : Numbered bs
  reads_numbered = record { first = begins; next = λ l h. elim (goes_on l h) [ inl x ↦ inl x.0 | inr x ↦ inr x ] }

  -- within a pattern the machines rise
  mounts : (i d : ℕ) → i + d + 1 < pattern_lines_n bs → number_of bs (i + d + 1) ≡ number_of bs i → machine_of i < machine_of (i + d + 1)
  mounts i zero h e = elim (goes_on (i + 0) h) [
    | inl x ↦ (let z : i + 0 ≡ i = omega arith in omega (arith, x.1, ap (λ (k : ℕ). byte_at bs (pattern_offset bs k + 1)) z))
    | inr x ↦ absurd (omega (arith, x, climbs bs reads_numbered i 0 (omega arith)))
  ]
  mounts i (suc d) h e = elim (goes_on (i + suc d) h) [
    | inl x ↦ (let z : i + suc d ≡ i + d + 1 = omega arith in
        let m = mounts i d (omega arith) (ap (number_of bs) (sym z) ∙ sym x.0 ∙ e) in
        omega (arith, x.1, m, ap (λ (k : ℕ). byte_at bs (pattern_offset bs k + 1)) z))
    | inr x ↦ absurd (omega (arith, x, climbs bs reads_numbered i (suc d) (omega arith)))
  ]

  -- every number up to that of a line belongs to some line
  passes : (l p : ℕ) → l < pattern_lines_n bs → p ≤ number_of bs l → (j : ℕ) × (j ≤ l) × (number_of bs j ≡ p)
  passes zero p h u = (0, omega arith, omega (arith, begins h))
  passes (suc l) p h u =
      let e : l + 1 ≡ suc l = omega arith in
      elim (cases_eq (number_of bs (suc l)) p) [
        | inl same ↦ (suc l, omega arith, same)
        | inr ne ↦ (let k = passes l p (omega arith) (elim (goes_on l (omega arith)) [ inl x ↦ omega (arith, x.0, ap (number_of bs) e) | inr x ↦ omega (arith, x, ap (number_of bs) e) ]) in (k.0, omega (arith, k.1), k.2))
      ]

  has_line : (p : ℕ) → p < pattern_count bs → (j : ℕ) × (j < pattern_lines_n bs) × (number_of bs j ≡ p)
  has_line p h = elim (cases_eq (pattern_lines_n bs) 0) [
    | inl z ↦ (let none : pattern_count bs ≡ 0 = simp (eq-eqb (pattern_lines_n bs) 0 z) in absurd (omega arith))
    | inr ne ↦ (let count : pattern_count bs ≡ number_of bs (pattern_lines_n bs - 1) + 1 = simp (ne_eqb (pattern_lines_n bs) 0 ne) in
        let k = passes (pattern_lines_n bs - 1) p (omega arith) (omega arith) in (k.0, omega (arith, k.1), k.2))
  ]

  pattern_fits : (p : ℕ) → p < pattern_count bs → PatternFits (system_of bs) (conditions_of bs p)
  pattern_fits p h =
      let f : ℕ → Condition = λ l. condition_at bs (pattern_offset bs l) in
      let t : ℕ → Bool = λ l. eqb (number_of bs l) p in
      let k = has_line p h in
      record {
        some = some_kept f t 0 (pattern_lines_n bs) k.0 (omega arith) (omega (arith, k.1)) (eq-eqb _ p k.2);
        fit = all_kept (ConditionFits (system_of bs)) f t 0 (pattern_lines_n bs)
            (λ j l u e. condition_fits (pattern_offset bs j) (line_good j (omega arith)).1);
        rise = rise_kept f t 0 (pattern_lines_n bs) 0
            (λ j l u e. omega arith)
            (λ i j a lt u e g.
            let z : i + (j - i - 1) + 1 ≡ j = omega arith in
            let m = mounts i (j - i - 1) (omega arith) (ap (number_of bs) z ∙ eqb-true _ _ g ∙ sym (eqb-true _ _ e)) in
            omega (arith, m, ap (λ (k : ℕ). byte_at bs (pattern_offset bs k + 1)) z));
      }

  patterns_fit : (p : ℕ) → p < length (system_of bs).patterns → PatternFits (system_of bs) (pattern_of (system_of bs) p)
  patterns_fit p h =
      let l : p < pattern_count bs = omega (arith, patterns_long bs) in
      subst (PatternFits (system_of bs)) (sym (pattern_at bs p l)) (pattern_fits p l)

  pub reads_well_formed : WellFormed (system_of bs)
  reads_well_formed = record {
    some_machines = omega (arith, machines_long bs, some_machines);
    few_machines = omega (arith, machines_long bs, few_machines);
    some_events = some_events;
    few_events = few_events;
    some_states = λ i h. (let l : i < machines_n bs = omega (arith, machines_long bs) in omega (arith, states_at_lem bs i l, machine_good i l));
    few_states = λ i h. (let l : i < machines_n bs = omega (arith, machines_long bs) in omega (arith, states_at_lem bs i l, machine_good i l));
    rules = rules_fit;
    patterns = patterns_fit;
  }
