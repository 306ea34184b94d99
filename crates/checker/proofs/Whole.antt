-- From the parts of a check to its verdict. Assumes nothing.
use Rattle.std.proofs.Common.{◌≡◌, ℕ, ◌+◌, ◌-◌, ◌*◌, ◌≤◌, List, length, IfOk, Ok, Err, Result, subst, subst₂, inl, inr, arith, MatchResult}
use Rattle.std.proofs.lemmas.Bool.{cases_lt}
use Rattle.model.specs.declared.fault.Fault.{Fault}
use Rattle.model.specs.State.{start}
use Rattle.model.specs.System.{WellFormed}
use Rattle.model.specs.Order.{Order, each, under, Nothing, FirstFault, Answered, ◌then◌}
use Rattle.model.proofs.Findings.{nothing_under, not_both, fault_only, answered_first, answered_after, answered_under}
use Rattle.table.specs.Layout.{machines_n}
use Rattle.table.specs.Reading.{Reads}
use Rattle.table.specs.Findings as reading
use Rattle.table.proofs.Wholesome.{reads_well_formed, some_machines, few_machines, few_events, few_rules, few_lines, line_machine}
use Rattle.abstraction.specs.declared.QueueAbstraction as queue_abstraction
use Rattle.closed_sets.specs.Records.{Claim, Closed, Represented}
use Rattle.closed_sets.specs.Judging as judging
use Rattle.closed_sets.specs.Theorems.{Means, SoundAll}
use Rattle.closed_sets.proofs.Closure.{found_nothing, closed_nothing, closed_holds}
use Rattle.checker.specs.Case.{claim}
use Rattle.checker.specs.Inner.{Formed}
use Rattle.checker.specs.Promise.{Passes, Safe, Checked, SetRead}
use Rattle.checker.specs.Ready.{Ready}
use Rattle.checker.specs.SetFile.{claim_of, records_n, record_byte, Before, SetReady}
use Rattle.checker.specs.declared.case.Case.{Case}
use Rattle.checker.specs.Verdict.{Finding, in_table, in_header, in_record, HeaderApplies, header_order, Applies, numbers, form_of, form_order, table_order, order}

-- what a set file claims of a table file, under an abstraction
abbrev pub claimed : {A : Type 0} → queue_abstraction.Ghosts A → A → List ℕ → List ℕ → Claim
claimed q p table set = claim_of table set (q.bits p) (q.code p) (q.removals p)

-- what holds of a case holds of the files and the abstraction that it was made of
pub of_files : {A : Type 0} (q : queue_abstraction.Ghosts A) (c : Case A) {p : A} {bs s : List ℕ} → c.table.view.bytes.now ≡ bs → c.set.bytes.now ≡ s → c.abstraction.now ≡ p → (P : List ℕ → List ℕ → Claim → Type 0) → P c.table.view.bytes.now c.set.bytes.now (claim q c) → P bs s (claimed q p bs s)
of_files {A} q c {p} {bs} {s} table set abstraction P h =
    subst (λ (z : A). P bs s (claimed q z bs s)) abstraction (subst₂ (λ b o. P b o (claimed q c.abstraction.now b o)) table set h)

pub reads_ready : (bs : List ℕ) → Reads bs → Ready bs
reads_ready bs r = record {
  some = some_machines bs r;
  few = few_machines bs r;
  events = few_events bs r;
  rules = few_rules bs r;
  lines = few_lines bs r;
  named = line_machine bs r;
  proper = reads_well_formed bs r;
}

pub closed_if : (T : Claim) → Means T → WellFormed T.system → SoundAll T → Represented T (start T.system) → (r : Result (Unit {0}) Fault) → judging.Judged T (judging.judged T) r → IfOk r (λ _. Closed T)
closed_if T law w s b (Ok u) n = found_nothing T law w s b n
closed_if T law w s b (Err f) n = tt

pub closed_safe : (T : Claim) → WellFormed T.system → Closed T → Safe T
closed_safe T w c = record { covers = λ s r. (closed_holds T w c s r).0; never = λ (s, r, bad). (closed_holds T w c s r).1 bad }

-- what a header with nothing wrong says
module _ (table set : List ℕ) (h : Nothing (HeaderApplies table set) header_order) where
  pub head : 16 ≤ length set
  head = elim (cases_lt (length set) 16) [ inl lt ↦ absurd (h.0 lt) | inr ge ↦ ge ]

  pub as_long : length set ≡ 16 + 9 * machines_n table * records_n set
  as_long = grind (arith, h.1.1)

module _ (table set : List ℕ) (T : Claim) where
  pub formed_nothing : Formed (machines_n table) set T → Nothing (Applies table set T) (each (records_n set) form_of)
  formed_nothing f k l = (
    (λ none. none (f.sound k l)),
    (λ none. none.1 (let e : k - 1 + 1 ≡ k = omega (arith, none.0) in
        subst (λ (z : ℕ). Before (9 * machines_n table) (record_byte (machines_n table) set (k - 1)) (record_byte (machines_n table) set z)) e (f.rising (k - 1) (omega (arith, none.0))))),
  )

  pub form_answered : Nothing (HeaderApplies table set) header_order → (r : Result (Unit {0}) Fault) → MatchResult r (λ _. Formed (machines_n table) set T) (λ f. FirstFault (Applies table set T) (numbers table) (each (records_n set) form_of) f) → Answered (Applies table set T) (numbers table) (form_order set) r
  form_answered h (Ok u) f = (nothing_under (Applies table set T) (numbers table) in_header header_order h, formed_nothing f)
  form_answered h (Err f) b = answered_after (Applies table set T) (numbers table) (under in_header header_order) (each (records_n set) form_of) (Err f) (nothing_under (Applies table set T) (numbers table) in_header header_order h) b

  pub form_ready : Nothing (HeaderApplies table set) header_order → (r : Result (Unit {0}) Fault) → MatchResult r (λ _. Formed (machines_n table) set T) (λ f. FirstFault (Applies table set T) (numbers table) (each (records_n set) form_of) f) → IfOk r (λ _. SetReady (machines_n table) set × Formed (machines_n table) set T)
  form_ready h (Ok u) f = (record { head = head table set h; long = as_long table set h; rising = f.rising }, f)
  form_ready h (Err f) b = tt

  pub reads_nothing : Reads table → Nothing (Applies table set T) (table_order table)
  reads_nothing r = nothing_under (Applies table set T) (numbers table) in_table (reading.order table) r

  -- what is wrong with the table comes first
  pub table_fault : (o : Order Finding) (f : Fault) → Answered (reading.Applies table) (reading.numbers table) (reading.order table) (Err f) → FirstFault (Applies table set T) (numbers table) (table_order table then o) f
  table_fault o f h = answered_first (Applies table set T) (numbers table) (table_order table) o f (answered_under (Applies table set T) (numbers table) in_table (reading.order table) (Err f) h)

  -- what is wrong with the rest comes next, where the table reads
  pub after_table : (o : Order Finding) (r : Result (Unit {0}) Fault) → Reads table → Answered (Applies table set T) (numbers table) o r → Answered (Applies table set T) (numbers table) (table_order table then o) r
  after_table o r reads h = answered_after (Applies table set T) (numbers table) (table_order table) o r (reads_nothing reads) h

  pub passes_nothing : Passes table set T → Nothing (Applies table set T) (order table set T)
  passes_nothing p = (reads_nothing p.reads, (p.form, ((λ none. none p.closed.begins), nothing_under (Applies table set T) (numbers table) in_record (judging.judged T) (closed_nothing T p.closed))))

  -- the first that applies keeps the set from passing, and no other fault is the first
  pub refused : (f : Fault) → FirstFault (Applies table set T) (numbers table) (order table set T) f → Checked table set T (Err f)
  refused f h = (
    (λ p. not_both (Applies table set T) (numbers table) (order table set T) h.finding (passes_nothing p) h.first),
    h,
    λ g other. fault_only (Applies table set T) (numbers table) (order table set T) g f other h,
  )

  pub form_refused : (f : Fault) → FirstFault (Applies table set T) (numbers table) (table_order table then form_order set) f → SetRead table set T (Err f)
  form_refused f h = (
    (λ r g. not_both (Applies table set T) (numbers table) (table_order table then form_order set) h.finding (reads_nothing r, g) h.first),
    h,
    λ g other. fault_only (Applies table set T) (numbers table) (table_order table then form_order set) g f other h,
  )
