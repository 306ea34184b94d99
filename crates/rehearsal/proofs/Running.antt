-- The run that the calls among lines are.
use Rattle.std.proofs.Common.{◌≡◌, ℕ, ◌≤◌, Bool, true, false, cond, List, [], ◌∷◌, Result, sym, refl, subst, arith}
use Rattle.std.proofs.lemmas.Bool.{and_parts, leb-true}
use Rattle.model.specs.declared.fault.Fault.{Fault}
use Rattle.model.specs.State.{start}
use Rattle.model.specs.System.{System}
use Rattle.table.specs.SystemOf.{system_of}
use Rattle.model.specs.Bad.{GoesWrong}
use Rattle.closed_sets.specs.Records.{Claim}
use Rattle.model.specs.Order.{Nothing}
use Rattle.checker.specs.Verdict.{Applies, order}
use Rattle.checker.specs.Promise.{Passes, Safe}
use Rattle.controller.specs.Reference.{after}
use Rattle.controller.specs.Runs.{Run}
use Rattle.controller.specs.declared.call.Answer.{Answer}
use Rattle.controller.proofs.Runs.{reference_runs, run_safe}
use Rattle.calls.specs.declared.line.Line.{Line}
use Rattle.calls.specs.declared.line.Line.TheVariants.{Skipped, Capacity, Call, NotUnderstood}
use Rattle.rehearsal.specs.declared.reply.Reply.{Reply}
use Rattle.rehearsal.specs.Files.{UnderPass}
use Rattle.rehearsal.specs.Laws.{calls_in, capacity_in, Rehearsed}
use Rattle.rehearsal.specs.Replies.{settable, set_to}

abbrev InRange : ℕ → Type 0
InRange n = (1 ≤ n) × (n ≤ 32)

-- a capacity that is set is in range, and one that is refused leaves the one before
set_in_range : (cap n : ℕ) → InRange cap → InRange (set_to cap n)
set_in_range cap n h = go (settable n) refl
  where
    go : (b : Bool) → settable n ≡ b → InRange (cond b n cap)
    go true e = let p = and_parts _ _ e in (leb-true 1 n p.0, leb-true n 32 p.1)
    go false e = h

capacity_in_range : (cap : ℕ) (xs : List Line) → InRange cap → InRange (capacity_in cap xs)
capacity_in_range cap [] h = (omega (arith, h.0), omega (arith, h.1))
capacity_in_range cap (Skipped ∷ xs) h = capacity_in_range cap xs h
capacity_in_range cap (Capacity n ∷ xs) h = capacity_in_range (set_to cap n) xs (set_in_range cap n h)
capacity_in_range cap (Call c ∷ xs) h = (omega (arith, h.0), omega (arith, h.1))
capacity_in_range cap (NotUnderstood ∷ xs) h = capacity_in_range cap xs h

-- under a pass the answers among the replies are a run of the table's system, and none of its states is bad
pub under_pass : (table set text : List ℕ) (T : Claim) (rs : List Reply) → T.system ≡ system_of table → Passes table set T → Safe T → Nothing (Applies table set T) (order table set T) → Rehearsed table 32 text rs → UnderPass table set text T rs
under_pass table set text T rs same passes safe nothing h =
    let S = system_of table in
    let cap = capacity_in 32 h.lines in
    let cs = calls_in h.lines in
    let range = capacity_in_range 32 h.lines (omega arith, omega arith) in
    let answered = (h.of_lines.replied passes.reads).answered in
    record {
      passes = passes;
      safe = safe;
      nothing = nothing;
      rehearsed = h;
      some = range.0;
      few = range.1;
      related = (after S cap (start S) cs, subst (λ (ws : List (Result Answer Fault)). Run S cap (start S) cs ws (after S cap (start S) cs)) (sym answered) (reference_runs S cap cs (start S)));
      run_safe = run_safe S cap (subst (λ (R : System). GoesWrong R → ⊥) same safe.never) cs;
    }
