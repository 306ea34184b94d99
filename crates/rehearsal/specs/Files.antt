-- What is promised of the files table, set and calls. Assumes nothing.
use Rattle.std.specs.Prelude.{ℕ, ◌≤◌, List, Ok, Err, vec_items, Result, Vec}
use Rattle.std.specs.declared.alloc.Global.{Global}
use Rattle.model.specs.declared.fault.Fault.{Fault}
use Rattle.model.specs.Order.{Nothing}
use Rattle.model.specs.State.{State, start}
use Rattle.table.specs.SystemOf.{system_of}
use Rattle.closed_sets.specs.Records.{Claim}
use Rattle.checker.specs.Promise.{Checked, Passes, Safe}
use Rattle.checker.specs.Verdict.{Applies, order}
use Rattle.controller.specs.Runs.{Run, RunSafe}
use Rattle.rehearsal.specs.declared.reply.Reply.{Reply}
use Rattle.rehearsal.specs.Laws.{calls_in, answers_in, capacity_in, Rehearsed}

-- what is promised of the replies under a pass
pub record UnderPass (table set text : List ℕ) (T : Claim) (replies : List Reply) : Type 0 where
  pub passes : Passes table set T
  pub safe : Safe T
  pub nothing : Nothing (Applies table set T) (order table set T)
  -- the lines of the text have these replies, at capacity 32 unless a line sets another
  pub rehearsed : Rehearsed table 32 text replies
  -- the capacity at which the table is loaded is from 1 to 32
  pub some : 1 ≤ capacity_in 32 rehearsed.lines
  pub few : capacity_in 32 rehearsed.lines ≤ 32
  -- the calls among the lines and the answers among the replies are related by Run: an accepted fire is a step of the system for which
  -- there is room, a refused one has the first reason that applies, a reset goes to the start, and a look sees what is there
  pub related : (t : State) × Run (system_of table) (capacity_in 32 rehearsed.lines) (start (system_of table)) (calls_in rehearsed.lines) (answers_in replies) t
  -- before the first of these calls and after each one no machine is surprised and no forbidden pattern is met
  pub run_safe : RunSafe (system_of table) (capacity_in 32 rehearsed.lines) (calls_in rehearsed.lines)

-- replies under a pass; else the fault of the check
abbrev pub FromFiles : List ℕ → List ℕ → List ℕ → Claim → Result (Vec Reply Global) Fault → Type 0
FromFiles table set text T (Ok v) = UnderPass table set text T (vec_items v)
FromFiles table set text T (Err f) = Checked table set T (Err f)
