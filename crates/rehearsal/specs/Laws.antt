-- What replies are to the reference controller. Assumes nothing.
use Rattle.std.specs.Prelude.{◌≡◌, ℕ, min, List, [], ◌∷◌, length, Result}
use Rattle.model.specs.declared.fault.Fault.{Fault}
use Rattle.model.specs.System.{System}
use Rattle.model.specs.State.{start}
use Rattle.table.specs.Reading.{Reads}
use Rattle.table.specs.SystemOf.{system_of}
use Rattle.controller.specs.Hosted.{hosted}
use Rattle.controller.specs.declared.call.Answer.{Answer}
use Rattle.controller.specs.declared.call.Call.{Call as Asked}
use Rattle.controller.specs.Reference.{answers_to}
use Rattle.calls.specs.declared.line.Line.{Line}
use Rattle.calls.specs.declared.line.Line.TheVariants.{Skipped, Capacity, Call, NotUnderstood}
use Rattle.calls.specs.Lines.{lines_of}
use Rattle.calls.specs.Reading.{ReadsAll}
use Rattle.rehearsal.specs.declared.reply.Reply.{Reply}
use Rattle.rehearsal.specs.declared.reply.Reply.TheVariants.{Capacity as Set, Answered, NotUnderstood as Unclear}
use Rattle.rehearsal.specs.Replies.{held, set_to}

-- the calls among lines
abbrev pub calls_in : List Line → List Asked
calls_in [] = []
calls_in (Skipped ∷ xs) = calls_in xs
calls_in (Capacity n ∷ xs) = calls_in xs
calls_in (Call c ∷ xs) = c ∷ calls_in xs
calls_in (NotUnderstood ∷ xs) = calls_in xs

-- the answers among replies
abbrev pub answers_in : List Reply → List (Result Answer Fault)
answers_in [] = []
answers_in (Set x ∷ rs) = answers_in rs
answers_in (Answered a ∷ rs) = a ∷ answers_in rs
answers_in (Unclear k ∷ rs) = answers_in rs

-- the capacity that stands at the first call
abbrev pub capacity_in : ℕ → List Line → ℕ
capacity_in cap [] = min cap 32
capacity_in cap (Skipped ∷ xs) = capacity_in cap xs
capacity_in cap (Capacity n ∷ xs) = capacity_in (set_to cap n) xs
capacity_in cap (Call c ∷ xs) = min cap 32
capacity_in cap (NotUnderstood ∷ xs) = capacity_in cap xs

-- the lines that are not skipped
abbrev pub spoken : List Line → List Line
spoken [] = []
spoken (Skipped ∷ xs) = spoken xs
spoken (Capacity n ∷ xs) = Capacity n ∷ spoken xs
spoken (Call c ∷ xs) = Call c ∷ spoken xs
spoken (NotUnderstood ∷ xs) = NotUnderstood ∷ spoken xs

-- each line that is not skipped has its reply, and the answers to the calls are the reference controller's
pub record Replied (S : System) (cap : ℕ) (lines : List Line) (replies : List Reply) : Type 0 where
  pub each : replies ≡ held S cap 1 lines
  pub count : length replies ≡ length (spoken lines)
  pub answered : answers_in replies ≡ answers_to S (capacity_in cap lines) (start S) (calls_in lines)

-- the same of a pass for the bytes of a table: the controller holds the first six machines of their system, which are all if the table reads
pub record RepliedOf (bytes : List ℕ) (cap : ℕ) (lines : List Line) (replies : List Reply) : Type 0 where
  pub hosted_replied : Replied (hosted (system_of bytes)) cap lines replies
  pub replied : Reads bytes → Replied (system_of bytes) cap lines replies

-- the same of the lines of a text
pub record Rehearsed (bytes : List ℕ) (cap : ℕ) (text : List ℕ) (replies : List Reply) : Type 0 where
  pub lines : List Line
  pub read : ReadsAll (lines_of text) lines
  pub of_lines : RepliedOf bytes cap lines replies
