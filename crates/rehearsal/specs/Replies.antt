-- What lines are replied, one after the other. Assumes nothing.
use Rattle.std.specs.Prelude.{ℕ, ◌+◌, min, Bool, cond, ◌&&◌, List, [], ◌∷◌, nat_le, Ok, Err}
use Rattle.model.specs.declared.fault.Refusal.TheVariants.{Capacity as CapacityRefused}
use Rattle.model.specs.System.{System}
use Rattle.model.specs.State.{State, start}
use Rattle.table.specs.Header.{fault_at}
use Rattle.controller.specs.Reference.{answer, next}
use Rattle.calls.specs.declared.line.Line.{Line}
use Rattle.calls.specs.declared.line.Line.TheVariants.{Skipped, Capacity, Call, NotUnderstood}
use Rattle.rehearsal.specs.declared.reply.Reply.{Reply}
use Rattle.rehearsal.specs.declared.reply.Reply.TheVariants.{Capacity as Set, Answered, NotUnderstood as Unclear}

-- a capacity is from 1 to 32
abbrev pub settable : ℕ → Bool
settable n = nat_le 1 n && nat_le n 32

abbrev pub set_reply : ℕ → Reply
set_reply n = Set (cond (settable n) (Ok n) (Err (fault_at CapacityRefused n)))

abbrev pub set_to : ℕ → ℕ → ℕ
set_to cap n = cond (settable n) n cap

-- once the table is loaded, in state s and from line number k on
abbrev pub loaded : System → ℕ → State → ℕ → List Line → List Reply
loaded S cap s k [] = []
loaded S cap s k (Skipped ∷ xs) = loaded S cap s (k + 1) xs
loaded S cap s k (Capacity n ∷ xs) = Unclear k ∷ loaded S cap s (k + 1) xs
loaded S cap s k (Call c ∷ xs) = Answered (answer S cap s c) ∷ loaded S cap (next S cap s c) (k + 1) xs
loaded S cap s k (NotUnderstood ∷ xs) = Unclear k ∷ loaded S cap s (k + 1) xs

-- while the pass is held; the first call loads the table
abbrev pub held : System → ℕ → ℕ → List Line → List Reply
held S cap k [] = []
held S cap k (Skipped ∷ xs) = held S cap (k + 1) xs
held S cap k (Capacity n ∷ xs) = set_reply n ∷ held S (set_to cap n) (k + 1) xs
held S cap k (Call c ∷ xs) = loaded S (min cap 32) (start S) k (Call c ∷ xs)
held S cap k (NotUnderstood ∷ xs) = Unclear k ∷ held S cap (k + 1) xs
