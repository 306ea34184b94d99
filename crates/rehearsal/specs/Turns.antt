-- What one line is replied, and what it leaves. Assumes nothing.
use Rattle.std.specs.Prelude.{ℕ, Some, None, Option}
use Rattle.model.specs.System.{System}
use Rattle.model.specs.State.{State}
use Rattle.controller.specs.Reference.{answer, next}
use Rattle.calls.specs.declared.line.Line.{Line}
use Rattle.calls.specs.declared.line.Line.TheVariants.{Skipped, Capacity, Call, NotUnderstood}
use Rattle.rehearsal.specs.declared.reply.Reply.{Reply}
use Rattle.rehearsal.specs.declared.reply.Reply.TheVariants.{Answered, NotUnderstood as Unclear}
use Rattle.rehearsal.specs.Replies.{set_reply, set_to}

-- while the pass is held
abbrev pub hold_reply : ℕ → Line → Option Reply
hold_reply k Skipped = None
hold_reply k (Capacity n) = Some (set_reply n)
hold_reply k (Call c) = None
hold_reply k NotUnderstood = Some (Unclear k)

abbrev pub hold_capacity : ℕ → Line → ℕ
hold_capacity cap Skipped = cap
hold_capacity cap (Capacity n) = set_to cap n
hold_capacity cap (Call c) = cap
hold_capacity cap NotUnderstood = cap

-- once the table is loaded
abbrev pub make_reply : System → ℕ → State → ℕ → Line → Option Reply
make_reply S cap s k Skipped = None
make_reply S cap s k (Capacity n) = Some (Unclear k)
make_reply S cap s k (Call c) = Some (Answered (answer S cap s c))
make_reply S cap s k NotUnderstood = Some (Unclear k)

abbrev pub make_state : System → ℕ → State → Line → State
make_state S cap s Skipped = s
make_state S cap s (Capacity n) = s
make_state S cap s (Call c) = next S cap s c
make_state S cap s NotUnderstood = s
