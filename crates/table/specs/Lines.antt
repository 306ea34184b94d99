-- What the lines of a table file stand for. Assumes nothing.
use Rattle.std.specs.Prelude.{ℕ, ◌+◌, cond, List, Some, None, Option, ◌==◌}
use Rattle.model.specs.declared.queue.Front.{Front}
use Rattle.model.specs.declared.queue.Front.TheVariants.{Any, Empty, Event}
use Rattle.model.specs.declared.rule.Action.{Action}
use Rattle.model.specs.declared.rule.Action.TheVariants.{Local, Take, Send}
use Rattle.model.specs.declared.rule.Rule.{Rule}
use Rattle.model.specs.declared.pattern.Condition.{Condition}
use Rattle.table.specs.declared.line.PatternLine.{PatternLine}
use Rattle.table.specs.Bytes.{byte_at}

-- kind, event, target
abbrev pub action_of : ℕ → ℕ → ℕ → Action
action_of k e d = cond (k == 0) Local (cond (k == 1) (Take e) (Send e d))

-- six bytes: kind, machine, from, to, event, target
abbrev pub rule_at : List ℕ → ℕ → Rule
rule_at bs o = record {
  machine = byte_at bs (o + 1);
  from = byte_at bs (o + 2);
  to = byte_at bs (o + 3);
  action = action_of (byte_at bs o) (byte_at bs (o + 4)) (byte_at bs (o + 5));
}

-- 255: any local state
abbrev pub local_of : ℕ → Option ℕ
local_of l = cond (l == 255) None (Some l)

-- 255: any front; 254: an empty queue
abbrev pub front_of : ℕ → Front
front_of f = cond (f == 255) Any (cond (f == 254) Empty (Event f))

-- after the pattern's number: machine, local state, front, mask
abbrev pub condition_at : List ℕ → ℕ → Condition
condition_at bs o = record {
  machine = byte_at bs (o + 1);
  local = local_of (byte_at bs (o + 2));
  front = front_of (byte_at bs (o + 3));
  mask = byte_at bs (o + 4);
}

abbrev pub pattern_line_at : List ℕ → ℕ → PatternLine
pattern_line_at bs o = record { number = byte_at bs o; condition = condition_at bs o }
