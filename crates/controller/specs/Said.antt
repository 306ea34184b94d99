-- The line that says an answer. Assumes nothing.
use Rattle.std.specs.Prelude.{ℕ, List, ◌++◌, Some, None, codes, decimal, Option}
use Rattle.controller.specs.declared.call.Answer.{Answer}
use Rattle.controller.specs.declared.call.Answer.TheVariants.{Accepted, Reset, Seen}
use Rattle.controller.specs.declared.call.Sight.{Sight}

-- an event, or `none`
abbrev pub event_said : Option ℕ → List ℕ
event_said (Some e) = decimal e
event_said None = codes "none"

-- `local`, `waiting` and `event`, each with its number
abbrev pub seen : Sight → List ℕ
seen s = codes "local " ++ (decimal s.local ++ (codes " waiting " ++ (decimal s.waiting ++ (codes " event " ++ event_said s.event))))

abbrev pub said : Answer → List ℕ
said Accepted = codes "accepted"
said Reset = codes "reset"
said (Seen s) = seen s
