-- The line that says a reply. Assumes nothing.
use Rattle.std.specs.Prelude.{ℕ, List, ◌++◌, codes, decimal, Ok, Err}
use Rattle.model.specs.Numbers.{line}
use Rattle.controller.specs.Said.{said as answer_said}
use Rattle.rehearsal.specs.declared.reply.Reply.{Reply}
use Rattle.rehearsal.specs.declared.reply.Reply.TheVariants.{Capacity, Answered, NotUnderstood}

abbrev pub said : Reply → List ℕ
said (Capacity (Ok n)) = codes "capacity " ++ decimal n
said (Capacity (Err f)) = line f
said (Answered (Ok a)) = answer_said a
said (Answered (Err f)) = line f
said (NotUnderstood k) = codes "line " ++ (decimal k ++ codes ": not understood")
