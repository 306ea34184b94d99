-- The numbers of the refusals, and the line that says one. Assumes nothing.
use Rattle.std.specs.Prelude.{ℕ, List, ◌++◌, codes, decimal}
use Rattle.model.specs.declared.fault.Refusal.{Refusal}
use Rattle.model.specs.declared.fault.Refusal.TheVariants.{TableLength, TableHeader, TableLine, SetLength, SetHeader, RecordParts, RecordOrder, StartAbsent, Surprise, PatternMet, StepOutside, Capacity, NoRule, OtherState, QueueEmpty, OtherFront, QueueFull, NoMachine}
use Rattle.model.specs.declared.fault.Fault.{Fault}

abbrev pub number_of : Refusal → ℕ
number_of TableLength = 1
number_of TableHeader = 2
number_of TableLine = 3
number_of SetLength = 4
number_of SetHeader = 5
number_of RecordParts = 6
number_of RecordOrder = 7
number_of StartAbsent = 8
number_of Surprise = 9
number_of PatternMet = 10
number_of StepOutside = 11
number_of Capacity = 12
number_of NoRule = 13
number_of OtherState = 14
number_of QueueEmpty = 15
number_of OtherFront = 16
number_of QueueFull = 17
number_of NoMachine = 18

-- `refused`, the number, and the three values
abbrev pub line : Fault → List ℕ
line f = codes "refused " ++ (decimal (number_of f.number) ++ (codes " " ++ (decimal f.a ++ (codes " " ++ (decimal f.b ++ (codes " " ++ decimal f.c))))))
