-- The digits so far write the number so far.
use Rattle.std.proofs.Common.{◌≡◌, ◌<◌, take}
use Rattle.std.specs.Str.Parse.{AllDigits, digits_value}
use Rattle.calls.proofs.number.U16Written.read.Given as goal

abbrev pub invariant-loop-byte : goal.invariant-loop-byte
invariant-loop-byte l = AllDigits 10 (take l.byte-index l.text) × (digits_value 10 (take l.byte-index l.text) ≡ l.number) × (l.number < 65536)
