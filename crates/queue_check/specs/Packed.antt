-- A verdict as one number. Assumes nothing.
use Rattle.std.specs.Prelude.{◌≡◌, ℕ, ◌+◌, ◌*◌, ◌^◌, ◌<◌, List, IfErr, Ok, Err, Result}
use Rattle.model.specs.declared.fault.Fault.{Fault}
use Rattle.model.specs.Numbers.{number_of}
use Rattle.closed_sets.specs.Records.{Claim}
use Rattle.checker.specs.declared.pass.Pass.{Pass}
use Rattle.checker.specs.Promise.{Checked}

-- the number of the refusal in eight bits, A in the next twenty-four, B in sixteen and C in the last sixteen
abbrev pub packed : Fault → ℕ
packed f = number_of f.number + 2 ^ 8 * f.a + 2 ^ 32 * f.b + 2 ^ 48 * f.c

-- every value of the fault fits its place
pub record Fits (f : Fault) : Type 0 where
  pub a : f.a < 2 ^ 24
  pub b : f.b < 2 ^ 16
  pub c : f.c < 2 ^ 16

abbrev pub verdict : Result Pass Fault → ℕ
verdict (Ok p) = 0
verdict (Err f) = packed f

-- v is the verdict of the check, and nothing is lost in it
pub record Answers (table set : List ℕ) (T : Claim) (v : ℕ) : Type 0 where
  pub result : Result Pass Fault
  pub checked : Checked table set T result
  pub is : v ≡ verdict result
  pub fits : IfErr result Fits
