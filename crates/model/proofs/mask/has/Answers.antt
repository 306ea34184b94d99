use Rattle.std.proofs.Common.{◌≡◌, ◌/◌, ◌^◌, lt_of_lt_of_le, arith, pow_mono}
use Rattle.std.proofs.Math.Nat.{div-eq_of_lt}
use Rattle.std.proofs.lemmas.Bool.Decides.{nat_tests}
use Rattle.model.proofs.mask.has.Goals as goal

-- a number of 64 bits has none from 64 up
pub returns-else-e-lt64 : goal.returns-else-e-lt64
returns-else-e-lt64 c =
    let z : c.args.mask / 2 ^ c.args.e ≡ 0 = div-eq_of_lt (lt_of_lt_of_le (omega arith) (pow_mono c.if-e-lt64.false)) in
    grind (arith, nat_tests)
