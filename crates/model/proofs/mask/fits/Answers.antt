use Rattle.std.proofs.Common.{◌≡◌, ◌/◌, ◌^◌, ◌<◌, lt_of_lt_of_le, arith, pow_mono}
use Rattle.std.proofs.Math.Nat.{div-eq_of_lt}
use Rattle.std.proofs.lemmas.Bool.{le-leb}
use Rattle.std.proofs.lemmas.Bool.Decides.{nat_tests}
use Rattle.model.proofs.Masks.{quotient_zero}
use Rattle.model.proofs.mask.fits.Goals as goal

pub returns-then-m-ge64 : goal.returns-then-m-ge64
returns-then-m-ge64 c = (λ _. lt_of_lt_of_le (omega arith) (pow_mono c.if-m-ge64.true), λ _. le-leb 64 c.args.m c.if-m-ge64.true)

pub returns-else-m-ge64 : goal.returns-else-m-ge64
returns-else-m-ge64 c =
    let below : c.args.mask / 2 ^ c.args.m ≡ 0 → c.args.mask < 2 ^ c.args.m = quotient_zero c.args.mask c.args.m in
    let nothing : c.args.mask < 2 ^ c.args.m → c.args.mask / 2 ^ c.args.m ≡ 0 = λ l. div-eq_of_lt l in
    grind (arith, nat_tests)
