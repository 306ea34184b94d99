use Rattle.std.proofs.Common.{◌≡◌, ℕ, ◌+◌, List, get_or, take, subst, arith, rules}
use Rattle.std.specs.Str.Parse.{AllDigits, digits_value}
use Rattle.std.proofs.lemmas.Int.Digits.{digits_value_more, digits_more}
use Rattle.std.proofs.lemmas.List.{take_all}
use Rattle.std.proofs.lemmas.Str.{digit_value_digit}
use Rattle.std.proofs.lemmas.Str.Parse.{digit_at, digits_value-take-le}
use Rattle.calls.proofs.number.U16Written.read.Goals as goal

pub returns-in_err-number : goal.returns-in_err-number
returns-in_err-number c =
    let t = c.args.text.now in
    let i = c.loop-byte.byte-index in
    let more = digits_value_more 10 t i c.loop-byte-test.true in
    let front = digits_value-take-le 10 t (i + 1) (omega arith) in
    rw c.from_residual-in_err-number.ensures (λ n w. let digit = digit_at t i w.digits.1 c.loop-byte-test.true in
    c.in_err-number.ensures (digits_value 10 (take (i + 1) t)) (omega (arith, digit_value_digit (get_or t i 0)), omega (arith, c.loop-byte.invariant.1), omega arith))

pub loop-byte-preserved : goal.loop-byte-preserved
loop-byte-preserved c = grind (arith, digits_more, digits_value_more)

pub returns : goal.returns
returns c =
    let e = take_all c.loop-byte.byte-index c.args.text.now (omega arith) in
    let P : List ℕ → Type 0 = λ l. AllDigits 10 l × (digits_value 10 l ≡ c.loop-byte.number) in
    let p = subst P e (c.loop-byte.invariant.0, c.loop-byte.invariant.1) in
    record { digits = (search rules, p.0); is = p.1; small = c.loop-byte.invariant.2 }
