-- Masks as numbers. Assumes nothing.
use Rattle.std.proofs.Common.{◌≡◌, ℕ, ◌*◌, ◌/◌, ◌^◌, ◌<◌, inl, inr, arith}
use Rattle.std.proofs.lemmas.Nat.{pow_pos}
use Rattle.std.proofs.lemmas.Nat.Bits.{bit_at_above}
use Rattle.std.proofs.lemmas.Bool.{cases_lt}
use Rattle.std.proofs.Math.Nat.{div-lt_iff_lt-mul}
use Rattle.model.specs.Queue.{Bit}

pub quotient_zero : (n m : ℕ) → n / 2 ^ m ≡ 0 → n < 2 ^ m
quotient_zero n m z =
    let l : n < 1 * 2 ^ m = (div-lt_iff_lt-mul (pow_pos m)).0 (omega arith) in
    omega arith

-- a number below 2 ^ m has its bits below m
pub bit_below : (m mask e : ℕ) → mask < 2 ^ m → Bit mask e → e < m
bit_below m mask e h b = elim (cases_lt e m) [ inl l ↦ l | inr l ↦ absurd (omega (arith, b, bit_at_above mask m e h l)) ]
