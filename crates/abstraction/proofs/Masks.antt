-- Masks and queues. Assumes nothing.
use Rattle.std.proofs.Common.{◌≡◌, ℕ, zero, suc, Bool, Decides, ◌+◌, ◌/◌, ◌%◌, ◌^◌, ◌<◌, ◌≤◌, List, [], ◌∷◌, ap, subst, inl, inr, add-zero, arith}
use Rattle.std.specs.List.{range_with_len}
use Rattle.std.proofs.lemmas.Nat.{shr_below}
use Rattle.std.proofs.lemmas.Nat.Bits.{bit_at-zero}
use Rattle.std.proofs.lemmas.Bool.{cases_lt}
use Rattle.std.proofs.lemmas.Bool.Decides.{Decides-at, Decides-eqb}
use Rattle.model.specs.Queue.{Over, Waits, Bit, present, Covers}
use Rattle.model.proofs.Masks.{quotient_zero}

-- an event that stands in a queue over m events is below m
pub waits_below : (m e : ℕ) (Q : List ℕ) → Over m Q → Waits e Q → e < m
waits_below m e [] o h = absurd h
waits_below m e (f ∷ Q) o (inl p) = omega (arith, o.0)
waits_below m e (f ∷ Q) o (inr h) = waits_below m e Q o.1 h

-- a number whose bits are below m is below 2 ^ m
pub below_bits : (n m mask : ℕ) → mask < 2 ^ (m + n) → ((e : ℕ) → Bit mask e → e < m) → mask < 2 ^ m
below_bits zero m mask h f = rw add-zero at h
below_bits (suc n) m mask h f = below_bits n m mask less f
  where
    high : mask / 2 ^ (m + n) < 2
    high = shr_below mask 1 (m + n) (subst (λ (k : ℕ). mask < 2 ^ k) (omega arith) h)

    less : mask < 2 ^ (m + n)
    less = elim (cases_lt 0 (mask / 2 ^ (m + n))) [
      | inl l ↦ (let o : mask / 2 ^ (m + n) ≡ 1 = omega (arith, high) in absurd (omega (arith, f (m + n) (ap (λ (x : ℕ). x % 2) o))))
      | inr l ↦ quotient_zero mask (m + n) (omega arith)
    ]

-- the queue of the events a, a + 1, .. holds each of them
pub counting_waits : (a n e : ℕ) → a ≤ e → e < a + n → Waits e (range_with_len a n)
counting_waits a zero e l h = absurd (omega arith)
counting_waits a (suc n) e l h = elim (cases_lt a e) [ inl g ↦ inr (counting_waits (a + 1) n e (omega arith) (omega arith)) | inr g ↦ inl (omega arith) ]

pub counting_over : (m a n : ℕ) → a + n ≤ m → Over m (range_with_len a n)
counting_over m a zero h = tt
counting_over m a (suc n) h = (omega arith, counting_over m (a + 1) n (omega arith))

-- 0 has no bits, so it asks nothing as a mask
pub no_bit : (e : ℕ) → Bit 0 e → ⊥
no_bit e b = omega (arith, b, bit_at-zero e)

pub covers_zero : (Q : List ℕ) → Covers 0 Q
covers_zero Q e b = absurd (no_bit e b)

-- what the test of a bit tells, where the mask was cast for it
pub tells_bit : (mask e : ℕ) {cast : ℕ} {r : Bool} → r ≡ present cast e → cast ≡ mask → Decides r (Bit mask e)
tells_bit mask e {cast = cast} {r = r} h p = subst (λ (x : ℕ). Decides r (Bit x e)) p (Decides-at _ _ h (Decides-eqb (cast / 2 ^ e % 2) 1))
