-- What the blank abstraction allows. Assumes nothing.
use Rattle.std.proofs.Common.{◌≡◌, ℕ, ◌+◌, ◌-◌, ◌^◌, ◌<◌, Bool, List, ◌∷◌, Decides, sym, refl, subst, inr, arith}
use Rattle.std.specs.List.{range_with_len}
use Rattle.model.specs.declared.queue.Front.{Front}
use Rattle.model.specs.declared.queue.Front.TheVariants.{Any, Event}
use Rattle.model.specs.Queue.{Over, Covers}
use Rattle.abstraction.specs.Meaning.{Valid, Allowed}
use Rattle.blank_abstraction.specs.Blank.{blank_code}
use Rattle.model.proofs.Masks.{bit_below}
use Rattle.abstraction.proofs.Masks.{waits_below, below_bits, counting_waits, counting_over}

abbrev Free : ℕ → ℕ → Front → ℕ → Type 0
Free m c front mask = Allowed 0 blank_code m c front mask

module _ (m c mask : ℕ) (v : Valid m 0) (z : 0 ≡ c) (low : mask < 256) where
  covered : (Q : List ℕ) → Over m Q → Covers mask Q → mask < 2 ^ m
  covered Q o h =
      let p : m + (8 - m) ≡ 8 = omega arith in
      below_bits (8 - m) m mask (subst (λ (k : ℕ). mask < 2 ^ k) (sym p) low) (λ e b. waits_below m e Q o (h e b))

  all : mask < 2 ^ m → Covers mask (range_with_len 0 m)
  all h e b = counting_waits 0 m e (omega arith) (omega (arith, bit_below m mask e h b))

  pub any_answer : (r : Bool) → Decides r (mask < 2 ^ m) → Decides r (Free m c Any mask)
  any_answer r d = (
    λ t. record { valid = v; queue = range_with_len 0 m; over = counting_over m 0 m (omega arith); coded = z; begins = tt; covers = all (d.0 t) },
    λ a. d.1 (covered a.queue a.over a.covers),
  )

  pub event_answer : (e : ℕ) (r : Bool) → e < m → Decides r (mask < 2 ^ m) → Decides r (Free m c (Event e) mask)
  event_answer e r l d = (
    λ t. record { valid = v; queue = e ∷ range_with_len 0 m; over = (l, counting_over m 0 m (omega arith)); coded = z; begins = refl; covers = λ f b. inr (all (d.0 t) f b) },
    λ a. d.1 (covered a.queue a.over a.covers),
  )
