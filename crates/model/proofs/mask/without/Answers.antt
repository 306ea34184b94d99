use Rattle.std.proofs.Common.{◌≡◌, ℕ, ◌-◌, ◌<◌, sym, ap, ◌∙◌, subst, inl, inr, arith}
use lib.Bits.{bit_and}
use Rattle.std.proofs.lemmas.Bool.{cases_lt}
use Rattle.std.proofs.lemmas.Nat.{and_mask}
use Rattle.model.specs.Queue.{Bit}
use Rattle.model.proofs.Masks.{bit_below}
use Rattle.model.proofs.Bitwise.{bit_out}
use Rattle.model.proofs.mask.without.Goals as goal

abbrev Out : ℕ → ℕ → ℕ → Type 0
Out mask e r = (f : ℕ) → (Bit r f → (f ≡ e → ⊥) × Bit mask f) × (Bit mask f → (f ≡ e → ⊥) → Bit r f)

pub returns-clause-bits : goal.returns-clause-bits
returns-clause-bits c =
    let mask = c.args.mask in
    let low : mask < 256 = omega arith in
    elim (cases_lt c.args.e 8) [
      | inl l ↦ subst (λ (x : ℕ). Out mask c.args.e (bit_and mask (255 - x))) (sym (c.bit.ensures.event l)) (λ f. bit_out mask c.args.e f low l)
      | inr l ↦ (let same : bit_and mask (255 - c.bit.result) ≡ mask = ap (λ (x : ℕ). bit_and mask (255 - x)) (c.bit.ensures.nothing l) ∙ and_mask mask 8 ∙ omega arith in
          subst (Out mask c.args.e) (sym same) (λ f. (λ b. (λ p. omega (arith, bit_below 8 mask f low b), b), λ b n. b)))
    ]
