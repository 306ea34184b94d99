-- The bits of masks. Assumes nothing.
use Rattle.std.proofs.Common.{◌≡◌, ℕ, ◌-◌, ◌*◌, ◌%◌, ◌^◌, ◌<◌, ◌⊎◌, sym, ap, ◌∙◌, inl, inr, lt_of_le_of_lt, arith, w8}
use lib.Bits.{bit_and, bit_or, and_le_l}
use Rattle.std.specs.Int.{bit_at, bit_not}
use Rattle.std.proofs.lemmas.Bool.{cases_eq}
use Rattle.std.proofs.lemmas.Nat.{one_shl}
use Rattle.std.proofs.lemmas.Nat.Bits.{bit_at_or, bit_at-lt, bit_at-pow_same, bit_at-pow_other, bit_at_clear_same, bit_at_clear_other, same_from_bits_below}
use Rattle.model.specs.Queue.{Bit}
use Rattle.model.proofs.Masks.{bit_below}

-- the bits of a byte with one bit out
pub bit_out : (mask e f : ℕ) → mask < 256 → e < 8 → (Bit (bit_and mask (255 - 2 ^ e)) f → (f ≡ e → ⊥) × Bit mask f) × (Bit mask f → (f ≡ e → ⊥) → Bit (bit_and mask (255 - 2 ^ e)) f)
bit_out mask e f low le = (to, from)
  where
    cleared : bit_at (bit_and mask (255 - 2 ^ e)) f ≡ bit_at (bit_and mask (bit_not w8 (1 * 2 ^ e % 2 ^ 8))) f
    cleared = ap (λ (x : ℕ). bit_at (bit_and mask (255 - x)) f) (sym (one_shl e 8 le))

    to : Bit (bit_and mask (255 - 2 ^ e)) f → (f ≡ e → ⊥) × Bit mask f
    to b =
        let lf : f < 8 = bit_below 8 (bit_and mask (255 - 2 ^ e)) f (lt_of_le_of_lt (and_le_l mask (255 - 2 ^ e)) low) b in
        let gone : f ≡ e → ⊥ = (λ eq. omega (arith, b, cleared ∙ ap (bit_at (bit_and mask (bit_not w8 (1 * 2 ^ e % 2 ^ 8)))) eq ∙ bit_at_clear_same w8 mask e le)) in
        (gone, sym (cleared ∙ bit_at_clear_other w8 mask e le f lf gone) ∙ b)

    from : Bit mask f → (f ≡ e → ⊥) → Bit (bit_and mask (255 - 2 ^ e)) f
    from b ne = cleared ∙ bit_at_clear_other w8 mask e le f (bit_below 8 mask f low b) ne ∙ b

-- the bits of a disjunction
pub bit_or_lem : (a b f : ℕ) → Bit (bit_or a b) f → Bit a f ⊎ Bit b f
bit_or_lem a b f h = elim (cases_eq (bit_at a f) 1) [ inl e ↦ inl e | inr e ↦ inr (omega (arith, e, h, bit_at_or a b f, bit_at-lt a f, bit_at-lt b f)) ]

pub or_left : (a b f : ℕ) → Bit a f → Bit (bit_or a b) f
or_left a b f h = omega (arith, h, bit_at_or a b f, bit_at-lt b f)

pub or_right : (a b f : ℕ) → Bit b f → Bit (bit_or a b) f
or_right a b f h = omega (arith, h, bit_at_or a b f, bit_at-lt a f)

-- the one bit of a power
pub pow_bit : (e : ℕ) → Bit (2 ^ e) e
pow_bit = bit_at-pow_same

pub bit_pow : (e f : ℕ) → Bit (2 ^ e) f → f ≡ e
bit_pow e f b = elim (cases_eq f e) [ inl q ↦ q | inr ne ↦ absurd (omega (arith, b, bit_at-pow_other e f ne)) ]

-- numbers with the same bits are the same
pub bits_ext : (n a b : ℕ) → a < 2 ^ n → b < 2 ^ n → ((e : ℕ) → Bit a e → Bit b e) → ((e : ℕ) → Bit b e → Bit a e) → a ≡ b
bits_ext n a b l k f g = same_from_bits_below n a b l k (λ e _. same (bit_at a e) (bit_at b e) (bit_at-lt a e) (bit_at-lt b e) (f e) (g e))
  where
    same : (x y : ℕ) → x < 2 → y < 2 → (x ≡ 1 → y ≡ 1) → (y ≡ 1 → x ≡ 1) → x ≡ y
    same x y lx ly t u = elim (cases_eq x 1) [ inl e ↦ e ∙ sym (t e) | inr e ↦ (elim (cases_eq y 1) [ inl d ↦ absurd (e (u d)) | inr d ↦ omega arith ]) ]
