use Rattle.std.proofs.Common.{ℕ, ◌^◌, ◌<◌, subst, inl, inr, arith}
use lib.Bits.{bit_or}
use Rattle.std.proofs.lemmas.Nat.{or_lt}
use Rattle.std.proofs.lemmas.Bool.Decides.{Decides-like, Decides-eqb}
use Rattle.model.specs.Queue.{Bit}
use Rattle.model.proofs.Bitwise.{bit_or_lem, or_left, or_right, bits_ext}
use Rattle.model.proofs.mask.within.Goals as goal

pub returns : goal.returns
returns c =
    let a = c.args.mask in
    let b = c.args.held in
    let low : b < 2 ^ 8 = omega arith in
    Decides-like _
    (λ p e h. subst (λ (x : ℕ). Bit x e) p (or_left a b e h))
    (λ f. bits_ext 8 (bit_or a b) b (or_lt 8 a b (omega arith) low) low (λ e h. elim (bit_or_lem a b e h) [ inl i ↦ f e i | inr i ↦ i ]) (λ e h. or_right a b e h))
    (Decides-eqb (bit_or a b) b)
