-- The front of a code that has been read. Assumes nothing.
use Rattle.std.proofs.Common.{◌≡◌, ℕ, ◌+◌, ◌*◌, ◌^◌, ◌<◌, ◌≤◌, ◌/◌, ◌%◌, Bool, true, cond, eqb, List, [], ◌∷◌, ◌++◌, length, sym, refl, ap, ◌∙◌, subst, inl, inr, arith}
use lib.Bits.{bit_or}
use Rattle.std.specs.List.{AllByRecursion}
use Rattle.std.proofs.lemmas.Nat.{or_lt, pow_below}
use Rattle.std.proofs.lemmas.List.{length_push}
use Rattle.std.proofs.lemmas.Bool.{eqb-true, ne_eqb, agree_below, agree_below_at}
use Rattle.std.specs.Int.RustNames.{count_ones}
use Rattle.model.specs.Queue.{Waits, Bit}
use Rattle.abstraction.specs.Meaning.{Valid, Good}
use Rattle.model.proofs.Bitwise.{bit_or_lem, or_left, or_right, pow_bit, bit_pow}
use Rattle.abstraction.specs.Distinct.{Apart, Below}
use Rattle.abstraction.proofs.Masks.{no_bit}
use Rattle.abstraction.proofs.Distinct.{waits_append, append_waits, apart_push, all_push}
use Rattle.list_abstraction.specs.List.{pack, list_code}
use Rattle.list_abstraction.specs.Read.{Marks, Seen}
use Rattle.list_abstraction.specs.Meaning.{good_coded}

abbrev pub onto : List ℕ → ℕ → ℕ
onto [] r = r
onto (e ∷ P) r = 16 * onto P r + e + 1

pub record Far (m c rest mask : ℕ) : Type 0 where
  pub front : List ℕ
  pub below : Below m front
  pub apart : Apart front
  pub read : onto front rest ≡ c
  pub low : mask < 2 ^ 8
  pub marks : Marks mask front
  pub long : length front ≡ count_ones mask

onto_zero : (P : List ℕ) → onto P 0 ≡ pack P
onto_zero [] = refl
onto_zero (e ∷ P) = ap (λ (x : ℕ). 16 * x + e + 1) (onto_zero P)

onto_add : (e r : ℕ) (P : List ℕ) → onto (P ++ e ∷ []) r ≡ onto P (16 * r + e + 1)
onto_add e r [] = refl
onto_add e r (f ∷ P) = ap (λ (x : ℕ). 16 * x + f + 1) (onto_add e r P)

onto_split : (m r : ℕ) (P L : List ℕ) → m ≤ 8 → Below m P → Below m L → pack L ≡ onto P r → (R : List ℕ) × Below m R × (L ≡ P ++ R) × (pack R ≡ r)
onto_split m r [] L few b a p = (L, a, refl, p)
onto_split m r (e ∷ P) [] few b a p = absurd (omega arith)
onto_split m r (e ∷ P) (f ∷ L) few b a p =
    let x : f ≡ e = omega (arith, b.0, a.0) in
    let y : pack L ≡ onto P r = omega (arith, b.0, a.0) in
    let (R, c, q, s) = onto_split m r P L few b.1 a.1 y in
    (R, c, ap (λ (z : ℕ). z ∷ L) x ∙ ap (λ (X : List ℕ). e ∷ X) q, s)

all_middle : (P : ℕ → Type 0) (L : List ℕ) (f : ℕ) (R : List ℕ) → AllByRecursion P (L ++ f ∷ R) → P f
all_middle P [] f R a = a.0
all_middle P (e ∷ L) f R a = all_middle P L f R a.1

apart_middle : (P : List ℕ) (f : ℕ) (R : List ℕ) → Apart (P ++ f ∷ R) → Waits f P → ⊥
apart_middle [] f R a h = h
apart_middle (e ∷ P) f R a (inl p) = all_middle (λ (y : ℕ). y ≡ e → ⊥) P f R a.0 p
apart_middle (e ∷ P) f R a (inr h) = apart_middle P f R a.1 h

-- no bits, and a bit more
none_counted : 0 ≡ count_ones 0
unfolding count_ones
none_counted = refl

counts : ℕ → ℕ → Bool
counts mask e = eqb (count_ones (bit_or mask (2 ^ e))) (count_ones mask + cond (eqb (mask / 2 ^ e % 2) 1) 0 1)

one_more : (mask e : ℕ) → mask < 2 ^ 8 → e < 8 → (Bit mask e → ⊥) → count_ones (bit_or mask (2 ^ e)) ≡ count_ones mask + 1
unfolding counts count_ones
one_more mask e low l n =
    eqb-true (count_ones (bit_or mask (2 ^ e))) (count_ones mask + cond (eqb (mask / 2 ^ e % 2) 1) 0 1)
    (agree_below_at (counts mask) (λ _. true) 8 e (agree_below_at (λ (x : ℕ). agree_below (counts x) (λ _. true) 8) (λ _. true) 256 mask refl low) l)
    ∙ ap (λ (b : Bool). count_ones mask + cond b 0 1) (ne_eqb (mask / 2 ^ e % 2) 1 n)

module _ (m c : ℕ) (v : Valid m 32) where
  pub far_start : Far m c c 0
  far_start = record { front = []; below = tt; apart = tt; read = refl; low = omega arith; marks = λ e. (λ b. absurd (no_bit e b), λ h. absurd h); long = none_counted }

  pub far_more : (rest mask e : ℕ) → Far m c (16 * rest + e + 1) mask → e < m → (Bit mask e → ⊥) → Far m c rest (bit_or mask (2 ^ e))
  far_more rest mask e f l n = record {
    front = f.front ++ e ∷ [];
    below = all_push (λ (y : ℕ). y < m) f.front e f.below l;
    apart = apart_push f.front e f.apart (λ h. n ((f.marks e).1 h));
    read = onto_add e rest f.front ∙ f.read;
    low = or_lt 8 mask (2 ^ e) f.low (pow_below e 8 (omega (arith, v.few)));
    marks = λ g. (
      λ b. append_waits g e f.front (elim (bit_or_lem mask (2 ^ e) g b) [ inl i ↦ inl ((f.marks g).0 i) | inr i ↦ inr (bit_pow e g i) ]),
      λ h. elim (waits_append g e f.front h) [ inl i ↦ or_left mask (2 ^ e) g ((f.marks g).1 i) | inr p ↦ or_right mask (2 ^ e) g (subst (Bit (2 ^ e)) (sym p) (pow_bit e)) ],
    );
    long = length_push f.front e ∙ ap (λ (x : ℕ). x + 1) f.long ∙ sym (one_more mask e f.low (omega (arith, v.few)) n);
  }

  pub far_done : (mask : ℕ) → Far m c 0 mask → Seen m c mask
  far_done mask f = record {
    list = f.front;
    low = f.low;
    coded = record { valid = v; below = f.below; apart = f.apart; packed = sym (onto_zero f.front) ∙ f.read };
    marks = f.marks;
    count = f.long;
  }

  -- what stands next in a good code
  pub far_next : (rest mask : ℕ) → Far m c rest mask → Good 32 list_code m c → (rest ≡ 0 → ⊥) → (e : ℕ) × (r : ℕ) × (rest ≡ 16 * r + e + 1) × (e < m) × (Bit mask e → ⊥)
  far_next rest mask f g z =
      let (L, k) = good_coded m c g in
      let (R, b, q, s) = onto_split m rest f.front L v.few f.below k.below (k.packed ∙ sym f.read) in
      go R b s (subst Apart q k.apart)
    where
      go : (R : List ℕ) → Below m R → pack R ≡ rest → Apart (f.front ++ R) → (e : ℕ) × (r : ℕ) × (rest ≡ 16 * r + e + 1) × (e < m) × (Bit mask e → ⊥)
      go [] b s a = absurd (z (sym s))
      go (e ∷ R) b s a = (e, pack R, sym s, b.0, λ h. apart_middle f.front e R a ((f.marks e).0 h))
