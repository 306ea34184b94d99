-- The codes of the set abstraction. Assumes nothing.
use Rattle.std.specs.Prelude.{◌≡◌, ℕ, zero, suc, ◌-◌, ◌/◌, ◌%◌, ◌^◌, ◌<◌, ◌≤◌, Bool, true, false, cond, ◌⊎◌, List, [], ◌∷◌, ◌++◌, ◌≢◌, refl}
use Rattle.std.proofs.Common.{sym, subst, inl, inr, lt_of_lt_of_le, lt_of_le_of_lt, arith, pow_mono}
use Rattle.std.specs.Int.Bits.{bit_or}
use Rattle.std.proofs.lemmas.Nat.{or_lt, pow_pos, pow_below, and_le_l}
use Rattle.std.proofs.lemmas.Bool.{cases_Bool, eqb-true, eqb-false, cases_eq}
use Rattle.model.specs.Queue.{Over, Waits, Bit, present}
use Rattle.abstraction.specs.Meaning.{Valid, Good}
use Rattle.model.proofs.States.{over_back}
use Rattle.model.proofs.Masks.{bit_below}
use Rattle.abstraction.proofs.Masks.{no_bit}
use Rattle.model.proofs.Bitwise.{bit_or_lem, or_left, or_right, pow_bit, bit_pow, bits_ext, bit_out}
use Rattle.abstraction.proofs.Distinct.{waits_append, append_waits}
use Rattle.set_abstraction.specs.Set.{set_code, absent}

pub code_waits : (m e : ℕ) (Q : List ℕ) → Bit (set_code m Q) e → Waits e Q
code_waits m e [] b = no_bit e b
code_waits m e (f ∷ Q) b = elim (bit_or_lem (2 ^ f) (set_code m Q) e b) [ inl h ↦ inl (bit_pow f e h) | inr h ↦ inr (code_waits m e Q h) ]

pub waits_code : (m e : ℕ) (Q : List ℕ) → Waits e Q → Bit (set_code m Q) e
waits_code m e [] h = absurd h
waits_code m e (f ∷ Q) (inl p) = or_left (2 ^ f) (set_code m Q) e (subst (Bit (2 ^ f)) (sym p) (pow_bit f))
waits_code m e (f ∷ Q) (inr h) = or_right (2 ^ f) (set_code m Q) e (waits_code m e Q h)

pub code_below : (m : ℕ) (Q : List ℕ) → Over m Q → set_code m Q < 2 ^ m
code_below m [] o = pow_pos m
code_below m (e ∷ Q) o = or_lt m (2 ^ e) (set_code m Q) (pow_below e m o.0) (code_below m Q o.1)

-- the events of a mask, those below n
pub queue_of : ℕ → ℕ → List ℕ
queue_of zero c = []
queue_of (suc n) c = cond (present c n) (n ∷ queue_of n c) (queue_of n c)

pub queue_over : (m n c : ℕ) → n ≤ m → Over m (queue_of n c)
unfolding queue_of
queue_over m zero c l = tt
queue_over m (suc n) c l = elim (present c n) as (λ b. Over m (cond b (n ∷ queue_of n c) (queue_of n c))) [ true ↦ (omega arith, queue_over m n c (omega arith)) | false ↦ queue_over m n c (omega arith) ]

queue_bit : (n c e : ℕ) → Waits e (queue_of n c) → Bit c e
unfolding queue_of
queue_bit zero c e h = absurd h
queue_bit (suc n) c e h = go (queue_bit n c e) (present c n) refl h
  where
    go : (Waits e (queue_of n c) → Bit c e) → (b : Bool) → present c n ≡ b → Waits e (cond b (n ∷ queue_of n c) (queue_of n c)) → Bit c e
    go ih true t (inl p) = subst (Bit c) (sym p) (eqb-true (c / 2 ^ n % 2) 1 t)
    go ih true t (inr h) = ih h
    go ih false t h = ih h

bit_queue : (n c e : ℕ) → e < n → Bit c e → Waits e (queue_of n c)
unfolding queue_of
bit_queue zero c e l b = absurd (omega arith)
bit_queue (suc n) c e l b = go (λ h. bit_queue n c e h b) (present c n) refl
  where
    go : (e < n → Waits e (queue_of n c)) → (t : Bool) → present c n ≡ t → Waits e (cond t (n ∷ queue_of n c) (queue_of n c))
    go ih true t = elim (cases_eq e n) [ inl p ↦ inl p | inr p ↦ inr (ih (omega arith)) ]
    go ih false t = elim (cases_eq e n) [ inl p ↦ absurd (eqb-false (c / 2 ^ n % 2) 1 t (subst (Bit c) p b)) | inr p ↦ ih (omega arith) ]

pub code_queue : (m c : ℕ) → c < 2 ^ m → set_code m (queue_of m c) ≡ c
code_queue m c l =
    bits_ext m (set_code m (queue_of m c)) c (code_below m (queue_of m c) (queue_over m m c (omega arith))) l
    (λ e b. queue_bit m c e (code_waits m e (queue_of m c) b))
    (λ e b. waits_code m e (queue_of m c) (bit_queue m c e (bit_below m c e l b) b))

pub good_set : (m c : ℕ) → Valid m 8 → c < 2 ^ m → Good 8 set_code m c
good_set m c v l = record { valid = v; queue = queue_of m c; over = queue_over m m c (omega arith); coded = code_queue m c l }

pub set_good_below : (m c : ℕ) → Good 8 set_code m c → c < 2 ^ m
set_good_below m c g = subst (λ (x : ℕ). x < 2 ^ m) g.coded (code_below m g.queue g.over)

-- a good code is a byte
pub good_byte : (m c : ℕ) → Good 8 set_code m c → c < 256
good_byte m c g = lt_of_lt_of_le (set_good_below m c g) (pow_mono g.valid.few)

pub code_append : (m e : ℕ) (Q : List ℕ) → Over m Q → e < m → set_code m (Q ++ e ∷ []) ≡ bit_or (set_code m Q) (2 ^ e)
code_append m e Q o l =
    bits_ext m (set_code m (Q ++ e ∷ [])) (bit_or (set_code m Q) (2 ^ e)) (code_below m (Q ++ e ∷ []) (over_back m e Q l o)) (or_lt m (set_code m Q) (2 ^ e) (code_below m Q o) (pow_below e m l))
    (λ f b. elim (waits_append f e Q (code_waits m f (Q ++ e ∷ []) b)) [
      | inl h ↦ or_left (set_code m Q) (2 ^ e) f (waits_code m f Q h)
      | inr p ↦ or_right (set_code m Q) (2 ^ e) f (subst (Bit (2 ^ e)) (sym p) (pow_bit e))
    ])
    (λ f b. waits_code m f (Q ++ e ∷ []) (append_waits f e Q (elim (bit_or_lem (set_code m Q) (2 ^ e) f b) [ inl h ↦ inl (code_waits m f Q h) | inr h ↦ inr (bit_pow e f h) ])))

-- what is left with and without the event
module _ (m c e : ℕ) (few : m ≤ 8) (l : c < 2 ^ m) (le : e < m) where
  byte : c < 256
  byte = lt_of_lt_of_le l (pow_mono few)

  pub absent_below : absent c e < 2 ^ m
  absent_below = lt_of_le_of_lt (and_le_l c (255 - 2 ^ e)) l

  out : (f : ℕ) → (Bit (absent c e) f → (f ≢ e) × Bit c f) × (Bit c f → (f ≢ e) → Bit (absent c e) f)
  out f = bit_out c e f byte (omega arith)

  -- only this number has these bits
  pub absent_only : (r : ℕ) → r < 256 → ((f : ℕ) → (Bit r f → (f ≢ e) × Bit c f) × (Bit c f → (f ≢ e) → Bit r f)) → r ≡ absent c e
  absent_only r k h =
      bits_ext 8 r (absent c e) k (lt_of_lt_of_le absent_below (pow_mono few))
      (λ f b. (out f).1 ((h f).0 b).1 ((h f).0 b).0)
      (λ f b. (h f).1 ((out f).0 b).1 ((out f).0 b).0)

  pub with_absent : Bit c e → bit_or (2 ^ e) (absent c e) ≡ c
  with_absent b =
      bits_ext m (bit_or (2 ^ e) (absent c e)) c (or_lt m (2 ^ e) (absent c e) (pow_below e m le) absent_below) l
      (λ f h. elim (bit_or_lem (2 ^ e) (absent c e) f h) [ inl p ↦ subst (Bit c) (sym (bit_pow e f p)) b | inr p ↦ ((out f).0 p).1 ])
      (λ f h. elim (cases_eq f e) [ inl p ↦ or_left (2 ^ e) (absent c e) f (subst (Bit (2 ^ e)) (sym p) (pow_bit e)) | inr p ↦ or_right (2 ^ e) (absent c e) f ((out f).1 h p) ])

  pub with_same : Bit c e → bit_or (2 ^ e) c ≡ c
  with_same b =
      bits_ext m (bit_or (2 ^ e) c) c (or_lt m (2 ^ e) c (pow_below e m le) l) l
      (λ f h. elim (bit_or_lem (2 ^ e) c f h) [ inl p ↦ subst (Bit c) (sym (bit_pow e f p)) b | inr p ↦ p ])
      (λ f h. or_right (2 ^ e) c f h)

  pub absent_apart : Bit c e → absent c e ≢ c
  absent_apart b p = ((out e).0 (subst (λ (x : ℕ). Bit x e) (sym p) b)).0 refl

  -- what a queue's code was before the event was put in front
  pub before_put : (d : ℕ) → d < 2 ^ m → bit_or (2 ^ e) d ≡ c → (d ≡ absent c e) ⊎ (d ≡ c)
  before_put d k p = elim (cases_Bool (present d e)) [ inl t ↦ inr (same t) | inr t ↦ inl (gone t) ]
    where
      up : (f : ℕ) → Bit d f → Bit c f
      up f h = subst (λ (x : ℕ). Bit x f) p (or_right (2 ^ e) d f h)

      down : (f : ℕ) → Bit c f → (f ≡ e) ⊎ Bit d f
      down f h = elim (bit_or_lem (2 ^ e) d f (subst (λ (x : ℕ). Bit x f) (sym p) h)) [ inl q ↦ inl (bit_pow e f q) | inr q ↦ inr q ]

      same : present d e ≡ true → d ≡ c
      same t = bits_ext m d c k l up (λ f h. elim (down f h) [ inl q ↦ subst (Bit d) (sym q) (eqb-true (d / 2 ^ e % 2) 1 t) | inr q ↦ q ])

      gone : present d e ≡ false → d ≡ absent c e
      gone t =
          bits_ext m d (absent c e) k absent_below
          (λ f h. (out f).1 (up f h) (λ q. eqb-false (d / 2 ^ e % 2) 1 t (subst (Bit d) q h)))
          (λ f h. elim (down f ((out f).0 h).1) [ inl q ↦ absurd (((out f).0 h).0 q) | inr q ↦ q ])
