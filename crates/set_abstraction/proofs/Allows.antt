-- What the set abstraction allows. Assumes nothing.
use Rattle.std.proofs.Common.{◌≡◌, ℕ, ◌^◌, ◌<◌, Bool, List, [], ◌∷◌, Decides, sym, refl, ap, ◌∙◌, subst, inl, arith}
use lib.Bits.{bit_or}
use Rattle.std.proofs.lemmas.Bool.Decides.{Decides-like}
use Rattle.model.specs.declared.queue.Front.TheVariants.{Any, Event}
use Rattle.model.specs.Queue.{Bit, Covers, Begins}
use Rattle.abstraction.specs.Meaning.{Valid, Allowed}
use Rattle.model.proofs.Masks.{bit_below}
use Rattle.set_abstraction.specs.Set.{set_code}
use Rattle.set_abstraction.specs.Codes.{code_waits, waits_code, queue_of, queue_over, code_queue, with_same}

module _ (m c mask : ℕ) (v : Valid m 8) (l : c < 2 ^ m) where
  -- the mask is part of the code
  part : ((e : ℕ) → Bit mask e → Bit c e) → (Q : List ℕ) → set_code m Q ≡ c → Covers mask Q
  part p Q q e b = code_waits m e Q (subst (λ (x : ℕ). Bit x e) (sym q) (p e b))

  part_back : (Q : List ℕ) → set_code m Q ≡ c → Covers mask Q → (e : ℕ) → Bit mask e → Bit c e
  part_back Q q h e b = subst (λ (x : ℕ). Bit x e) q (waits_code m e Q (h e b))

  pub any_answer : (r : Bool) → Decides r ((e : ℕ) → Bit mask e → Bit c e) → Decides r (Allowed 8 set_code m c Any mask)
  any_answer r d = Decides-like r
      (λ p. record { valid = v; queue = queue_of m c; over = queue_over m m c (omega arith); coded = code_queue m c l; begins = tt; covers = part p (queue_of m c) (code_queue m c l) })
      (λ a. part_back a.queue a.coded a.covers) d

  pub event_answer : (e : ℕ) (r : Bool) → Bit c e → Decides r ((e : ℕ) → Bit mask e → Bit c e) → Decides r (Allowed 8 set_code m c (Event e) mask)
  event_answer e r b d = Decides-like r
      (λ p. record { valid = v; queue = e ∷ queue_of m c; over = (k, queue_over m m c (omega arith)); coded = same; begins = refl; covers = part p (e ∷ queue_of m c) same })
      (λ a. part_back a.queue a.coded a.covers) d
    where
      k : e < m
      k = bit_below m c e l b

      same : set_code m (e ∷ queue_of m c) ≡ c
      same = ap (bit_or (2 ^ e)) (code_queue m c l) ∙ with_same m c e v.few l k b

  pub event_needs : (e : ℕ) → Allowed 8 set_code m c (Event e) mask → Bit c e
  event_needs e a = go a.queue a.coded a.begins
    where
      go : (Q : List ℕ) → set_code m Q ≡ c → Begins (Event e) Q → Bit c e
      go [] p b = absurd b
      go (f ∷ Q) p b = subst (λ (x : ℕ). Bit x e) p (waits_code m e (f ∷ Q) (inl (sym b)))
