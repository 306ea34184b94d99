-- What the calls of every abstraction answer, from its meaning. Assumes nothing.
use Rattle.std.proofs.Common.{◌≡◌, ℕ, ◌^◌, ◌<◌, Bool, List, [], ◌∷◌, None, Decides, sym, subst, arith}
use Rattle.std.specs.List.{slice_get}
use Rattle.std.proofs.lemmas.Bool.Decides.{Decides-like}
use Rattle.model.specs.declared.queue.Front.{Front}
use Rattle.model.specs.declared.queue.Front.TheVariants.{Empty}
use Rattle.model.specs.Queue.{Begins, Covers}
use Rattle.abstraction.specs.Meaning.{Valid, Good, Allowed, Meaning}
use Rattle.abstraction.proofs.Nth.{nothing}
use Rattle.abstraction.proofs.Masks.{below_bits, covers_zero}

-- the empty queue holds the empty mask alone
pub covers_none : (mask : ℕ) → mask < 256 → Covers mask [] → mask ≡ 0
covers_none mask low h = let l : mask < 2 ^ 0 = below_bits 8 0 mask low (λ e x. absurd (h e x)) in omega arith

-- where the empty queue has the code, the front is empty with the empty mask alone
pub empty_allows : (w : ℕ) (code : ℕ → List ℕ → ℕ) (m c mask : ℕ) → Valid m w → code m [] ≡ c → mask < 256 → (r : Bool) → Decides r (mask ≡ 0) → Decides r (Allowed w code m c Empty mask)
empty_allows w code m c mask v z low r d = Decides-like r
    (λ p. record { valid = v; queue = []; over = tt; coded = z; begins = tt; covers = subst (λ (x : ℕ). Covers x []) (sym p) (covers_zero []) })
    (λ a. none a.queue a.begins a.covers) d
  where
    none : (Q : List ℕ) → Begins Empty Q → Covers mask Q → mask ≡ 0
    none [] b h = covers_none mask low h
    none (e ∷ Q) b h = absurd b

-- an answer for a front is one for whatever that front is
pub at_front : {w : ℕ} {code : ℕ → List ℕ → ℕ} {m c mask : ℕ} {f g : Front} {r : Bool} → f ≡ g → Decides r (Allowed w code m c g mask) → Decides r (Allowed w code m c f mask)
at_front {w = w} {code = code} {m = m} {c = c} {mask = mask} {r = r} p d = subst (λ (x : Front). Decides r (Allowed w code m c x mask)) (sym p) d

-- a code that is not good has no removals
pub no_removal : {w : ℕ} {code : ℕ → List ℕ → ℕ} {removals : ℕ → ℕ → List (ℕ × ℕ)} → Meaning w code removals → (m c k : ℕ) → (Good w code m c → ⊥) → None ≡ slice_get (removals m c) k
no_removal {removals = removals} law m c k n = nothing (slice_get (removals m c) k) (λ (e, d) h.
    let r = law.removed m c k e d h in
    n (record { valid = r.valid; queue = e ∷ r.queue; over = (r.event, r.over); coded = r.before }))
