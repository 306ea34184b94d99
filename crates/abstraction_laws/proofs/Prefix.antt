-- The first p events, then the first occurrences of the others: what p layers keep. Assumes nothing.
use Rattle.std.proofs.Common.{◌≡◌, ℕ, zero, suc, ◌+◌, ◌*◌, Bool, cond, ◌⊎◌, List, [], ◌∷◌, ◌++◌, sym, refl, ap, ◌∙◌, subst, inl, inr, append_assoc, append-nil, arith}
use Rattle.std.proofs.lemmas.Bool.{cases_Bool}
use Rattle.model.specs.Queue.{Waits}
use Rattle.abstraction.proofs.Distinct.{waits_present, absent_not}
use Rattle.list_abstraction.specs.List.{firsts, pack, has}
use Rattle.list_abstraction.specs.Lists.{firsts_append, has_absent, absent_has, has_waits, waits_has}
use Rattle.list_abstraction.proofs.Places.{firsts_wait, wait_firsts}
use Rattle.abstraction_laws.specs.Prefix.{Occurs, Abstracts, none, drops, keeps, layered, LayersKeepPrefix}

prefixed : ℕ → List ℕ → List ℕ
prefixed zero Q = firsts Q
prefixed (suc p) [] = []
prefixed (suc p) (e ∷ Q) = e ∷ prefixed p Q

prefixed_none : (p : ℕ) → prefixed p [] ≡ []
unfolding prefixed
prefixed_none zero = refl
prefixed_none (suc p) = refl

occurs_waits : (e : ℕ) (P : List ℕ) → Occurs 0 e P → Waits e P
occurs_waits e [] (j, l, h, q) = absurd (omega arith)
occurs_waits e (f ∷ P) (zero, l, h, q) = inl (sym q)
occurs_waits e (f ∷ P) (suc j, l, h, q) = inr (occurs_waits e P (j, omega arith, omega arith, q))

waits_occurs : (e : ℕ) (P : List ℕ) → Waits e P → Occurs 0 e P
waits_occurs e [] w = absurd w
waits_occurs e (f ∷ P) (inl q) = (0, omega arith, omega arith, sym q)
waits_occurs e (f ∷ P) (inr w) = let (j, l, h, q) = waits_occurs e P w in (suc j, omega arith, omega arith, q)

occurs_later : (p e f : ℕ) (P : List ℕ) → Occurs p e P → Occurs (suc p) e (f ∷ P)
occurs_later p e f P (j, l, h, q) = (suc j, omega arith, omega arith, q)

later_occurs : (p e f : ℕ) (P : List ℕ) → Occurs (suc p) e (f ∷ P) → Occurs p e P
later_occurs p e f P (zero, l, h, q) = absurd (omega arith)
later_occurs p e f P (suc j, l, h, q) = (j, omega arith, omega arith, q)

occurs_or_not : (p e : ℕ) (P : List ℕ) → Occurs p e P ⊎ (Occurs p e P → ⊥)
occurs_or_not zero e P = elim (cases_Bool (has e (firsts P))) [
  | inl t ↦ inl (waits_occurs e P (firsts_wait e P (has_waits e (firsts P) t)))
  | inr t ↦ inr (λ o. waits_present e (firsts P) (wait_firsts e P (occurs_waits e P o)) (has_absent e (firsts P) t))
]
occurs_or_not (suc p) e [] = inr (λ (j, l, h, q). omega arith)
occurs_or_not (suc p) e (f ∷ P) = elim (occurs_or_not p e P) [ inl o ↦ inl (occurs_later p e f P o) | inr n ↦ inr (λ o. n (later_occurs p e f P o)) ]

-- one event more at the back
prefixed_drops : (p e : ℕ) (P : List ℕ) → Occurs p e P → prefixed p (P ++ e ∷ []) ≡ prefixed p P
unfolding prefixed
prefixed_drops zero e P o =
    firsts_append e P ∙ ap (λ (b : Bool). cond b (firsts P) (firsts P ++ e ∷ [])) (waits_has e (firsts P) (wait_firsts e P (occurs_waits e P o)))
prefixed_drops (suc p) e [] (j, l, h, q) = absurd (omega arith)
prefixed_drops (suc p) e (f ∷ P) o = ap (λ (L : List ℕ). f ∷ L) (prefixed_drops p e P (later_occurs p e f P o))

prefixed_keeps : (p e : ℕ) (P : List ℕ) → (Occurs p e P → ⊥) → prefixed p (P ++ e ∷ []) ≡ prefixed p P ++ e ∷ []
unfolding prefixed
prefixed_keeps zero e P n =
    firsts_append e P ∙ ap (λ (b : Bool). cond b (firsts P) (firsts P ++ e ∷ [])) (absent_has e (firsts P) (absent_not e (firsts P) (λ w. n (waits_occurs e P (firsts_wait e P w)))))
prefixed_keeps (suc p) e [] n = ap (λ (L : List ℕ). e ∷ L) (prefixed_none p)
prefixed_keeps (suc p) e (f ∷ P) n = ap (λ (L : List ℕ). f ∷ L) (prefixed_keeps p e P (λ o. n (occurs_later p e f P o)))

abstracts_more : (p : ℕ) (P R : List ℕ) → Abstracts p P (prefixed p P) → Abstracts p (P ++ R) (prefixed p (P ++ R))
abstracts_more p P [] a = subst (λ (Q : List ℕ). Abstracts p Q (prefixed p Q)) (sym (append-nil P)) a
abstracts_more p P (e ∷ R) a = subst (λ (Q : List ℕ). Abstracts p Q (prefixed p Q)) (append_assoc P (e ∷ []) R) (abstracts_more p (P ++ e ∷ []) R next)
  where
    next : Abstracts p (P ++ e ∷ []) (prefixed p (P ++ e ∷ []))
    next = elim (occurs_or_not p e P) [
      | inl o ↦ subst (Abstracts p (P ++ e ∷ [])) (sym (prefixed_drops p e P o)) (drops a o)
      | inr n ↦ subst (Abstracts p (P ++ e ∷ [])) (sym (prefixed_keeps p e P n)) (keeps a n)
    ]

only_prefixed : (p : ℕ) (Q L : List ℕ) → Abstracts p Q L → L ≡ prefixed p Q
only_prefixed p _ _ none = sym (prefixed_none p)
only_prefixed p _ _ (drops {P} {L} {e} a o) = only_prefixed p P L a ∙ sym (prefixed_drops p e P o)
only_prefixed p _ _ (keeps {P} {L} {e} a n) = ap (λ (X : List ℕ). X ++ e ∷ []) (only_prefixed p P L a) ∙ sym (prefixed_keeps p e P n)

prefixed_coded : (p m : ℕ) (Q : List ℕ) → layered p m Q ≡ pack (prefixed p Q)
unfolding prefixed
prefixed_coded zero m Q = refl
prefixed_coded (suc p) m [] = refl
prefixed_coded (suc p) m (e ∷ Q) = ap (λ (x : ℕ). 16 * x + e + 1) (prefixed_coded p m Q)

pub layers_keep_prefix : LayersKeepPrefix
layers_keep_prefix p m Q = record {
  list = prefixed p Q;
  abstracts = abstracts_more p [] Q (subst (Abstracts p []) (sym (prefixed_none p)) none);
  only = only_prefixed p Q;
  coded = prefixed_coded p m Q;
}
