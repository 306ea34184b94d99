-- The first that applies, in an order put together of parts. Assumes nothing.
use Rattle.std.proofs.Common.{◌≡◌, ℕ, ◌<◌, Ok, Err, Result, sym, ap, ◌∙◌, subst, inl, inr, arith}
use Rattle.std.proofs.lemmas.Bool.{cases_lt, cases_eq}
use Rattle.model.specs.declared.fault.Fault.{Fault}
use Rattle.model.specs.Order.{Order, one, ◌then◌, each, Nothing, First, FirstFault, Answered, under}

module _ {F : Type 0} (A : F → Type 0) (numbers : F → Fault) where
  pub found : (o : Order F) (f : Fault) (g : F) → f ≡ numbers g → First A o g → FirstFault A numbers o f
  found o f g e h = record { finding = g; numbered = e; first = h }

  -- something in the first part
  pub answered_first : (x y : Order F) (f : Fault) → FirstFault A numbers x f → FirstFault A numbers (x then y) f
  answered_first x y f h = found (x then y) f h.finding h.numbered (inl h.first)

  -- nothing in the first part, so the second answers
  pub answered_after : (x y : Order F) (r : Result (Unit {0}) Fault) → Nothing A x → Answered A numbers y r → Answered A numbers (x then y) r
  answered_after x y (Ok u) n h = (n, h)
  answered_after x y (Err f) n h = found (x then y) f h.finding h.numbered (inr (n, h.first))

  -- something at index i, and nothing below it
  pub answered_at : (n : ℕ) (g : ℕ → Order F) (i : ℕ) (f : Fault) → i < n → FirstFault A numbers (g i) f → ((j : ℕ) → j < i → Nothing A (g j)) → FirstFault A numbers (each n g) f
  answered_at n g i f l h b = found (each n g) f h.finding h.numbered (i, l, h.first, b)

  pub not_both : (o : Order F) (f : F) → Nothing A o → First A o f → ⊥
  not_both (one g) f n h = n h.1
  not_both (x then y) f n (inl h) = not_both x f n.0 h
  not_both (x then y) f n (inr h) = not_both y f n.1 h.1
  not_both (each m g) f n (i, l, h, b) = not_both (g i) f (n i l) h

  -- at most one finding is the first
  pub first_only : (o : Order F) (f g : F) → First A o f → First A o g → f ≡ g
  first_only (one h) f g a b = a.0 ∙ sym b.0
  first_only (x then y) f g (inl a) (inl b) = first_only x f g a b
  first_only (x then y) f g (inl a) (inr b) = absurd (not_both x f b.0 a)
  first_only (x then y) f g (inr a) (inl b) = absurd (not_both x g a.0 b)
  first_only (x then y) f g (inr a) (inr b) = first_only y f g a.1 b.1
  first_only (each n h) f g (i, l, a, p) (j, m, b, q) = elim (cases_lt i j) [
    | inl lt ↦ absurd (not_both (h i) f (q i lt) a)
    | inr ge ↦ elim (cases_eq i j) [
      | inl e ↦ first_only (h i) f g a (subst (λ (z : ℕ). First A (h z) g) (sym e) b)
      | inr ne ↦ absurd (not_both (h j) g (p j (omega arith)) b)
    ]
  ]

  pub fault_only : (o : Order F) (f g : Fault) → FirstFault A numbers o f → FirstFault A numbers o g → f ≡ g
  fault_only o f g a b = a.numbered ∙ ap numbers (first_only o a.finding b.finding a.first b.first) ∙ sym b.numbered

-- an order of findings, seen as findings of another kind
module _ {F G : Type 0} (A : G → Type 0) (numbers : G → Fault) (m : F → G) where
  pub nothing_under : (o : Order F) → Nothing (λ x. A (m x)) o → Nothing A (under m o)
  nothing_under (one f) n = n
  nothing_under (x then y) n = (nothing_under x n.0, nothing_under y n.1)
  nothing_under (each k g) n = λ i l. nothing_under (g i) (n i l)

  pub first_under : (o : Order F) (f : F) → First (λ x. A (m x)) o f → First A (under m o) (m f)
  first_under (one g) f h = (ap m h.0, h.1)
  first_under (x then y) f (inl h) = inl (first_under x f h)
  first_under (x then y) f (inr h) = inr (nothing_under x h.0, first_under y f h.1)
  first_under (each k g) f (i, l, h, b) = (i, l, first_under (g i) f h, λ j u. nothing_under (g j) (b j u))

  pub answered_under : (o : Order F) (r : Result (Unit {0}) Fault) → Answered (λ x. A (m x)) (λ x. numbers (m x)) o r → Answered A numbers (under m o) r
  answered_under o (Ok u) n = nothing_under o n
  answered_under o (Err f) h = record { finding = m h.finding; numbered = h.numbered; first = first_under o h.finding h.first }
