-- The first in an order is the first in its list. Assumes nothing.
use Rattle.std.proofs.Common.{ℕ, zero, suc, ◌<◌, List, [], ◌∷◌, ◌++◌, sym, ap, ◌∙◌, subst, inl, inr, append_assoc, arith}
use Rattle.std.specs.List.{AllByRecursion}
use Rattle.std.proofs.lemmas.Bool.{cases_eq}
use Rattle.model.specs.Order.{Order, one, ◌then◌, each, Nothing, First}
use Rattle.model.specs.Laid.{joined, laid, FirstIn}

module _ {F : Type 0} (A : F → Type 0) where
  all_join : (xs ys : List F) → AllByRecursion (λ (g : F). A g → ⊥) xs → AllByRecursion (λ (g : F). A g → ⊥) ys → AllByRecursion (λ (g : F). A g → ⊥) (xs ++ ys)
  all_join [] ys a b = b
  all_join (x ∷ xs) ys a b = (a.0, all_join xs ys a.1 b)

  first_left : (xs ys : List F) (f : F) → FirstIn A xs f → FirstIn A (xs ++ ys) f
  first_left xs ys f h = record { before = h.before; after = h.after ++ ys; is = ap (λ (z : List F). z ++ ys) h.is ∙ append_assoc h.before (f ∷ h.after) ys; applies = h.applies; none = h.none }

  first_right : (xs ys : List F) (f : F) → AllByRecursion (λ (g : F). A g → ⊥) xs → FirstIn A ys f → FirstIn A (xs ++ ys) f
  first_right xs ys f n h = record { before = xs ++ h.before; after = h.after; is = ap (λ (z : List F). xs ++ z) h.is ∙ sym (append_assoc xs h.before (f ∷ h.after)); applies = h.applies; none = all_join xs h.before n h.none }

  joined_none : (n : ℕ) (g : ℕ → List F) → ((i : ℕ) → i < n → AllByRecursion (λ (x : F). A x → ⊥) (g i)) → AllByRecursion (λ (x : F). A x → ⊥) (joined n g)
  joined_none zero g h = tt
  joined_none (suc n) g h = all_join (joined n g) (g n) (joined_none n g (λ i l. h i (omega arith))) (h n (omega arith))

  joined_first : (n : ℕ) (g : ℕ → List F) (i : ℕ) (f : F) → i < n → FirstIn A (g i) f → ((j : ℕ) → j < i → AllByRecursion (λ (x : F). A x → ⊥) (g j)) → FirstIn A (joined n g) f
  joined_first zero g i f l h b = absurd (omega arith)
  joined_first (suc n) g i f l h b = elim (cases_eq i n) [
    | inl e ↦ first_right (joined n g) (g n) f (joined_none n g (λ j k. b j (omega arith))) (subst (λ (z : ℕ). FirstIn A (g z) f) e h)
    | inr ne ↦ first_left (joined n g) (g n) f (joined_first n g i f (omega arith) h b)
  ]

  pub nothing_laid : (o : Order F) → Nothing A o → AllByRecursion (λ (g : F). A g → ⊥) (laid o)
  nothing_laid (one f) n = (n, tt)
  nothing_laid (x then y) n = all_join (laid x) (laid y) (nothing_laid x n.0) (nothing_laid y n.1)
  nothing_laid (each m g) n = joined_none m (λ i. laid (g i)) (λ i l. nothing_laid (g i) (n i l))

  pub first_laid : (o : Order F) (f : F) → First A o f → FirstIn A (laid o) f
  first_laid (one g) f (e, a) = record { before = []; after = []; is = ap (λ (z : F). z ∷ []) (sym e); applies = subst A (sym e) a; none = tt }
  first_laid (x then y) f (inl h) = first_left (laid x) (laid y) f (first_laid x f h)
  first_laid (x then y) f (inr h) = first_right (laid x) (laid y) f (nothing_laid x h.0) (first_laid y f h.1)
  first_laid (each m g) f (i, l, h, b) = joined_first m (λ i. laid (g i)) i f l (first_laid (g i) f h) (λ j k. nothing_laid (g j) (b j k))
