use Rattle.std.proofs.Common.{◌≡◌, ℕ, ◌+◌, List, ◌∷◌, drop, Some, sym, ap, ◌∙◌, arith}
use Rattle.std.specs.List.{slice_get}
use Rattle.std.proofs.lemmas.List.{drop_more, drop_all}
use Rattle.std.proofs.lemmas.Option.{slice_get_within, get_or_from_slice_get}
use Rattle.abstraction.proofs.Nth.{past}
use Rattle.abstraction.proofs.Few.{few}
use Rattle.abstraction.proofs.removals.RemovalsIterator.next.Goals as goal

-- what is left where a removal was read
more : (xs : List (ℕ × ℕ)) (k : ℕ) (x : ℕ × ℕ) → Some x ≡ slice_get xs k → drop k xs ≡ x ∷ drop (k + 1) xs
more xs k x h = let s = sym h in drop_more xs k x (slice_get_within xs k x s) ∙ ap (λ (y : ℕ × ℕ). y ∷ drop (k + 1) xs) (get_or_from_slice_get xs k x x s)

pub returns-in_err-removal-clause-steps : goal.returns-in_err-removal-clause-steps
returns-in_err-removal-clause-steps g c =
    let i = c.self.inside in
    let xs = g.A.QueueAbstraction.removals i.abstraction.now i.m i.c in
    let p = sym c.self.view_is ∙ drop_all i.k xs (past xs i.k (0, 0) (sym c.in_err-removal.ensures)) in
    rw c.from_residual.ensures (p, p)

pub overflow_add-self : goal.overflow_add-self
overflow_add-self g c =
    let i = c.self.inside in
    let xs = g.A.QueueAbstraction.removals i.abstraction.now i.m i.c in
    let b = few (g.met.A.QueueAbstraction.meaning i.abstraction.now) i.m i.c in
    record { fits = omega (arith, slice_get_within xs i.k _ (sym c.in_ok-removal.ensures)) }

pub returns-clause-steps : goal.returns-clause-steps
returns-clause-steps g c =
    let i = c.self.inside in
    sym c.self.view_is ∙ more (g.A.QueueAbstraction.removals i.abstraction.now i.m i.c) i.k _ c.in_ok-removal.ensures
