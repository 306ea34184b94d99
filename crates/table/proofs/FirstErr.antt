-- The first error that `try_for_each` meets over the numbers below n. Assumes nothing.
use Rattle.std.proofs.Common.{◌≡◌, ℕ, ◌<◌, Bool, true, false, Option, Result, Some, Ok, Err, IfSome, IsSomeAnd, ControlFlow, option_map, sym, subst, ◌∙◌, zero-add, refl, arith}
use Rattle.std.specs.declared.ops.ControlFlow.TheVariants.{Continue, Break}
use Rattle.std.proofs.lemmas.Iterator.Adapters.{option_map_id}
use Rattle.std.proofs.lemmas.Bool.{MatchBool-at_true, MatchBool-at_false}
use Rattle.std.specs.Iterator.Runs.{Run, CallKeepsClosure, ItemsCountUp, IsTryForEachRun}
use denote.Param.Members.{Mut, Called}
use Rattle.model.specs.declared.fault.Fault.{Fault}
use Rattle.table.specs.Reading.{FirstErr}

-- `branches` and `resumes`: what `?` makes of an answer, and the answer that it makes of an error
module _ {S F E : Type 0} {steps : S → Option ℕ → S → Type 0} (p : Run steps) (g : Mut F (ℕ × Unit {0}) (Result (Unit {0}) Fault)) (f : F)
    (branches : Result (Unit {0}) Fault → ControlFlow E (Unit {0}) → Type 0) (resumes : E → Result (Unit {0}) Fault → Type 0)
    (A : ℕ → Result (Unit {0}) Fault → Type 0) (n : ℕ) (r : Result (Unit {0}) Fault)
    (counts : ItemsCountUp p 0 n) (ran : IsTryForEachRun p g f branches resumes r)
    (stays : CallKeepsClosure g f) (gives : (i : ℕ) (v : Result (Unit {0}) Fault) → Called g f (i, tt) v f → A i v)
    (goes : (v : Result (Unit {0}) Fault) → branches v (Continue tt) → v ≡ Ok tt)
    (breaks : (v : Result (Unit {0}) Fault) (e : E) → branches v (Break e) → resumes e r → (h : Fault) × (v ≡ Err h) × (r ≡ Err h)) where
  good : (i : ℕ) → (v : Result (Unit {0}) Fault) × Called g f (i, tt) v f × branches v (Continue tt) → A i (Ok tt)
  good i c = subst (A i) (goes c.0 c.2) (gives i c.0 c.1)

  placed : (i : ℕ) → i < p.len → p.at i ≡ Some i
  placed i l = sym (option_map_id (p.at i)) ∙ subst (λ j. option_map (λ y. y) (p.at i) ≡ Some j) (zero-add i) (counts.3 i l)

  abbrev calls : ControlFlow E (Unit {0}) → ℕ → Type 0
  calls c i = (v : Result (Unit {0}) Fault) × Called g f (i, tt) v f × branches v c

  whole : p.whole ≡ true → FirstErr n A r
  whole w = let m = MatchBool-at_true _ _ w ran in
      subst (FirstErr n A) (sym (goes r m.0)) (record { none = λ i l. good i (subst (λ o. IfSome o (calls (Continue tt))) (placed i (omega (arith, l, counts.1 w))) (m.1 stays i)); first = tt })

  broken : p.whole ≡ false → FirstErr n A r
  broken w = let m = MatchBool-at_false _ _ w ran in let h = m.4 stays in
      let c = subst (λ o. IsSomeAnd o (calls (Break m.0))) (placed m.1 (omega (arith, m.3))) h.0 in
      let b = breaks c.0 m.0 c.2 m.2 in
      subst (FirstErr n A) (sym b.2) (record { none = tt; first = (m.1, omega (arith, m.3, counts.0), subst (A m.1) b.1 (gives m.1 c.0 c.1), λ j l. good j (subst (λ o. IsSomeAnd o (calls (Continue tt))) (placed j (omega (arith, l, m.3))) (h.1 j l))) })

  by_whole : (b : Bool) → p.whole ≡ b → FirstErr n A r
  by_whole true w = whole w
  by_whole false w = broken w

  pub first_err : FirstErr n A r
  first_err = by_whole p.whole refl
