use Rattle.std.proofs.Common.{◌≡◌, ℕ, ◌<◌, ◌≤◌, Bool, true, false, ltb, cond, Some, None, Option, Ok, Err, Result, [], inl, inr, sym, refl, ap, ◌∙◌, subst, arith}
use Rattle.std.proofs.lemmas.Bool.{cases_lt}
use Rattle.std.proofs.lemmas.Bool.Decides.{nat_tests, not_from_Decides}
use Rattle.std.specs.Bool.{then_some}
use Rattle.std.specs.List.{slice_get}
use Rattle.std.specs.Option.{SomeIff}
use Rattle.std.specs.Result.{OkIff, result_ok}
use Rattle.model.proofs.Counted.{nth_counted}
use Rattle.abstraction.proofs.Nth.{nothing}
use Rattle.abstraction.proofs.Calls.{no_removal}
use Rattle.blank_abstraction.specs.Blank.{blank_good, blank_removals, each_event}
use Rattle.blank_abstraction.specs.Removals.{removal_event, blank_meaning}
use Rattle.blank_abstraction.proofs.BlankAbstractionQueueAbstraction.removal.Goals as goal
use Rattle.blank_abstraction.proofs.BlankAbstractionQueueAbstraction.removal.Goals.{then-good, else-good}

-- there is no removal for a number that is no event
beyond : (m c k : ℕ) → m ≤ k → None ≡ slice_get (blank_removals m c) k
beyond m c k l = nothing _ (λ (e, d) h. omega (arith, removal_event m c k e d h))

-- what is left of a conversion's answer without its error
ok_told : {E : Type 0} (r : Result ℕ E) (o : Option ℕ) (P : Type 0) (k : ℕ) → OkIff r P k → o ≡ result_ok r → SomeIff o P k
ok_told (Ok x) o P k h q = subst (λ (y : Option ℕ). SomeIff y P k) (sym q) h
ok_told (Err d) o P k h q = subst (λ (y : Option ℕ). SomeIff y P k) (sym q) h

pub returns-in_err-e : goal.returns-in_err-e
returns-in_err-e c =
    let t = subst (λ (o : Option ℕ). SomeIff o (c.args.k < 256) c.args.k) c.in_err-e.was (ok_told _ _ _ _ c.try_from.ensures c.ok.ensures.value) in
    c.from_residual.ensures ∙ beyond c.args.m c.args.c c.args.k (omega (arith, t))

at : (m c k e : ℕ) → blank_good m c ≡ true → e ≡ k → then_some (ltb e m) (e, 0) ≡ slice_get (blank_removals m c) k
at m c k e t p = elim (cases_lt e m) [
  | inl l ↦ (let b : ltb e m ≡ true = grind (arith, nat_tests) in
      ap (λ (x : Bool). then_some x (e, 0)) b ∙ ap (λ (x : ℕ). Some (x, 0)) p
      ∙ sym (ap (λ (x : Bool). slice_get (cond x (each_event m) []) k) t ∙ nth_counted (λ (x : ℕ). (x, 0)) m k (omega (arith, p))))
  | inr l ↦ (let b : ltb e m ≡ false = grind (arith, nat_tests) in
      ap (λ (x : Bool). then_some x (e, 0)) b ∙ beyond m c k (omega (arith, p)))
]

pub returns : goal.returns
returns c =
    let e = c.in_ok-e.e in
    c.then_some.ensures ∙ elim c.if-good.branch [
      | then-good w ↦ (
          let g = w.if-good.ensures.0 refl in
          let v = g.valid in
          let z : 0 ≡ c.args.c = g.coded in
          let t : blank_good c.args.m c.args.c ≡ true = grind (arith, nat_tests) in
          ap (λ (x : Bool). then_some x (e, 0)) w.then_some-is ∙ at c.args.m c.args.c c.args.k e t (subst (λ (o : Option ℕ). SomeIff o (c.args.k < 256) c.args.k) c.in_ok-e.was (ok_told _ _ _ _ c.try_from.ensures c.ok.ensures.value)).1)
      | else-good w ↦ ap (λ (x : Bool). then_some x (e, 0)) (w.then_some-is ∙ w.if-good.false) ∙ no_removal blank_meaning c.args.m c.args.c c.args.k (not_from_Decides _ c.good.ensures w.if-good.false)
    ]
