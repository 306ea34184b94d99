use Rattle.std.proofs.Common.{◌≡◌, ℕ, ◌<◌, Bool, true, false, List, length, Some, Decides, MatchBool, refl, ap, ◌∙◌, arith, rules, tests}
use Rattle.std.specs.List.{slice_get, HoldsAt, AllWithin}
use Rattle.std.proofs.lemmas.Bool.{false≢true}
use Rattle.std.proofs.lemmas.Bool.Decides.{Decides-like}
use Rattle.std.proofs.lemmas.Iterator.{cases_from_any}
use Rattle.std.proofs.lemmas.Iterator.Consumers.{YieldsList-from_first}
use Rattle.std.proofs.lemmas.Option.{slice_get_within, slice_get-get_or, get_or_from_slice_get}
use Rattle.abstraction.proofs.has_removal.Goals as goal

-- whether x stands at some place
seek : (xs : List (ℕ × ℕ)) (x : ℕ × ℕ) (r : Bool) → MatchBool r ((k : ℕ) × (k < length xs) × HoldsAt (λ y. y ≡ x) xs k) (AllWithin (λ y. y ≡ x → ⊥) xs 0 (length xs)) → Decides r ((k : ℕ) × (slice_get xs k ≡ Some x))
seek xs x true (k, l, h) = (λ _. (k, slice_get-get_or xs k x l ∙ ap Some (h x)), λ _. refl)
seek xs x false a = (λ t. absurd (false≢true t), λ (k, h). absurd (a k x (omega arith) (slice_get_within xs k x h) (get_or_from_slice_get xs k x x h)))

pub returns : goal.returns
returns g c =
    let a = c.args.abstraction.now in
    let m = c.args.m in
    let x : ℕ × ℕ = (c.args.e, c.args.d) in
    let xs = g.A.QueueAbstraction.removals a m c.args.c in
    let law = g.met.A.QueueAbstraction.meaning a in
    let s = cases_from_any _ _ _ (λ (y : ℕ × ℕ). y ≡ x) (λ (y : ℕ × ℕ). y ≡ x → ⊥) c.any.ensures.ran (YieldsList-from_first (λ y. y) (λ l. l) xs c.each_removal.ensures.value) (λ y q k. search (rules, tests)) (λ y q k. search (rules, tests)) in
    Decides-like _ (λ (k, h). law.removed m c.args.c k c.args.e c.args.d h) (λ r. law.removes m c.args.c c.args.e c.args.d r) (seek xs x c.any.result s)
