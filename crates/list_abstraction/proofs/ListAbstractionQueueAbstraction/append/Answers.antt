use Rattle.std.proofs.Common.{◌≡◌, ℕ, ◌+◌, ◌*◌, ◌^◌, ◌<◌, Bool, false, length, Some, sym, ap, ◌∙◌, subst, arith}
use Rattle.std.proofs.lemmas.Bool.Decides.{not_from_Decides}
use Rattle.model.specs.Queue.{Waits, present}
use Rattle.abstraction.specs.Meaning.{Appended}
use Rattle.abstraction.proofs.Masks.{tells_bit}
use Rattle.std.specs.Int.RustNames.{count_ones}
use Rattle.list_abstraction.specs.List.{list_code}
use Rattle.list_abstraction.specs.Read.{Seen}
use Rattle.list_abstraction.proofs.Places.{append_held, append_new, room}
use Rattle.list_abstraction.proofs.ListAbstractionQueueAbstraction.append.Goals as goal

pub returns-then-has : goal.returns-then-has
returns-then-has c =
    let s = c.in_ok-listed.ensures in
    append_held _ _ s.list s.coded c.args.e c.if-e-m.false ((s.marks c.args.e).0 ((tells_bit _ _ c.has.ensures c.from.ensures).0 c.if-has.true))

new : (m c mask e : ℕ) {cast : ℕ} {r : Bool} (s : Seen m c mask) → r ≡ present cast e → cast ≡ mask → r ≡ false → Waits e s.list → ⊥
new m c mask e s h p n w = not_from_Decides _ (tells_bit mask e h p) n ((s.marks e).1 w)

fit : (m c mask e wide here : ℕ) (s : Seen m c mask) → e < m → (Waits e s.list → ⊥) → wide ≡ e → here ≡ 2 ^ (4 * count_ones mask) → c + (wide + 1) * here < 2 ^ 32
fit m c mask e wide here s l n q r =
    let t = (room m c s.list s.coded e l n).1 in
    subst (λ (x : ℕ). c + (x + 1) * here < 2 ^ 32) (sym q)
    (subst (λ (x : ℕ). c + (e + 1) * x < 2 ^ 32) (ap (λ (x : ℕ). 2 ^ (4 * x)) s.count ∙ sym r) t)

pub place-requires : goal.place-requires
place-requires c =
    let s = c.in_ok-listed.ensures in
    let r = room _ _ s.list s.coded c.args.e c.if-e-m.false (new _ _ _ c.args.e s c.has.ensures c.from.ensures c.if-has.false) in
    omega (arith, r.0, s.count)

pub overflow_add-result-2 : goal.overflow_add-result-2
overflow_add-result-2 c =
    let s = c.in_ok-listed.ensures in
    let f = fit _ _ _ _ _ _ s c.if-e-m.false (new _ _ _ c.args.e s c.has.ensures c.from.ensures c.if-has.false) c.from-2.ensures c.place.ensures in
    record { fits = omega arith }

pub returns : goal.returns
returns c =
    let s = c.in_ok-listed.ensures in
    let m = c.args.m in
    let e = c.args.e in
    let p : (e + 1) * 2 ^ (4 * length s.list) ≡ (c.from-2.result + 1) * c.place.result =
    ap (λ (x : ℕ). (e + 1) * 2 ^ (4 * x)) s.count ∙ ap (λ (x : ℕ). (e + 1) * x) (sym c.place.ensures) ∙ ap (λ (x : ℕ). (x + 1) * c.place.result) (sym c.from-2.ensures) in
    subst (λ (x : ℕ). Appended 32 list_code m c.args.c e (Some (c.args.c + x))) p
    (append_new m c.args.c s.list s.coded e c.if-e-m.false (new _ _ _ e s c.has.ensures c.from.ensures c.if-has.false))
