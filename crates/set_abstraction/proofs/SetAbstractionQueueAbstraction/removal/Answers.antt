use Rattle.std.proofs.Common.{◌≡◌, ℕ, ◌/◌, ◌%◌, Bool, true, cond, [], Some, Option, sym, refl, ap, ◌∙◌, arith}
use Rattle.std.specs.List.{slice_get, filter, range_with_len}
use Rattle.std.specs.Option.{option_map}
use Rattle.std.proofs.lemmas.Bool.{eq-eqb, ne_eqb}
use Rattle.std.proofs.lemmas.Bool.Decides.{nat_tests, not_from_Decides}
use Rattle.model.specs.Queue.{present}
use Rattle.abstraction.specs.Meaning.{Good}
use Rattle.abstraction.proofs.Calls.{no_removal}
use Rattle.set_abstraction.specs.Set.{set_code, absent, set_from, set_good, set_removals}
use Rattle.set_abstraction.specs.Codes.{set_good_below, good_byte, absent_only}
use Rattle.set_abstraction.specs.Removals.{set_meaning}
use Rattle.set_abstraction.proofs.Picked.{picked, picks}
use Rattle.set_abstraction.proofs.SetAbstractionQueueAbstraction.removal.Goals as goal

pub returns-then-not-good : goal.returns-then-not-good
returns-then-not-good c = no_removal set_meaning c.args.m c.args.c c.args.k (not_from_Decides _ c.good.ensures c.if-not-good.true)

-- the removals of a good code, after a search for the event that one takes
at : (m c k : ℕ) (r : Option ℕ) → Good 8 set_code m c → r ≡ slice_get (filter (present c) (range_with_len 0 m)) (k / 2) → slice_get (set_removals m c) k ≡ option_map (picked c k) r
at m c k r g h =
    let l = set_good_below m c g in
    let v = g.valid in
    let t : set_good m c ≡ true = grind (arith, nat_tests) in
    ap (λ (b : Bool). slice_get (cond b (set_from c 0 m) []) k) t ∙ picks c 0 m k ∙ ap (option_map (picked c k)) (sym h)

pub returns-in_err-e : goal.returns-in_err-e
returns-in_err-e c = c.from_residual.ensures ∙ sym (at c.args.m c.args.c c.args.k _ (c.if-not-good.ensures.0 refl) c.in_err-e.ensures)

pub overflow_cast-c : goal.overflow_cast-c
overflow_cast-c c = record { fits = good_byte c.args.m c.args.c (c.if-not-good.ensures.0 refl) }

pub returns-then-k-eq0 : goal.returns-then-k-eq0
returns-then-k-eq0 c =
    let x = c.args.c in
    let e = c.in_ok-e.e in
    let g = c.if-not-good.ensures.0 refl in
    let h = at c.args.m x c.args.k _ g c.in_ok-e.ensures in
    let l = (set_meaning.removed c.args.m x c.args.k e _ h).event in
    ap (λ (y : ℕ). Some (e, y)) (c.from-left.ensures ∙ absent_only c.args.m x e g.valid.few (set_good_below c.args.m x g) l _ (omega arith) c.without.ensures.bits)
    ∙ ap (λ (b : Bool). Some (e, cond b (absent x e) x)) (sym (eq-eqb (c.args.k % 2) 0 c.if-k-eq0.true)) ∙ sym h

pub returns-else-k-eq0 : goal.returns-else-k-eq0
returns-else-k-eq0 c =
    let x = c.args.c in
    let e = c.in_ok-e.e in
    ap (λ (b : Bool). Some (e, cond b (absent x e) x)) (sym (ne_eqb (c.args.k % 2) 0 c.if-k-eq0.false))
    ∙ sym (at c.args.m x c.args.k _ (c.if-not-good.ensures.0 refl) c.in_ok-e.ensures)
