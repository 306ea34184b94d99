use Rattle.std.proofs.Common.{sym, refl, ◌∙◌, arith}
use Rattle.std.proofs.lemmas.Bool.{false≢true}
use Rattle.std.proofs.lemmas.Bool.Decides.{Decides-eqb, not_from_Decides}
use Rattle.abstraction.proofs.Masks.{tells_bit}
use Rattle.abstraction.proofs.Calls.{empty_allows, at_front}
use Rattle.set_abstraction.specs.Set.{set_code}
use Rattle.set_abstraction.specs.Codes.{set_good_below, good_byte}
use Rattle.set_abstraction.proofs.Allows.{any_answer, event_answer, event_needs}
use Rattle.set_abstraction.proofs.SetAbstractionQueueAbstraction.allows.Goals as goal

pub overflow_cast-c : goal.overflow_cast-c
overflow_cast-c c = record { fits = good_byte c.args.m c.args.c (c.if-not-good.ensures.0 refl) }

pub returns-in-Any : goal.returns-in-Any
returns-in-Any c =
    let g = c.if-not-good.ensures.0 refl in
    at_front c.in-Any.is (any_answer c.args.m c.args.c c.args.mask g.valid (set_good_below c.args.m c.args.c g) _ c.within-held.ensures)

pub returns-then-c-eq0 : goal.returns-then-c-eq0
returns-then-c-eq0 c =
    let g = c.if-not-good.ensures.0 refl in
    at_front c.in-Empty.is (empty_allows 8 set_code c.args.m c.args.c c.args.mask g.valid (sym c.if-c-eq0.true) (omega arith) _ (Decides-eqb c.args.mask 0))

pub returns-then-has : goal.returns-then-has
returns-then-has c =
    let g = c.if-not-good.ensures.0 refl in
    let e = c.in-Event.e in
    let b = (tells_bit c.args.c e c.has.ensures refl).0 c.if-has.true in
    at_front c.in-Event.is (event_answer c.args.m c.args.c c.args.mask g.valid (set_good_below c.args.m c.args.c g) e _ b c.within-held.ensures)

pub returns-else-has : goal.returns-else-has
returns-else-has c =
    let g = c.if-not-good.ensures.0 refl in
    let e = c.in-Event.e in
    let n = not_from_Decides _ (tells_bit c.args.c e c.has.ensures refl) c.if-has.false in
    at_front c.in-Event.is (λ t. absurd (false≢true (sym c.if-has.false ∙ t)), λ a. absurd (n (event_needs c.args.m c.args.c c.args.mask g.valid (set_good_below c.args.m c.args.c g) e a)))
