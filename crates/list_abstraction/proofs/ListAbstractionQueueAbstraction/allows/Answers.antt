use Rattle.std.proofs.Common.{◌≡◌, sym, subst, arith}
use Rattle.std.proofs.lemmas.Bool.Decides.{Decides-eqb}
use Rattle.model.specs.declared.queue.Front.TheVariants.{Any, Event}
use Rattle.model.specs.Queue.{Begins}
use Rattle.abstraction.proofs.Calls.{empty_allows, at_front}
use Rattle.list_abstraction.specs.List.{list_code}
use Rattle.list_abstraction.proofs.Places.{list_allows, first_of}
use Rattle.list_abstraction.proofs.ListAbstractionQueueAbstraction.allows.Goals as goal

pub returns-in-Any : goal.returns-in-Any
returns-in-Any c =
    let s = c.in-Some.ensures in
    at_front c.in-Any.is (list_allows c.args.m c.args.c s.list s.coded c.in-Some.listed c.args.mask s.marks Any tt _ c.within-wait.ensures)

pub returns-then-c-eq0 : goal.returns-then-c-eq0
returns-then-c-eq0 c =
    let s = c.in-Some.ensures in
    at_front c.in-Empty.is (empty_allows 32 list_code c.args.m c.args.c c.args.mask s.coded.valid (sym c.if-c-eq0.true) (omega arith) _ (Decides-eqb c.args.mask 0))

pub returns-then-c-from : goal.returns-then-c-from
returns-then-c-from c =
    let s = c.in-Some.ensures in
    let z : c.args.c ≡ 0 → ⊥ = λ p. omega (arith, c.if-c-from.true) in
    let (e, R, q, l, p) = first_of c.args.m c.args.c s.list s.coded z in
    let few = s.coded.valid.few in
    let x : e ≡ c.in-Event.e = omega (arith, c.if-c-from.true, c.from.ensures) in
    at_front c.in-Event.is (list_allows c.args.m c.args.c s.list s.coded c.in-Some.listed c.args.mask s.marks (Event c.in-Event.e) (subst (Begins (Event c.in-Event.e)) (sym q) x) _ c.within-wait.ensures)
