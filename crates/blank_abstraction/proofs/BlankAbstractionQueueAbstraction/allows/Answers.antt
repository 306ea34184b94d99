use Rattle.std.proofs.Common.{rules}
use Rattle.std.proofs.lemmas.Bool.Decides.{Decides-eqb}
use Rattle.abstraction.proofs.Calls.{empty_allows, at_front}
use Rattle.blank_abstraction.specs.Blank.{blank_code}
use Rattle.blank_abstraction.proofs.Allows.{any_answer, event_answer}
use Rattle.blank_abstraction.proofs.BlankAbstractionQueueAbstraction.allows.Goals as goal

pub returns-in-Any : goal.returns-in-Any
returns-in-Any c = at_front c.in-Any.is (any_answer _ _ _ (search rules) (search rules) (search rules) _ (rw (c.from.ensures, c.from-2.ensures) at c.fits-exist.ensures))

pub returns-in-Empty : goal.returns-in-Empty
returns-in-Empty c = at_front c.in-Empty.is (empty_allows 0 blank_code c.args.m c.args.c c.args.mask (search rules) (search rules) (search rules) _ (Decides-eqb c.args.mask 0))

pub returns-then-e-m : goal.returns-then-e-m
returns-then-e-m c = at_front c.in-Event.is (event_answer _ _ _ (search rules) (search rules) (search rules) c.in-Event.e _ c.if-e-m.true (rw (c.from.ensures, c.from-2.ensures) at c.fits-exist.ensures))
