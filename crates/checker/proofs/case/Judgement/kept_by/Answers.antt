use Rattle.std.proofs.Common.{◌≡◌, ℕ, Option, None, Some, rules, arith}
use Rattle.std.specs.Option.{MatchOption}
use Rattle.std.proofs.lemmas.Iterator.{first_from_Range, serves_from_Range}
use Rattle.std.proofs.lemmas.Bool.Decides.{when_true}
use borrow.Author.Tests.{tests}
use Rattle.checker.proofs.Deciding.{line_below, kept_not, pattern_where}
use Rattle.table.proofs.Parts.{lines_long}
use Rattle.checker.specs.Case.{table_at, claim_at}
use Rattle.checker.specs.Inner.{Keeps}
use Rattle.closed_sets.specs.Codes.{MayHold}
use Rattle.closed_sets.specs.Records.{record_of}
use Rattle.table.specs.Layout.{pattern_offset}
use Rattle.table.specs.Lines.{condition_at}
use Rattle.table.specs.SystemOf.{number_of}
use Rattle.checker.proofs.case.Judgement.kept_by.Goals as goal

pub returns-then-keeps : goal.returns-then-keeps
returns-then-keeps g c =
    kept_not g.A.QueueAbstraction c.args.self.now (g.met.A.QueueAbstraction.meaning _) c.requires.sound c.requires.below
    (line_below c.args.self.now c.pattern_line_count-count.ensures c.if-first-count.true) (when_true _ _ c.if-keeps.true c.keeps.ensures)

pub keeps-requires-clause-below : goal.keeps-requires-clause-below
keeps-requires-clause-below g c = line_below c.args.self.now c.pattern_line_count-count.ensures c.if-first-count.true

pub find-requires-clause-callable : goal.find-requires-clause-callable
find-requires-clause-callable g c = serves_from_Range (λ x q k. search rules) (λ x a b y e. (c.requires.sound, line_below c.args.self.now c.pattern_line_count-count.ensures (omega (arith, b, e))))

-- what is told of a found number, told otherwise
otherwise : {N M : Type 0} {Y Z : ℕ → Type 0} (o : Option ℕ) → MatchOption o N Y → (N → M) → ((l : ℕ) → Y l → Z l) → MatchOption o M Z
otherwise None h none some = none h
otherwise (Some l) h none some = some l h

pub returns : goal.returns
returns g c =
    let j = c.args.self.now in
    let T = claim_at g.A.QueueAbstraction j in
    let n = c.args.n in
    let bs = table_at j in
    let law = g.met.A.QueueAbstraction.meaning _ in
    otherwise c.find.result
    (first_from_Range _ _ _ c.find.result (Keeps T bs j.k n) (λ l. number_of bs l ≡ n → MayHold T (record_of T j.k) (condition_at bs (pattern_offset bs l))) c.find.ensures.ran (λ x q k. search (rules, tests)) (λ x q k. search (rules, tests)))
    (λ all. pattern_where g.A.QueueAbstraction j law c.requires.sound c.requires.below (λ l lt. all l (omega arith) (omega (arith, lines_long bs, c.pattern_line_count-count.ensures, lt))))
    (λ l h. kept_not g.A.QueueAbstraction j law c.requires.sound c.requires.below (line_below j c.pattern_line_count-count.ensures h.1) h.2)
