use Rattle.std.proofs.Common.{◌≡◌, ◌<◌, ◌≢◌, length, get_or, set, ◌∙◌, arith, length-set, get_or-set_other, get_or-set_same, below_more}
use Rattle.table.proofs.Parts.{lines_long}
use Rattle.table.specs.Layout.{pattern_offset}
use Rattle.table.specs.Lines.{pattern_line_at}
use Rattle.checker.specs.Plan.{no_line}
use Rattle.checker.proofs.plan.Plan.lines_of.Goals as goal

pub pattern_line-requires : goal.pattern_line-requires
pattern_line-requires c = omega (arith, lines_long c.args.table.now.view.bytes.now, c.pattern_line_count-l-end.ensures)

pub bounds-lines-l : goal.bounds-lines-l
bounds-lines-l c = omega (arith, lines_long c.args.table.now.view.bytes.now, c.pattern_line_count-l-end.ensures, c.loop-l.invariant.0)

pub loop-l-preserved : goal.loop-l-preserved
loop-l-preserved c =
    let bs = c.args.table.now.view.bytes.now in
    let ls = c.loop-l.lines in
    let l = c.loop-l.l in
    let x = c.pattern_line.result in
    let len : l < length ls = omega (arith, lines_long bs, c.pattern_line_count-l-end.ensures, c.loop-l.invariant.0) in (
      length-set ls l x ∙ c.loop-l.invariant.0,
      below_more (λ j. get_or (set ls l x) j no_line ≡ pattern_line_at bs (pattern_offset bs j)) l
          (λ j h. let ne : j ≢ l = omega arith in get_or-set_other ls l j x no_line ne ∙ c.loop-l.invariant.1 j h)
          (get_or-set_same ls l x no_line len ∙ c.pattern_line.ensures),
    )

pub returns : goal.returns
returns c = λ l h. c.loop-l.invariant.1 l (omega (arith, lines_long c.args.table.now.view.bytes.now, c.pattern_line_count-l-end.ensures))
