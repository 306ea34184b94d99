use Rattle.std.proofs.Common.{is_some, sym, ap, ◌∙◌}
use Rattle.std.proofs.lemmas.Option.{same_Some}
use Rattle.table.specs.Layout.{pattern_lines_n, pattern_offset}
use Rattle.table.specs.Lines.{pattern_line_at}
use Rattle.table.proofs.Parts.{nth_counted}
use Rattle.checker.proofs.parts.ReadTable.pattern_line.Goals as goal

pub unwrap-requires : goal.unwrap-requires
unwrap-requires c =
    let bs = c.args.self.now.view.bytes.now in
    ap is_some (c.pattern_line.ensures.is ∙ nth_counted (λ l. pattern_line_at bs (pattern_offset bs l)) (pattern_lines_n bs) c.args.l c.requires)

pub returns : goal.returns
returns c =
    let bs = c.args.self.now.view.bytes.now in
    same_Some c.unwrap.result (pattern_line_at bs (pattern_offset bs c.args.l))
    (sym c.unwrap.ensures ∙ c.pattern_line.ensures.is ∙ nth_counted (λ l. pattern_line_at bs (pattern_offset bs l)) (pattern_lines_n bs) c.args.l c.requires)
