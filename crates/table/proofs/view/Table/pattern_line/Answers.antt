use Rattle.std.proofs.Common.{rules, ◌≡◌, sym, subst, IfSome, Some}
use Rattle.std.specs.List.{slice_get}
use Rattle.table.specs.Reading.{OfPattern}
use Rattle.table.specs.SystemOf.{pattern_lines_of}
use Rattle.table.proofs.Parts.{counted}
use Rattle.table.proofs.Patterns.{each_of_pattern}
use Rattle.table.proofs.view.Table.pattern_line.Goals as goal

pub returns-then-number-pattern_line_count-clause-of_pattern : goal.returns-then-number-pattern_line_count-clause-of_pattern
returns-then-number-pattern_line_count-clause-of_pattern c =
    let bs = c.args.self.now.bytes.now in
    let is : Some c.pattern_line.result ≡ slice_get (pattern_lines_of bs) c.args.number = search (rules, counted) in
    subst (λ line. IfSome line (OfPattern bs)) (sym is) (each_of_pattern bs c.args.number)
