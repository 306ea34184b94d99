use Rattle.std.proofs.Common.{refl, rules}
use Rattle.calls.proofs.Cuts.{first_cut}
use Rattle.calls.proofs.lines.first_line.Goals as goal

pub returns : goal.returns
returns c = first_cut c.args.text.now c.cut.result _ c.unwrap_or.result (search rules) c.cut.ensures refl refl c.unwrap_or.ensures
