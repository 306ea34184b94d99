use Rattle.std.proofs.Common.{rules, ◌≡◌, IsErr, IsErrAnd}
use Rattle.std.proofs.iter.runs.Sources.{ranges}
use Rattle.std.specs.Result.{result_from_control_flow}
use Rattle.std.proofs.result.Match.{err_is}
use Rattle.table.proofs.FirstErr.{first_err}
use Rattle.table.proofs.reading.check_lines.Goals as goal

pub returns : goal.returns
returns g c = let r = c.try_for_each.ensures.runs in
    first_err r.0 g.C.Fn c.args.check (λ v x. v ≡ result_from_control_flow x) (λ e v. IsErr v × IsErrAnd v (λ h. h ≡ e.0)) (λ i v. g.C.Fn.post c.args.check (i, tt) v) c.args.count c.try_for_each.result
    (search (rules, ranges, r.1)) r.2 (search rules) (search rules) (λ v h. h) (λ v e h s. (e.0, h, err_is c.try_for_each.result e.0 s.1))
