use Rattle.calls.proofs.Cuts.{no_two, same_two}
use Rattle.calls.proofs.number.Tuple2U8U8Written.read.Goals as goal

pub returns-in_err-front : goal.returns-in_err-front
returns-in_err-front c =
    rw c.from_residual.ensures (no_two c.args.text.now c.in_err-front.ensures)

pub returns-in_err-read : goal.returns-in_err-read
returns-in_err-read c =
    rw c.from_residual-in_err-read.ensures (λ x w. c.in_err-read.ensures x.0 (same_two c.args.text.now c.in_ok-front.front.now c.in_ok-front.rest.now c.in_ok-front.ensures x.0 x.1 w).0)

pub returns-in_err-read-2 : goal.returns-in_err-read-2
returns-in_err-read-2 c =
    rw c.from_residual-in_err-read-2.ensures (λ x w. c.in_err-read-2.ensures x.1 (same_two c.args.text.now c.in_ok-front.front.now c.in_ok-front.rest.now c.in_ok-front.ensures x.0 x.1 w).1)
