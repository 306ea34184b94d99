use Rattle.std.proofs.Common.{◌+◌, ◌*◌, arith}
use Rattle.checker.proofs.Ordered.{apart, entry_there, entry_here, before_on, same_sym, same_bytes}
use Rattle.checker.specs.Held.{entry_of, record_in}
use Rattle.checker.specs.SetFile.{record_byte, entry_byte, byte_in, byte_of}
use Rattle.checker.proofs.state_set.compare.Goals as goal

pub returns-in_default : goal.returns-in_default
returns-in_default c =
    let n = c.args.target.now.machines in
    let bs = c.args.set.now in
    let k = c.args.k in
    let r = record_in c.args.target.now in
    let i = c.loop-i.i in
    let o = c.start-start.result + 9 * i in
    let there = entry_there n bs k r i o (omega (arith, c.start-start.ensures)) in
    let here = entry_here n bs k r i (entry_of c.entry.result) c.entry.ensures in
    let same = c.loop-i.invariant.0 in
    record {
      order =
          apart _ _ c.compare_entry.result c.in_default.not-Equal
          (before_on n i (record_byte n bs k) (byte_of r) (entry_byte bs o) (byte_in (entry_of c.entry.result)) c.loop-i-test.true same there here)
          (before_on n i (byte_of r) (record_byte n bs k) (byte_in (entry_of c.entry.result)) (entry_byte bs o) c.loop-i-test.true (same_sym (9 * i) (record_byte n bs k) (byte_of r) same) here there)
          c.compare_entry.ensures;
      alike = λ j e. same_bytes n bs j r (λ t. (c.type_inv.set t).fits) e;
    }

pub returns : goal.returns
returns c =
    let n = c.args.target.now.machines in
    let bs = c.args.set.now in
    let r = record_in c.args.target.now in
    record {
      order = ((λ t l. c.loop-i.invariant.0 t (omega arith)), (λ t l. c.loop-i.invariant.1 t (omega arith)));
      alike = λ j e. same_bytes n bs j r (λ t. (c.type_inv.set t).fits) e;
    }
