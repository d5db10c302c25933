use Rattle.std.proofs.Common.{arith, rules}
use Rattle.std.proofs.Math.Seq.{take-add}
use Rattle.std.proofs.lemmas.List.{take_rest}
use Rattle.std.proofs.KnownBytes.{Appends-trans}
use Rattle.host_shell.proofs.SendLaws.{part_taken}
use Rattle.host_shell.proofs.send.write_all.Goals as goal

pub returns-in-Err-clause-part : goal.returns-in-Err-clause-part
returns-in-Err-clause-part g c =
    let taken = g.O.Sink.taken in
    part_taken (taken c.args.out.now) (taken c.loop-at.out) (taken c.write.new.self) c.loop-at.at c.args.bytes.now c.loop-at.invariant.written c.in-Err.ensures.bytes

pub loop-at-preserved : goal.loop-at-preserved
loop-at-preserved g c =
    let taken = g.O.Sink.taken in
    let both = Appends-trans (taken c.args.out.now) (taken c.loop-at.out) (taken c.write.new.self) _ _ c.loop-at.invariant.written c.in-Ok.ensures.bytes in
    record {
      written = rw take-add (rw (take_rest c.args.bytes.now c.loop-at.at) at both);
      later = search rules;
      within = omega (arith, c.in-Ok.ensures.bound);
    }
