use Rattle.host_shell.proofs.LfLaws.{lf_found, no_lf_at_all}
use Rattle.host_shell.proofs.lines.next_lf.Goals as goal

pub returns-then-c-eq10 : goal.returns-then-c-eq10
returns-then-c-eq10 c = lf_found c.args.bytes.now c.loop-i.i c.loop-i.invariant c.loop-i-test.true c.if-c-eq10.true

pub returns : goal.returns
returns c = no_lf_at_all c.args.bytes.now c.loop-i.i c.loop-i.invariant c.loop-i-test.false
