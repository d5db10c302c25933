use Rattle.host_shell.proofs.ServeLaws.{overruns_halted}
use Rattle.host_shell.proofs.lines.feed_last.Goals as goal

pub returns-in-Err-clause-fed : goal.returns-in-Err-clause-fed
returns-in-Err-clause-fed g c = λ first got more before near at.
    overruns_halted c.in-Err.status first _ more (g.O.Sink.faults c.args.out.now) (g.O.Sink.faults c.feed.new.out) before (g.O.Sink.taken c.feed.new.out) c.in-Err.ensures.err (c.in-Err.ensures.fed first got more before near at)

pub returns-clause-fed : goal.returns-clause-fed
returns-clause-fed g c = λ first got more before near at. (c.in-Ok.ensures.fed first got more before near at).taken
