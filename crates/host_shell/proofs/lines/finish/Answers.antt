use Rattle.std.proofs.Common.{sym}
use Rattle.stream_run.specs.Lines.{rest_of}
use Rattle.host_shell.proofs.ServeLaws.{finishes_empty, finishes_answered, finishes_halted}
use Rattle.host_shell.proofs.lines.finish.Goals as goal

pub returns-then-is_empty-clause-finished : goal.returns-then-is_empty-clause-finished
returns-then-is_empty-clause-finished g c = λ first got before short at. finishes_empty first got c.args.host.machine c.args.line.now before (g.O.Sink.taken c.args.out.now) short at (sym c.if-is_empty.ensures)

pub returns-clause-finished : goal.returns-clause-finished
returns-clause-finished g c = λ first got before short at.
    let taken = g.O.Sink.taken in
    finishes_answered first got c.args.host c.in-Ok.field-0 c.args.line.now before (taken c.args.out.now) (taken c.answer.new.out) short at (sym c.if-is_empty.ensures) (c.in-Ok.ensures.answered (rest_of got) at.held)

pub returns-in-Err-clause-finished : goal.returns-in-Err-clause-finished
returns-in-Err-clause-finished g c = λ first got before short at.
    let taken = g.O.Sink.taken in
    finishes_halted c.in-Err.status first got c.args.host.machine c.args.line.now (g.O.Sink.faults c.args.out.now) (g.O.Sink.faults c.answer.new.out) before (taken c.args.out.now) (taken c.answer.new.out) at (sym c.if-is_empty.ensures)
    c.in-Err.ensures.err (c.in-Err.ensures.answered (rest_of got) at.held)
