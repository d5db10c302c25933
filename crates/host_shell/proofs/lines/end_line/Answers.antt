use Rattle.std.proofs.Common.{◌++◌, ◌∷◌, [], append_assoc}
use Rattle.stream_run.specs.Lines.{rest_of}
use Rattle.host_shell.proofs.AtLaws.{at_line, halted_line, halted_memory}
use Rattle.host_shell.proofs.lines.end_line.Goals as goal

pub returns-in-Err-clause-ended : goal.returns-in-Err-clause-ended
returns-in-Err-clause-ended g c = λ first got behind before near at left.
    let ending = c.args.chunk.now ++ 10 ∷ [] in
    rw (append_assoc got ending behind) (halted_memory first left got (ending ++ behind) c.args.host.machine c.args.line.now before (g.O.Sink.taken c.args.out.now) at)

pub returns-in-Ok-answer-clause-ended : goal.returns-in-Ok-answer-clause-ended
returns-in-Ok-answer-clause-ended g c = λ first got behind before near at.
    let taken = g.O.Sink.taken in
    let text = rest_of got ++ c.args.chunk.now in
    at_line first got c.args.chunk.now c.args.host c.in-Ok-answer.host c.args.line.now c.clear.new.self before (taken c.args.out.now) (taken c.answer.new.out) at c.requires.inside
    (c.in-Ok-answer.ensures.answered text (c.in-Ok.ensures.line (rest_of got) at.held)) c.clear.ensures.line

pub returns-in-Err-answer-clause-ended : goal.returns-in-Err-answer-clause-ended
returns-in-Err-answer-clause-ended g c = λ first got behind before near at left.
    let taken = g.O.Sink.taken in
    let text = rest_of got ++ c.args.chunk.now in
    halted_line first left got c.args.chunk.now behind c.in-Err-answer.status c.args.host.machine c.args.line.now before (taken c.args.out.now) (taken c.answer.new.out) at c.requires.inside near
    (c.in-Err-answer.ensures.answered text (c.in-Ok.ensures.line (rest_of got) at.held))
