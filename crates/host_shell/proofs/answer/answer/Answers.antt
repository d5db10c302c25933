use Rattle.std.proofs.Common.{sym, ◌∙◌}
use Rattle.host_shell.proofs.AnswerLaws.{answered_blank, held_nothing, held_part, answered_whole}
use Rattle.host_shell.proofs.answer.answer.Goals as goal

pub returns-then-is_blank-clause-answered : goal.returns-then-is_blank-clause-answered
returns-then-is_blank-clause-answered g c = λ text h. answered_blank c.args.host text (g.O.Sink.taken c.args.out.now) (sym h.blank ∙ sym c.if-is_blank.ensures.blank)

pub returns-in-Err-clause-answered : goal.returns-in-Err-clause-answered
returns-in-Err-clause-answered g c = λ text h. held_nothing c.args.host.machine text (g.O.Sink.taken c.args.out.now) (sym h.blank ∙ sym c.if-is_blank.ensures.blank)

pub returns-in-Ok-send-clause-answered : goal.returns-in-Ok-send-clause-answered
returns-in-Ok-send-clause-answered g c = λ text h.
    answered_whole c.args.host c.in-Ok.answered.0 c.args.line.now text c.kept.result.now c.in-Ok.answered.1 (g.O.Sink.taken c.args.out.now) (g.O.Sink.taken c.send.new.out) h (sym c.if-is_blank.ensures.blank) c.kept.ensures
    c.in-Ok.ensures.reply c.in-Ok-send.ensures.whole

pub returns-in-Err-send-clause-answered : goal.returns-in-Err-send-clause-answered
returns-in-Err-send-clause-answered g c = λ text h.
    held_part c.args.host c.args.line.now text c.kept.result.now c.in-Ok.answered.0.machine c.in-Ok.answered.1 (g.O.Sink.taken c.args.out.now) (g.O.Sink.taken c.send.new.out) h (sym c.if-is_blank.ensures.blank) c.kept.ensures
    c.in-Ok.ensures.reply c.in-Err-send.ensures.part
