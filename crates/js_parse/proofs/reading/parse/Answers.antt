use Rattle.std.proofs.Common.{ap, ◌∙◌}
use Rattle.script_tree.specs.View.{program_of}
use Rattle.js_parse.specs.Causes.{syntax_fault}
use Rattle.js_parse.proofs.Faults.{spelled, not_spelled, caused}
use Rattle.js_parse.proofs.reading.parse.Goals as goal

pub returns-in-Ok-clause-no_other : goal.returns-in-Ok-clause-no_other
returns-in-Ok-clause-no_other c =
    spelled c.args.source.now c.args.tokens.now (program_of c.in-Ok.reducers) c.named.result c.in-Ok.ensures.no_other c.in-Ok.ensures.only c.named.ensures.wrong

pub returns-in-Err-clause-parses : goal.returns-in-Err-clause-parses
returns-in-Err-clause-parses c = caused c.args.source.now c.args.tokens.now c.in-Err.fault c.of_syntax.result c.of_syntax.ensures c.in-Err.ensures.fault

pub returns-in-Err-clause-only : goal.returns-in-Err-clause-only
returns-in-Err-clause-only c = λ p found h. c.of_syntax.ensures ∙ ap syntax_fault (c.in-Err.ensures.only p h.spelled)

pub returns-in-Err-clause-no_other : goal.returns-in-Err-clause-no_other
returns-in-Err-clause-no_other c =
    not_spelled c.args.source.now c.args.tokens.now c.in-Err.fault c.of_syntax.result c.of_syntax.ensures c.in-Err.ensures.no_other c.in-Err.ensures.only
