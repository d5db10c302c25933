use Rattle.js_lex.proofs.Places.{tokens_ascend}
use Rattle.js_lex.proofs.laws.law_spans_ascend.Goals as goal

pub returns : goal.returns
returns c source tokens e = tokens_ascend source tokens e
