use Rattle.js_lex.proofs.Places.{tokens_are_pieces}
use Rattle.js_lex.proofs.laws.law_tokens_are_pieces.Goals as goal

pub returns : goal.returns
returns c source tokens e = tokens_are_pieces source tokens e
