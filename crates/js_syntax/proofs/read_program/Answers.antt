use Rattle.std.proofs.Common.{◌≡◌, List, [], Ok, subst}
use Rattle.script_text.specs.declared.token.Token.{Token}
use Rattle.script_grammar.specs.Sources.{levels, toks}
use Rattle.script_tree.specs.View.{program_of}
use Rattle.js_syntax.specs.Reducers.{reducers_at}
use Rattle.js_syntax.proofs.Reducers.{spells}
use Rattle.js_syntax.proofs.read_program.Goals as goal

pub returns-in-Ok-clause-spells : goal.returns-in-Ok-clause-spells
returns-in-Ok-clause-spells c = spells c.args.source.now c.args.tokens.now (program_of c.in-Ok.reducers) (subst (λ (ts : List Token). reducers_at levels (toks c.args.source.now ts 0) ≡ Ok (program_of c.in-Ok.reducers, [])) c.as_slice.ensures c.in-Ok.ensures.is)
