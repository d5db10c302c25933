-- The rules for reducers, as the code reads them.
use Rattle.std.specs.Prelude.{ℕ, List, [], ◌∷◌, Option}
use Rattle.script_text.specs.declared.sign.Sign.TheVariants.{OpenRound, CloseRound, OpenBrace, CloseBrace}
use Rattle.script_grammar.specs.Trees.{Items, Params, Reducer as Re, Program, ThenReducer}
use Rattle.script_parser.specs.Steps.{Outcome, Parser, ◌>>=◌, and_then, pure}
use Rattle.script_parser.specs.Parser.{expect, params, reducer, reducers, below}
use Rattle.script_tree.specs.declared.Name.{Name}
use Rattle.script_tree.specs.declared.Reducer.{Reducer}
use Rattle.script_tree.specs.View.{params_of, reducer_of}
use Rattle.js_syntax.specs.Statements.{items_at}

-- the parameters between their brackets
abbrev pub params_at : Parser Params
params_at = expect OpenRound >>= λ _. params >>= λ ps. expect CloseRound >>= λ _. pure ps

-- the body between its braces
abbrev pub body_at : ℕ → Parser Items
body_at d = expect OpenBrace >>= λ _. items_at d >>= λ is. expect CloseBrace >>= λ _. pure is

unfoldable pub reducer_at : ℕ → Parser Re
reducer_at d ts = reducer (below d) ts

unfoldable pub reducers_at : ℕ → Parser Program
reducers_at d ts = reducers (below d) ts

abbrev pub params_view : Name × Option Name → Params
params_view p = params_of p.0 p.1

abbrev pub reducers_before : List Reducer → Program → Program
reducers_before [] rest = rest
reducers_before (r ∷ rs) rest = ThenReducer (reducer_of r) (reducers_before rs rest)

abbrev pub onto_reducers : List Reducer → Outcome Program → Outcome Program
onto_reducers found out = and_then out (λ rs. pure (reducers_before found rs))
