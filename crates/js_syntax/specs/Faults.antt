-- What a fault says of the tokens of a source.
use Rattle.std.specs.Prelude.{ℕ, List}
use Rattle.script_text.specs.declared.token.Token.{Token}
use Rattle.script_grammar.specs.Sources.{offset_of, UnexpectedAt, TooNestedAt}
use Rattle.js_expr.specs.declared.source.Stop.{Stop}
use Rattle.js_expr.specs.declared.source.Stop.TheVariants as stop
use Rattle.js_syntax.specs.declared.fault.SyntaxFault.{SyntaxFault}
use Rattle.js_syntax.specs.declared.fault.SyntaxFault.TheVariants as fault

-- its token is the first that is unexpected, or that opens a level too many; of memory nothing is said
abbrev pub IsCause : List ℕ → List Token → SyntaxFault → Type 0
IsCause source tokens (fault.Unexpected at) = UnexpectedAt source tokens at
IsCause source tokens (fault.TooNested at) = TooNestedAt source tokens at
IsCause source tokens fault.Memory = Unit {0}

-- the fault of a reading that stopped at a token
abbrev pub fault_of : List ℕ → List Token → Stop → SyntaxFault
fault_of source tokens (stop.Unexpected k) = fault.Unexpected (offset_of source tokens k)
fault_of source tokens (stop.TooNested k) = fault.TooNested (offset_of source tokens k)
fault_of source tokens stop.Memory = fault.Memory
