-- What is answered to the tokens of a source.
use Rattle.std.specs.Prelude.{◌≡◌, ◌≢◌, ℕ, List, Result, Ok, Err, MatchResult}
use Rattle.script_text.specs.declared.token.Token.{Token}
use Rattle.script_grammar.specs.Sources.{UnexpectedAt, TooNestedAt}
use Rattle.script_tree.specs.View.{program_of}
use Rattle.script_names.specs.declared.Cause.TheVariants.{UnknownName, Duplicate, ConstWrite}
use Rattle.script_names.specs.Scripts.{IsScript, NameFaultAt}
use Rattle.js_parse.specs.declared.program.Program.{Program}
use Rattle.js_parse.specs.declared.fault.ParseFault.{ParseFault}
use Rattle.js_parse.specs.declared.fault.ParseFault.TheVariants as fault

-- this is their first fault; of memory nothing is said
abbrev pub IsFault : List ℕ → List Token → ParseFault → Type 0
IsFault source tokens (fault.Unexpected at) = UnexpectedAt source tokens at
IsFault source tokens (fault.TooNested at) = TooNestedAt source tokens at
IsFault source tokens (fault.UnknownName at) = NameFaultAt source tokens UnknownName at
IsFault source tokens (fault.Duplicate at) = NameFaultAt source tokens Duplicate at
IsFault source tokens (fault.ConstWrite at) = NameFaultAt source tokens ConstWrite at
IsFault source tokens fault.Memory = Unit {0}

-- the program that they are, or that fault
abbrev pub Parses : List ℕ → List Token → Result Program ParseFault → Type 0
Parses source tokens (Ok p) = IsScript source tokens (program_of p.reducers) p.names.found
Parses source tokens (Err f) = IsFault source tokens f

-- want of memory apart, this fault is answered
abbrev pub Answers : Result Program ParseFault → ParseFault → Type 0
Answers r f = MatchResult r (λ _. ⊥) (λ g. g ≢ fault.Memory → g ≡ f)
