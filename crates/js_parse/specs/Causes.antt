-- Faults of the grammar and of names.
use Rattle.std.specs.Prelude.{ℕ}
use Rattle.script_names.specs.declared.Cause.{Cause}
use Rattle.script_names.specs.declared.Cause.TheVariants as cause
use Rattle.js_syntax.specs.declared.fault.SyntaxFault.{SyntaxFault}
use Rattle.js_syntax.specs.declared.fault.SyntaxFault.TheVariants as syntax
use Rattle.js_parse.specs.declared.fault.ParseFault.{ParseFault}
use Rattle.js_parse.specs.declared.fault.ParseFault.TheVariants as fault

-- what is wrong with the name that begins here
abbrev pub fault_of : Cause → ℕ → ParseFault
fault_of cause.UnknownName at = fault.UnknownName at
fault_of cause.Duplicate at = fault.Duplicate at
fault_of cause.ConstWrite at = fault.ConstWrite at

-- the same fault of the grammar
abbrev pub syntax_fault : SyntaxFault → ParseFault
syntax_fault (syntax.Unexpected at) = fault.Unexpected at
syntax_fault (syntax.TooNested at) = fault.TooNested at
syntax_fault syntax.Memory = fault.Memory
