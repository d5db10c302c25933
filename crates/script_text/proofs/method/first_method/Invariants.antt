use Rattle.std.proofs.Common.{◌≡◌, drop}
use Rattle.script_text.specs.Methods.{first_method}
use Rattle.script_text.proofs.method.first_method.Given as goal

abbrev pub invariant-loop-method : goal.invariant-loop-method
invariant-loop-method l = first_method (drop l.method-index l.methods) l.bytes ≡ first_method l.methods l.bytes
