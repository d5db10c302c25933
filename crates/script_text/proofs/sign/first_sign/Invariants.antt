use Rattle.std.proofs.Common.{◌≡◌, drop}
use Rattle.script_text.specs.Signs.{first_sign}
use Rattle.script_text.proofs.sign.first_sign.Given as goal

abbrev pub invariant-loop-sign : goal.invariant-loop-sign
invariant-loop-sign l = first_sign (drop l.sign-index l.signs) l.bytes ≡ first_sign l.signs l.bytes
