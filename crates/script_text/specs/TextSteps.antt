-- One byte of a text, as the code tells what it does.
use Rattle.std.specs.Prelude.{[], ◌∷◌}
use Rattle.std.specs.Char.{encode_utf8}
use Rattle.script_text.specs.declared.token.Inside.TheVariants.{Plain}
use Rattle.script_text.specs.declared.text.TextStep.{TextStep}
use Rattle.script_text.specs.declared.text.TextStep.TheVariants as step
use Rattle.script_text.specs.Texts.{Step, Closed, Refused, Adds, HexWithin}

-- the bytes that it adds to the value, and where the reader stands behind it
abbrev pub step_of : TextStep → Step
step_of step.Closed = Closed
step_of step.Refused = Refused
step_of (step.Byte b) = Adds (b ∷ []) Plain
step_of (step.Escape next) = Adds [] next
step_of (step.Character c) = Adds (encode_utf8 c) Plain

abbrev pub NextWithin : TextStep → Type 0
NextWithin (step.Escape next) = HexWithin next
NextWithin _ = Unit {0}
