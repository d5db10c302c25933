use Rattle.std.proofs.Common.{◌≡◌, ◌++◌, length, string_bytes}
use denote.Shadow.{shadow}
use denote.Text.{Utf8}
use Rattle.host_protocol_spec.specs.PointerTexts.{replaced}
use Rattle.pointer_json.proofs.texts.replaced.Given as goal

abbrev pub invariant-loop-part : goal.invariant-loop-part
invariant-loop-part l = shadow (Utf8 l.rest) × (replaced l.sign l.by l.text ≡ string_bytes l.out ++ replaced l.sign l.by l.rest)

abbrev pub decreases-loop-part : goal.decreases-loop-part
decreases-loop-part l = length l.rest
