use Rattle.std.proofs.Common.{◌≡◌, length}
use Rattle.host_protocol_spec.specs.PointerTexts.{is_escaped}
use Rattle.pointer_json.proofs.texts.is_escaped.Given as goal

abbrev pub invariant-loop-first : goal.invariant-loop-first
invariant-loop-first l = is_escaped l.rest ≡ is_escaped l.bytes

abbrev pub decreases-loop-first : goal.decreases-loop-first
decreases-loop-first l = length l.rest
