use Rattle.std.proofs.Common.{◌≡◌, ◌++◌, length}
use denote.Shadow.{shadow}
use denote.Text.{Utf8}
use Rattle.value_json_spec.specs.Answers.{result_map}
use Rattle.host_protocol_spec.specs.PointerTexts.{parts_of}
use Rattle.host_protocol_spec.specs.Pointers.{texts_from}
use Rattle.pointer_json.proofs.texts.parts_in.Given as goal

abbrev pub invariant-loop-part : goal.invariant-loop-part
invariant-loop-part l = shadow (Utf8 l.rest) × (texts_from (parts_of l.text) ≡ result_map (λ ts. l.out.items ++ ts) (texts_from (parts_of l.rest)))

abbrev pub decreases-loop-part : goal.decreases-loop-part
decreases-loop-part l = length l.rest
