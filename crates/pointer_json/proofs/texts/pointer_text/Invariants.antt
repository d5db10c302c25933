use Rattle.std.proofs.Common.{◌≡◌, ◌++◌, drop, string_bytes}
use Rattle.host_protocol_spec.specs.PointerTexts.{pointer_text}
use Rattle.pointer_json.proofs.texts.pointer_text.Given as goal

abbrev pub invariant-loop-step : goal.invariant-loop-step
invariant-loop-step l = string_bytes l.out ++ pointer_text (drop l.step-index l.steps) ≡ pointer_text l.steps
