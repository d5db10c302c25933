-- A fault is passed on.
use Rattle.std.proofs.Common.{ap}
use Rattle.std.specs.Prelude.{Result}
use Rattle.plain_values.specs.declared.cause.Cause.{Cause}
use Rattle.value_json_spec.specs.Answers.{and_then, result_map}
use Rattle.host_protocol.specs.Gives.{Fails}
use Rattle.host_protocol.specs.declared.fault.LineFault.{LineFault}
use Rattle.host_protocol.specs.declared.fault.LineFault.TheVariants.{Memory, Refused}

pub passed_map : {X Y : Type 0} (f : X → Y) (e : LineFault) (r : Result X Cause) → Fails e r → Fails e (result_map f r)
passed_map f Memory r h = tt
passed_map f (Refused why) r h = ap (result_map f) h

pub passed_then : {X Y : Type 0} (f : X → Result Y Cause) (e : LineFault) (r : Result X Cause) → Fails e r → Fails e (and_then f r)
passed_then f Memory r h = tt
passed_then f (Refused why) r h = ap (and_then f) h
