-- A fault is passed on.
use Rattle.std.proofs.Common.{ap}
use Rattle.std.specs.Prelude.{Result}
use Rattle.value_json_spec.specs.Answers.{and_then, result_map}
use Rattle.value_json_spec.specs.declared.why.JsonWhy.{JsonWhy}
use Rattle.value_json.specs.Gives.{Fails}
use Rattle.value_json.specs.declared.fault.JsonFault.{JsonFault}
use Rattle.value_json.specs.declared.fault.JsonFault.TheVariants.{Memory, Refused}

pub passed_map : {X Y : Type 0} (f : X → Y) (e : JsonFault) (r : Result X JsonWhy) → Fails e r → Fails e (result_map f r)
passed_map f Memory r h = tt
passed_map f (Refused w) r h = ap (result_map f) h

pub passed_then : {X Y : Type 0} (f : X → Result Y JsonWhy) (e : JsonFault) (r : Result X JsonWhy) → Fails e r → Fails e (and_then f r)
passed_then f Memory r h = tt
passed_then f (Refused w) r h = ap (and_then f) h
