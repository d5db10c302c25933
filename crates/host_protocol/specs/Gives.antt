-- What a reading of a line answers beside want of memory.
use Rattle.std.specs.Prelude.{◌≡◌, Result, Ok, Err}
use Rattle.serde_json.specs.View.{view}
use Rattle.plain_values.specs.declared.cause.Cause.{Cause}
use Rattle.value_json.specs.declared.fault.JsonFault.{JsonFault}
use Rattle.value_json.specs.declared.fault.JsonFault.TheVariants as json
use Rattle.host_protocol_spec.specs.Commands.{Formed, json_cause}
use Rattle.host_protocol.specs.declared.fault.LineFault.{LineFault}
use Rattle.host_protocol.specs.declared.fault.LineFault.TheVariants.{Memory, Refused}
use Rattle.host_protocol.specs.declared.read.FormedLine.{FormedLine}

abbrev pub Fails : {Y : Type 0} → LineFault → Result Y Cause → Type 0
Fails Memory r = Unit {0}
Fails (Refused why) r = r ≡ Err why

-- the answer, seen by f, is the definition's answer or cause, unless memory ran out
abbrev pub GivesBy : {X Y : Type 0} → (X → Y) → Result X LineFault → Result Y Cause → Type 0
GivesBy f (Ok x) r = r ≡ Ok (f x)
GivesBy f (Err e) r = Fails e r

abbrev pub Gives : {X : Type 0} → Result X LineFault → Result X Cause → Type 0
Gives a r = GivesBy (λ x. x) a r

-- a line of one of the forms, by its data
abbrev pub formed : FormedLine → Formed
formed l = record { word = l.word; json = view l.json }

-- want of memory, or the cause of a fault of JSON
abbrev pub IsCause : JsonFault → LineFault → Type 0
IsCause json.Memory fault = fault ≡ Memory
IsCause (json.Refused w) fault = fault ≡ Refused (json_cause w)
