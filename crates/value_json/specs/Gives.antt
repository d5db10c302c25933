-- What a reading answers beside want of memory.
use Rattle.std.specs.Prelude.{◌≡◌, Option, Some, None, Result, Ok, Err}
use Rattle.serde_json.specs.Data.{Data}
use Rattle.value_json_spec.specs.declared.why.JsonWhy.{JsonWhy}
use Rattle.value_json_spec.specs.declared.why.JsonWhy.TheVariants as why
use Rattle.value_json.specs.declared.fault.JsonFault.{JsonFault}
use Rattle.value_json.specs.declared.fault.JsonFault.TheVariants.{Memory, Refused}

abbrev pub Fails : {Y : Type 0} → JsonFault → Result Y JsonWhy → Type 0
Fails Memory r = Unit {0}
Fails (Refused w) r = r ≡ Err w

-- the answer, seen by f, is the definition's value or fault, unless memory ran out
abbrev pub GivesBy : {X Y : Type 0} → (X → Y) → Result X JsonFault → Result Y JsonWhy → Type 0
GivesBy f (Ok x) r = r ≡ Ok (f x)
GivesBy f (Err e) r = Fails e r

abbrev pub Gives : {X : Type 0} → Result X JsonFault → Result X JsonWhy → Type 0
Gives a r = GivesBy (λ x. x) a r

abbrev FailsJson : JsonFault → Option Data → Type 0
FailsJson Memory r = Unit {0}
FailsJson (Refused w) r = (w ≡ why.NotJson) × (r ≡ None)

-- the answer, seen by f, is the JSON data, or NotJson exactly where there is none, unless memory ran out
abbrev pub GivesData : {X : Type 0} → (X → Data) → Result X JsonFault → Option Data → Type 0
GivesData f (Ok x) r = r ≡ Some (f x)
GivesData f (Err e) r = FailsJson e r
