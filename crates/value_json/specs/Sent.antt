-- What is sent to a serializer beside whole values.
use Rattle.std.specs.Prelude.{ℕ, List, codes, Some}
use Rattle.serde.specs.Event.{Log, Logs, map_begins, field_key}
use Rattle.serde.specs.declared.name.Case.TheVariants.{AsIs}
use Rattle.serde_json.specs.Data.{Data, string}
use Rattle.serde_json.specs.Events.{SendsValue}

-- the begin of an object of one member, and the member's name
abbrev pub Opens : List ℕ → Log → Log → Type 0
Opens name old new = (first : Log) × Logs old first (map_begins (Some 1)) × Logs first new (field_key name AsIs)

-- a member of an object
abbrev pub SendsMember : List ℕ → Data → Log → Log → Type 0
SendsMember name d old new = (named : Log) × Logs old named (field_key name AsIs) × SendsValue d named new

-- the begin of a patch of n members, with its operation and its path
abbrev pub SendsPlace : ℕ → List ℕ → Data → Log → Log → Type 0
SendsPlace n op path old new = (first mid : Log) × Logs old first (map_begins (Some n)) × SendsMember (codes "op") (string op) first mid × SendsMember (codes "path") path mid new
