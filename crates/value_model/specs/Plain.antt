-- A plain value: a primitive, or a container of values under keys (JSON of RFC 8259, with the Map and Set of ECMA-262).
use Rattle.std.specs.Prelude.{ℕ, ◌+◌, max, List, [], ◌∷◌, length}
use Rattle.value_model.specs.declared.key.Key.{Key}
use Rattle.value_model.specs.declared.key.Key.TheVariants.{Text}
use Rattle.value_model.specs.declared.kind.Kind.{Kind}
use Rattle.value_model.specs.declared.kind.Kind.TheVariants as kind

-- One form for every container. In a list each entry has the key null, in a Set each member has itself as its value.
mutual
  pub data Plain : Type 0 where
    prim : Key → Plain
    node : Kind → Entries → Plain

  pub data Entries : Type 0 where
    none : Entries
    entry : Key → Plain → Entries → Entries

-- the entries of a container as std's list
abbrev pub Table : Type 0
Table = List (Key × Plain)

-- entries from a list
abbrev pub entries : List (Key × Plain) → Entries
entries [] = none
entries (e ∷ es) = entry e.0 e.1 (entries es)

-- entries as a list
abbrev pub list_of : Entries → List (Key × Plain)
list_of none = []
list_of (entry k v es) = (k, v) ∷ list_of es

-- a text weighs 1 and its bytes, every other primitive 1
abbrev pub key_weight : Key → ℕ
key_weight (Text s) = 1 + length s
key_weight _ = 1

-- what an entry's key adds: in a list nothing, in a Set what the member weighs is its value's weight
abbrev pub place_weight : Kind → Key → ℕ
place_weight kind.List k = 0
place_weight kind.Set k = 0
place_weight _ k = key_weight k

-- a container weighs 1 and its entries
abbrev mutual
  pub weight : Plain → ℕ
  weight (prim k) = key_weight k
  weight (node kind es) = 1 + weights kind es

  -- entries together, in a container of this kind
  pub weights : Kind → Entries → ℕ
  weights kind none = 0
  weights kind (entry k v es) = place_weight kind k + weight v + weights kind es

-- how many values there are: the value itself and every value inside it
abbrev mutual
  pub values : Plain → ℕ
  values (prim k) = 1
  values (node kind es) = 1 + values_in es

  -- in entries together
  pub values_in : Entries → ℕ
  values_in none = 0
  values_in (entry k v es) = values v + values_in es

-- how many containers nest
abbrev mutual
  pub depth : Plain → ℕ
  depth (prim k) = 0
  depth (node kind es) = 1 + deepest es

  -- the depth of the deepest entry
  pub deepest : Entries → ℕ
  deepest none = 0
  deepest (entry k v es) = max (depth v) (deepest es)
