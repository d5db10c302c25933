-- What is printed for a value, as JSON data: members, pairs and Set members stand in the order of their keys.
use Rattle.std.specs.Prelude.{ℕ, ◌||◌, List, Bool, false, codes, if◌then◌else◌}
use Rattle.std.specs.Str.{bytes_eq}
use Rattle.serde_json.specs.Data.{Data, null, boolean, number, string, array, object, Items, no_items, item, Members, no_members, member}
use Rattle.serde_json.specs.Find.{of_integer}
use Rattle.serde_json.specs.Written.{compact_text}
use Rattle.value_model.specs.declared.key.Key.{Key}
use Rattle.value_model.specs.declared.key.Key.TheVariants as key
use Rattle.value_model.specs.declared.kind.Kind.TheVariants as kind
use Rattle.value_model.specs.Order.{letters}
use Rattle.value_model.specs.Plain.{Plain, Entries, prim, node, none, entry}

-- a primitive
abbrev pub key_data : Key → Data
key_data key.Null = null
key_data (key.Bool b) = boolean b
key_data (key.Int z) = number (of_integer z)
key_data (key.Text s) = string s

-- the name of a tag
abbrev pub is_tag : List ℕ → Bool
is_tag s = bytes_eq s (codes "$map") || bytes_eq s (codes "$set") || bytes_eq s (codes "$obj")

-- an object whose only member has the name of a tag
abbrev pub is_tagged : Members → Bool
is_tagged no_members = false
is_tagged (member name d no_members) = is_tag name
is_tagged (member name d (member other e ms)) = false

-- the object of one member
abbrev pub alone : List ℕ → Data → Data
alone name d = object (member name d no_members)

-- an object that reads as a tag is printed inside `$obj`
abbrev pub object_data : Members → Data
object_data ms = if is_tagged ms then alone (codes "$obj") (object ms) else object ms

-- an entry of a Map
abbrev pub pair_data : Key → Data → Data
pair_data k d = array (item (key_data k) (item d no_items))

-- the members of a Set
abbrev pub keys_data : Entries → Items
keys_data none = no_items
keys_data (entry k v es) = item (key_data k) (keys_data es)

abbrev mutual
  -- a value
  pub val_data : Plain → Data
  val_data (prim k) = key_data k
  val_data (node kind.Obj es) = object_data (fields_data es)
  val_data (node kind.List es) = array (elements_data es)
  val_data (node kind.Map es) = alone (codes "$map") (array (pairs_data es))
  val_data (node kind.Set es) = alone (codes "$set") (array (keys_data es))

  -- the entries of an object
  pub fields_data : Entries → Members
  fields_data none = no_members
  fields_data (entry k v es) = member (letters k) (val_data v) (fields_data es)

  -- the elements of a list
  pub elements_data : Entries → Items
  elements_data none = no_items
  elements_data (entry k v es) = item (val_data v) (elements_data es)

  -- the entries of a Map
  pub pairs_data : Entries → Items
  pairs_data none = no_items
  pairs_data (entry k v es) = item (pair_data k (val_data v)) (pairs_data es)

-- the text of a value
abbrev pub value_json_spec : Plain → List ℕ
value_json_spec v = compact_text (val_data v)
