-- The value that a JSON text (RFC 8259) is, or its first fault.
-- The walk takes a container before its content, members in ascending order, elements and pairs in the text's order.
use Rattle.std.specs.Prelude.{ℕ, ◌^◌, ◌&&◌, nat_le, nat_lt, ℤ, pos, negsuc, int_lt, List, [], ◌∷◌, length, Bool, true, false, codes, if◌then◌else◌, Option, Some, None, is_some, Result, Ok, Err}
use Rattle.std.specs.Str.{bytes_eq, is_utf8}
use Rattle.std.specs.FinMap.Entries.{find, put}
use Rattle.serde_json.specs.Data.{Num, unsigned, negative, float, Data, null, boolean, number, string, array, object, Items, no_items, item, Members, no_members, member}
use Rattle.serde_json.specs.Read.{read}
use Rattle.value_model.specs.declared.key.Key.{Key}
use Rattle.value_model.specs.declared.key.Key.TheVariants as key
use Rattle.value_model.specs.declared.kind.Kind.TheVariants as kind
use Rattle.value_model.specs.declared.limit.Limit.{Limit}
use Rattle.value_model.specs.Limits.{value_limit}
use Rattle.value_model.specs.Order.{key_cmp}
use Rattle.value_model.specs.Plain.{Plain, Entries, prim, node, none, entry, entries}
use Rattle.value_json_spec.specs.Answers.{and_then, result_map}
use Rattle.value_json_spec.specs.declared.why.JsonWhy.{JsonWhy}
use Rattle.value_json_spec.specs.declared.why.JsonWhy.TheVariants as why

-- The JSON data that the bytes are, where they are one text in UTF-8.
-- `read` is serde_json's reading: of a name that is repeated the last value counts, what nests more than 127 levels is no text, nor
-- is one with a number past a double's range (1e400).
abbrev pub json_of : List ℕ → Option Data
json_of bytes = if is_utf8 bytes then read bytes else None

-- the integer, where its magnitude is at most 2^53 - 1 (Number.isSafeInteger of ECMA-262)
abbrev pub safe_of : Num → Option ℤ
safe_of (unsigned n) = if nat_le n 9007199254740991 then Some (pos n) else None
safe_of (negative z) = if int_lt (negsuc 9007199254740991) z then Some z else None
safe_of (float x) = None

-- the integer, or its fault where there is none
abbrev safe_or_fault : Option ℤ → Result ℤ JsonWhy
safe_or_fault (Some z) = Ok z
safe_or_fault None = Err why.NotSafeInteger

-- the integer that a number is
abbrev pub safe_from : Num → Result ℤ JsonWhy
safe_from n = safe_or_fault (safe_of n)

-- a text has at most 2^20 bytes
abbrev pub text_from : List ℕ → Result (List ℕ) JsonWhy
text_from s = if nat_lt (2 ^ 20) (length s) then Err why.TextTooLong else Ok s

-- the primitive; nothing else is a key
abbrev pub key_from : Data → Result Key JsonWhy
key_from null = Ok key.Null
key_from (boolean b) = Ok (key.Bool b)
key_from (number n) = result_map key.Int (safe_from n)
key_from (string s) = result_map key.Text (text_from s)
key_from (array ds) = Err why.BadTag
key_from (object ms) = Err why.BadTag

-- no array and no object
abbrev pub is_primitive : Data → Bool
is_primitive (array ds) = false
is_primitive (object ms) = false
is_primitive _ = true

-- each element is primitive
abbrev pub are_primitive : Items → Bool
are_primitive no_items = true
are_primitive (item d ds) = is_primitive d && are_primitive ds

-- a table so far: the entries of a Map or Set that were read, in the order of their keys
abbrev pub Table : Type 0
Table = List (Key × Plain)

-- the key, where the table doesn't have it yet
abbrev pub new_key : Table → Key → Result Key JsonWhy
new_key found k = if is_some (find key_cmp k found) then Err why.DuplicateKey else Ok k

-- the key that data is, where the table doesn't have it yet
abbrev pub new_key_from : Data → Table → Result Key JsonWhy
new_key_from d found = and_then (new_key found) (key_from d)

-- the table with these members, in turn
abbrev pub set_members : Items → Table → Result Table JsonWhy
set_members no_items found = Ok found
set_members (item d ds) found = and_then (λ k. set_members ds (put key_cmp k (prim k) found)) (new_key_from d found)

-- the Set of these members
abbrev pub set_of : Items → Result Plain JsonWhy
set_of ds = if are_primitive ds then result_map (λ es. node kind.Set (entries es)) (set_members ds []) else Err why.BadTag

-- the value of a member `$set`
abbrev pub set_in : Data → Result Plain JsonWhy
set_in (array ds) = set_of ds
set_in _ = Err why.BadTag

-- a field of an object, before those that follow
abbrev pub with_field : List ℕ → Result Plain JsonWhy → Result Entries JsonWhy → Result Entries JsonWhy
with_field name value rest = and_then (λ s. and_then (λ v. result_map (entry (key.Text s) v) rest) value) (text_from name)

-- the object of one field
abbrev pub one_field : List ℕ → Result Plain JsonWhy → Result Plain JsonWhy
one_field name value = result_map (node kind.Obj) (with_field name value (Ok none))

-- an element of a list, before those that follow
abbrev pub with_element : Result Plain JsonWhy → Result Entries JsonWhy → Result Entries JsonWhy
with_element value rest = and_then (λ v. result_map (entry key.Null v) rest) value

-- what the name of the only member of an object says
abbrev pub by_tag : {X : Type 0} → List ℕ → X → X → X → X → X
by_tag name map set obj other = if bytes_eq name (codes "$map") then map else (if bytes_eq name (codes "$set") then set else (if bytes_eq name (codes "$obj") then obj else other))

-- a pair of a Map, its key before its value
abbrev pub with_pair : Data → Result Plain JsonWhy → Table → Result Table JsonWhy
with_pair k value found = and_then (λ j. result_map (λ v. put key_cmp j v found) value) (new_key_from k found)

abbrev mutual
  -- the value, or the first fault of the walk
  pub walked : Data → Result Plain JsonWhy
  walked null = Ok (prim key.Null)
  walked (boolean b) = Ok (prim (key.Bool b))
  walked (number n) = result_map prim (key_from (number n))
  walked (string s) = result_map prim (key_from (string s))
  walked (array ds) = result_map (node kind.List) (elements ds)
  walked (object ms) = object_in ms

  -- the elements of a list
  pub elements : Items → Result Entries JsonWhy
  elements no_items = Ok none
  elements (item d ds) = with_element (walked d) (elements ds)

  -- the entries of an object
  pub fields : Members → Result Entries JsonWhy
  fields no_members = Ok none
  fields (member name d ms) = with_field name (walked d) (fields ms)

  -- a Map, a Set or an object in a tag, or an object
  pub object_in : Members → Result Plain JsonWhy
  object_in no_members = Ok (node kind.Obj none)
  object_in (member name d no_members) = by_tag name (map_in d) (set_in d) (inner_object d) (one_field name (walked d))
  object_in (member name d (member other e ms)) = result_map (node kind.Obj) (with_field name (walked d) (with_field other (walked e) (fields ms)))

  -- the value of a member `$obj`: its members are ordinary ones
  pub inner_object : Data → Result Plain JsonWhy
  inner_object (object ms) = result_map (node kind.Obj) (fields ms)
  inner_object _ = Err why.BadTag

  -- the value of a member `$map`
  pub map_in : Data → Result Plain JsonWhy
  map_in (array ds) = result_map (λ es. node kind.Map (entries es)) (map_pairs ds [])
  map_in _ = Err why.BadTag

  -- the table with these pairs, in turn
  pub map_pairs : Items → Table → Result Table JsonWhy
  map_pairs no_items found = Ok found
  map_pairs (item d ds) found = and_then (map_pairs ds) (map_pair d found)

  -- the table with a pair
  pub map_pair : Data → Table → Result Table JsonWhy
  map_pair (array ds) found = pair_in ds found
  map_pair _ found = Err why.BadTag

  -- the table with the pair that an array of two is
  pub pair_in : Items → Table → Result Table JsonWhy
  pair_in (item k (item d no_items)) found = with_pair k (walked d) found
  pair_in _ found = Err why.BadTag

-- what was read, where the value is past no limit
abbrev pub limited_by : {X : Type 0} → X → Option Limit → Result X JsonWhy
limited_by x None = Ok x
limited_by x (Some l) = Err (why.Limit l)

-- the value, where it is past no limit
abbrev pub limited : Plain → Result Plain JsonWhy
limited v = limited_by v (value_limit v)

-- the value of JSON data, or the first fault of the walk, or else the first limit
unfoldable pub val_from : Data → Result Plain JsonWhy
val_from d = and_then limited (walked d)

-- what f says of each element in turn
abbrev pub all_from : {X : Type 0} → (Data → Result X JsonWhy) → Items → Result (List X) JsonWhy
all_from f no_items = Ok []
all_from f (item d ds) = and_then (λ x. result_map (λ xs. x ∷ xs) (all_from f ds)) (f d)

-- what a reader of data says of bytes
abbrev pub read_by : {X : Type 0} → (Data → Result X JsonWhy) → Option Data → Result X JsonWhy
read_by f None = Err why.NotJson
read_by f (Some d) = f d

-- the value that the bytes are, or the first fault
abbrev pub value_of : List ℕ → Result Plain JsonWhy
value_of bytes = read_by val_from (json_of bytes)
