-- Which values are accepted, and otherwise the first limit that they are past.
use Rattle.std.specs.Prelude.{ℕ, ◌||◌, ◌^◌, nat_lt, List, length, Bool, false, Option, Some, None, codes, if◌then◌else◌}
use Rattle.std.specs.Str.{bytes_eq}
use Rattle.value_model.specs.declared.key.Key.{Key}
use Rattle.value_model.specs.declared.key.Key.TheVariants.{Text}
use Rattle.value_model.specs.declared.kind.Kind.{Kind}
use Rattle.value_model.specs.declared.kind.Kind.TheVariants as kind
use Rattle.value_model.specs.declared.limit.Limit.{Limit}
use Rattle.value_model.specs.declared.limit.Limit.TheVariants as limit
use Rattle.value_model.specs.Plain.{Plain, Entries, prim, node, none, entry, weight, depth}

-- a text of more than 1,024 bytes
abbrev pub is_long_text : List ℕ → Bool
is_long_text s = nat_lt 1024 (length s)

-- the names through which a script could reach a prototype
abbrev pub is_reserved_text : List ℕ → Bool
is_reserved_text s = bytes_eq s (codes "__proto__") || bytes_eq s (codes "constructor") || bytes_eq s (codes "prototype")

-- a key that is such a text
abbrev pub is_long_key : Key → Bool
is_long_key (Text s) = is_long_text s
is_long_key _ = false

-- a key that is such a name
abbrev pub is_reserved_key : Key → Bool
is_reserved_key (Text s) = is_reserved_text s
is_reserved_key _ = false

-- some key of an object or Map, or member of a Set, is too long
abbrev mutual
  pub has_long_key : Plain → Bool
  has_long_key (prim k) = false
  has_long_key (node kind es) = any_long_key es

  -- the same of entries
  pub any_long_key : Entries → Bool
  any_long_key none = false
  any_long_key (entry k v es) = is_long_key k || has_long_key v || any_long_key es

-- a name is reserved as a key of an object only
abbrev pub is_reserved_at : Kind → Key → Bool
is_reserved_at kind.Obj k = is_reserved_key k
is_reserved_at _ k = false

abbrev mutual
  -- some key of an object is reserved
  pub has_reserved_key : Plain → Bool
  has_reserved_key (prim k) = false
  has_reserved_key (node kind es) = any_reserved_key kind es

  -- the same of entries, in a container of this kind
  pub any_reserved_key : Kind → Entries → Bool
  any_reserved_key kind none = false
  any_reserved_key kind (entry k v es) = is_reserved_at kind k || has_reserved_key v || any_reserved_key kind es

-- the first limit that a value is past
abbrev pub value_limit : Plain → Option Limit
value_limit v =
    if nat_lt 32 (depth v) then Some limit.TooDeep else (
    if nat_lt (2 ^ 20) (weight v) then Some limit.TooBig else (
    if has_long_key v then Some limit.KeyTooLong else (
    if has_reserved_key v then Some limit.ReservedKey else None)))

-- a state is a container
abbrev pub state_limit : Plain → Option Limit
state_limit (prim k) = Some limit.NotContainer
state_limit (node kind es) = value_limit (node kind es)
