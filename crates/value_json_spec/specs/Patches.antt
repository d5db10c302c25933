-- Patches and paths as JSON: a patch is `{"op":..,"path":[..],"value":..}` (the form of Immer 10), `value` left out where
-- there is none; a path is an array of primitives.
use Rattle.std.specs.Prelude.{ℕ, ◌&&◌, ◌==◌, List, [], ◌∷◌, map, Bool, true, false, codes, if◌then◌else◌, Option, Some, None, is_some, option_map, option_and_then, unwrap_or, Result, Ok, Err}
use Rattle.std.specs.Str.{bytes_eq}
use Rattle.serde_json.specs.Data.{Data, string, array, object, Items, no_items, item, Members, no_members, member}
use Rattle.serde_json.specs.Events.{members_len}
use Rattle.serde_json.specs.Find.{get, as_array, as_object, as_str}
use Rattle.serde_json.specs.View.{items_of}
use Rattle.serde_json.specs.Written.{compact_text}
use Rattle.value_model.specs.declared.key.Key.{Key}
use Rattle.value_model.specs.declared.op.Op.{Op}
use Rattle.value_model.specs.declared.op.Op.TheVariants as op
use Rattle.value_model.specs.declared.limit.Limit.{Limit}
use Rattle.value_model.specs.Limits.{value_limit}
use Rattle.value_model.specs.Plain.{Plain}
use Rattle.values.specs.declared.patch.Patch.{Patch}
use Rattle.value_json_spec.specs.Answers.{and_then, result_map}
use Rattle.value_json_spec.specs.declared.why.JsonWhy.{JsonWhy}
use Rattle.value_json_spec.specs.declared.why.JsonWhy.TheVariants as why
use Rattle.value_json_spec.specs.Printing.{key_data, val_data}
use Rattle.value_json_spec.specs.Reading.{key_from, are_primitive, walked, limited_by, all_from, read_by, json_of}

-- ---- printing

-- the word of an operation
abbrev pub op_text : Op → List ℕ
op_text op.Add = codes "add"
op_text op.Replace = codes "replace"
op_text op.Remove = codes "remove"

-- a path: an array of its steps
unfoldable pub path_data : List Key → Data
path_data ks = array (items_of (map key_data ks))

-- the member `value`, where there is a value
abbrev pub value_member : Option Plain → Members
value_member None = no_members
value_member (Some v) = member (codes "value") (val_data v) no_members

-- a patch: an object of its members
unfoldable pub patch_data : Patch → Data
patch_data p = object (member (codes "op") (string (op_text p.op)) (member (codes "path") (path_data p.path) (value_member p.value)))

-- patches: an array of them
unfoldable pub patches_data : List Patch → Data
patches_data ps = array (items_of (map patch_data ps))

-- the text of patches
abbrev pub patches_text : List Patch → List ℕ
patches_text ps = compact_text (patches_data ps)

-- ---- reading a path

-- an array of primitives
abbrev pub is_path : Data → Bool
is_path (array ds) = are_primitive ds
is_path _ = false

-- the steps in an array, or the first fault
abbrev pub steps_in : Data → Result (List Key) JsonWhy
steps_in (array ds) = all_from key_from ds
steps_in _ = Ok []

-- the path that JSON data is: its form, then the first fault of a step
unfoldable pub path_from : Data → Result (List Key) JsonWhy
path_from d = if is_path d then steps_in d else Err why.NotPath

-- ---- reading patches

-- the operation of a word
abbrev pub op_of : List ℕ → Option Op
op_of s = if bytes_eq s (codes "add") then Some op.Add else (if bytes_eq s (codes "replace") then Some op.Replace else (if bytes_eq s (codes "remove") then Some op.Remove else None))

-- the operation under `op`
abbrev pub op_in : Data → Option Op
op_in d = option_and_then op_of (option_and_then as_str (get (codes "op") d))

-- a path that is there
abbrev pub is_path_if : Option Data → Bool
is_path_if None = false
is_path_if (Some d) = is_path d

-- how many members a patch has, its value counted where it has one
abbrev pub member_count : Option Data → ℕ
member_count None = 2
member_count (Some v) = 3

-- an object of exactly so many members
abbrev pub has_members : ℕ → Data → Bool
has_members n d = unwrap_or (option_map (λ ms. members_len ms == n) (as_object d)) false

-- the members `op`, one of the three words, and `path`, and maybe `value`, and no other
abbrev pub is_patch : Data → Bool
is_patch d = is_some (op_in d) && is_path_if (get (codes "path") d) && has_members (member_count (get (codes "value") d)) d

-- each element is a patch, by its form
abbrev pub are_patches : Items → Bool
are_patches no_items = true
are_patches (item d ds) = is_patch d && are_patches ds

-- the steps of a path that is there
abbrev pub steps_if : Option Data → Result (List Key) JsonWhy
steps_if None = Ok []
steps_if (Some d) = steps_in d

-- a value that may be absent, or the first fault of its walk
abbrev pub walked_if : Option Data → Result (Option Plain) JsonWhy
walked_if None = Ok None
walked_if (Some d) = result_map Some (walked d)

-- the patch of these parts
abbrev pub patch_of : Op → List Key → Option Plain → Patch
patch_of op path value = record { op = op; path = path; value = value }

-- a patch of this form: the faults of its path, then those of its value
abbrev pub patch_walked : Data → Result Patch JsonWhy
patch_walked d = and_then (λ path. result_map (patch_of (unwrap_or (op_in d) op.Add) path) (walked_if (get (codes "value") d))) (steps_if (get (codes "path") d))

-- the first of two that is there
abbrev pub first_some : {X : Type 0} → Option X → Option X → Option X
first_some None o = o
first_some (Some x) o = Some x

-- the first limit that a value is past, where there is one
abbrev pub limit_if : Option Plain → Option Limit
limit_if None = None
limit_if (Some v) = value_limit v

-- the first limit that a value of the patches is past
abbrev pub first_limit : List Patch → Option Limit
first_limit [] = None
first_limit (p ∷ ps) = first_some (limit_if p.value) (first_limit ps)

-- the patches, where none of their values is past a limit
abbrev pub all_limited : List Patch → Result (List Patch) JsonWhy
all_limited ps = limited_by ps (first_limit ps)

-- the patches in an array, or their first fault
abbrev pub list_from : Items → Result (List Patch) JsonWhy
list_from ds = if are_patches ds then and_then all_limited (all_from patch_walked ds) else Err why.NotPatches

-- the patches in an array that is there
abbrev pub list_if : Option Items → Result (List Patch) JsonWhy
list_if None = Err why.NotPatches
list_if (Some ds) = list_from ds

-- the patches of JSON data: their form, then the first fault of the walk over all of them, then the first limit of a value
unfoldable pub patches_from : Data → Result (List Patch) JsonWhy
patches_from d = list_if (as_array d)

-- the patches that the bytes are, or the first fault
abbrev pub patches_of : List ℕ → Result (List Patch) JsonWhy
patches_of bytes = read_by patches_from (json_of bytes)

-- the path that the bytes are, or the first fault
abbrev pub path_of : List ℕ → Result (List Key) JsonWhy
path_of bytes = read_by path_from (json_of bytes)
