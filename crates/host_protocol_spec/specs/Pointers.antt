-- Lists of operations as JSON: a JSON Patch (RFC 6902) of `add`, `remove` and `replace`.
use Rattle.std.specs.Prelude.{ℕ, ◌&&◌, List, [], ◌∷◌, map, Bool, true, false, codes, if◌then◌else◌, Option, Some, None, is_some, option_and_then, unwrap_or, Result, Ok, Err}
use Rattle.serde_json.specs.Data.{Data, string, array, object, Items, no_items, item, Members, member}
use Rattle.serde_json.specs.Find.{get, as_array, as_str}
use Rattle.serde_json.specs.View.{items_of}
use Rattle.value_model.specs.declared.limit.Limit.{Limit}
use Rattle.value_model.specs.declared.op.Op.{Op}
use Rattle.value_model.specs.declared.op.Op.TheVariants as op
use Rattle.value_model.specs.Plain.{Plain}
use Rattle.plain_values.specs.declared.pointer.Pointer.{Pointer}
use Rattle.value_json_spec.specs.Answers.{and_then, result_map}
use Rattle.value_json_spec.specs.declared.why.JsonWhy.{JsonWhy}
use Rattle.value_json_spec.specs.declared.why.JsonWhy.TheVariants as why
use Rattle.value_json_spec.specs.Patches.{first_some, limit_if, op_in, op_text, value_member, walked_if}
use Rattle.value_json_spec.specs.Reading.{all_from, limited_by, text_from}
use Rattle.host_protocol_spec.specs.PointerTexts.{is_pointer, steps_of, pointer_text}

-- ---- the form

-- a text that is a pointer
abbrev pub is_pointer_if : Option (List ℕ) → Bool
is_pointer_if None = false
is_pointer_if (Some s) = is_pointer s

-- the text under `path`
abbrev pub path_in : Data → Option (List ℕ)
path_in d = option_and_then as_str (get (codes "path") d)

-- the member `value`, which every operation but a removal has to have
abbrev pub has_value : Option Op → Option Data → Bool
has_value None v = false
has_value (Some op.Remove) v = true
has_value (Some _) v = is_some v

-- an operation; members that it does not define are passed over
abbrev pub is_operation : Data → Bool
is_operation d = is_pointer_if (path_in d) && has_value (op_in d) (get (codes "value") d)

-- each element is one
abbrev pub are_operations : Items → Bool
are_operations no_items = true
are_operations (item d ds) = is_operation d && are_operations ds

-- an array of operations
abbrev pub is_operation_list : Option Items → Bool
is_operation_list None = false
is_operation_list (Some ds) = are_operations ds

-- ---- their content

-- the steps as texts, or the fault of the first that is too long for one
abbrev pub texts_from : List (List ℕ) → Result (List (List ℕ)) JsonWhy
texts_from [] = Ok []
texts_from (s ∷ ss) = and_then (λ t. result_map (λ ts. t ∷ ts) (texts_from ss)) (text_from s)

-- the steps of a pointer that is there
abbrev pub steps_from : Option (List ℕ) → Result (List (List ℕ)) JsonWhy
steps_from None = Ok []
steps_from (Some s) = texts_from (steps_of s)

-- the value of an operation; a removal has none
abbrev pub value_for : Op → Option Data → Result (Option Plain) JsonWhy
value_for op.Remove v = Ok None
value_for _ v = walked_if v

-- the operation of these parts
abbrev pub operation_of : Op → List (List ℕ) → Option Plain → Pointer
operation_of op steps value = record { op = op; steps = steps; value = value }

-- the word of an operation of this form
abbrev pub op_from : Data → Op
op_from d = unwrap_or (op_in d) op.Add

-- an operation of this form: the faults of its steps, then those of its value
abbrev pub operation_walked : Data → Result Pointer JsonWhy
operation_walked d = and_then (λ steps. result_map (operation_of (op_from d) steps) (value_for (op_from d) (get (codes "value") d))) (steps_from (path_in d))

-- the first limit that a value of the operations is past
abbrev pub first_limit : List Pointer → Option Limit
first_limit [] = None
first_limit (p ∷ ps) = first_some (limit_if p.value) (first_limit ps)

-- the operations, where none of their values is past a limit
abbrev pub all_limited : List Pointer → Result (List Pointer) JsonWhy
all_limited ps = limited_by ps (first_limit ps)

-- the operations in an array, or their first fault
abbrev pub operations_from : Items → Result (List Pointer) JsonWhy
operations_from ds = if are_operations ds then and_then all_limited (all_from operation_walked ds) else Err why.NotPatches

-- the operations in an array that is there
abbrev pub operations_if : Option Items → Result (List Pointer) JsonWhy
operations_if None = Err why.NotPatches
operations_if (Some ds) = operations_from ds

-- the operations of JSON data: their form, then the first fault of the walk over all of them, then the first limit of a value
unfoldable pub pointers_from : Data → Result (List Pointer) JsonWhy
pointers_from d = operations_if (as_array d)

-- ---- printing

-- the members of an operation, by its path's text
abbrev pub operation_members : Op → List ℕ → Option Plain → Members
operation_members op path value = member (codes "op") (string (op_text op)) (member (codes "path") (string path) (value_member value))

-- an operation: an object of its members
abbrev pub operation_data : Pointer → Data
operation_data p = object (operation_members p.op (pointer_text p.steps) p.value)

-- operations: an array of them
unfoldable pub pointers_data : List Pointer → Data
pointers_data ps = array (items_of (map operation_data ps))
