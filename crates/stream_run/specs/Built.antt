-- The forms of lines that the host runs so far. Every other form is read and judged like these, and then not run.
use Rattle.std.specs.Prelude.{◌&&◌, List, Bool, true, false, codes, Option, Some, None, is_none, is_some, option_and_then}
use Rattle.serde_json.specs.Data.{Data, Items, no_items, item}
use Rattle.serde_json.specs.Find.{get, as_array, as_number}
use Rattle.value_model.specs.declared.op.Op.{Op}
use Rattle.value_model.specs.declared.op.Op.TheVariants.{Remove}
use Rattle.plain_values.specs.declared.command.Word.{Word}
use Rattle.plain_values.specs.declared.command.Word.TheVariants as word
use Rattle.value_json_spec.specs.Patches.{op_in}
use Rattle.host_protocol_spec.specs.Forms.{text_in}

-- ---- the patches that are built so far: each of one entry of a flat object

-- the element of an array of one
abbrev pub only_item : Items → Option Data
only_item no_items = None
only_item (item d no_items) = Some d
only_item (item d (item e ds)) = None

-- a path of one text
abbrev pub has_name_path : Data → Bool
has_name_path d = is_some (text_in (option_and_then only_item (option_and_then as_array (get (codes "path") d))))

-- a number to be set, and nothing to be removed
abbrev pub has_flat_value : Option Op → Option Data → Bool
has_flat_value None v = false
has_flat_value (Some Remove) v = is_none v
has_flat_value (Some _) v = is_some (option_and_then as_number v)

-- the path of one text, and such a value
abbrev pub is_flat_patch_data : Data → Bool
is_flat_patch_data d = has_name_path d && has_flat_value (op_in d) (get (codes "value") d)

-- each element is such a patch
abbrev pub are_flat_items : Items → Bool
are_flat_items no_items = true
are_flat_items (item d ds) = is_flat_patch_data d && are_flat_items ds

-- an array of such patches
abbrev pub are_flat_if : Option Items → Bool
are_flat_if None = false
are_flat_if (Some ds) = are_flat_items ds

-- ---- the words

-- the one test of what is run
abbrev pub is_built_form : Word → Data → Bool
is_built_form word.Apply d = are_flat_if (option_and_then as_array (get (codes "patches") d))
is_built_form word.State d = true
is_built_form word.Node d = true
is_built_form word.Stat d = true
is_built_form _ d = false
