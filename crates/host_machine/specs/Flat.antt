-- The form of states and patches that is built so far: an object of integers, and patches of its entries.
use Rattle.std.specs.Prelude.{Bool, true, false, ◌&&◌, not, List, [], ◌∷◌, Option, Some, None}
use Rattle.value_model.specs.declared.key.Key.{Key}
use Rattle.value_model.specs.declared.key.Key.TheVariants.{Int, Text}
use Rattle.value_model.specs.declared.kind.Kind.TheVariants as kind
use Rattle.value_model.specs.declared.op.Op.{Op}
use Rattle.value_model.specs.declared.op.Op.TheVariants.{Remove}
use Rattle.value_model.specs.Limits.{is_long_key, is_reserved_key}
use Rattle.value_model.specs.Plain.{Plain, Table, prim, node, list_of}
use Rattle.values.specs.declared.patch.Patch.{Patch}
use Rattle.plain_values.specs.declared.command.Command.{Command}
use Rattle.plain_values.specs.declared.command.Command.TheVariants as command

-- an integer
abbrev pub is_integer : Plain → Bool
is_integer (prim (Int n)) = true
is_integer _ = false

-- a key that is a text
abbrev pub is_text_key : Key → Bool
is_text_key (Text s) = true
is_text_key _ = false

-- a key that an object may have
abbrev pub is_field_key : Key → Bool
is_field_key k = is_text_key k && not (is_reserved_key k) && not (is_long_key k)

-- every entry is an integer under such a key
abbrev pub is_flat_table : Table → Bool
is_flat_table [] = true
is_flat_table (e ∷ es) = is_field_key e.0 && is_integer e.1 && is_flat_table es

-- an object of integers
abbrev pub is_flat : Plain → Bool
is_flat (node kind.Obj es) = is_flat_table (list_of es)
is_flat _ = false

-- a path of one text
abbrev pub is_flat_path : List Key → Bool
is_flat_path (Text s ∷ []) = true
is_flat_path _ = false

-- an integer to be set, and nothing to be removed
abbrev pub is_flat_value : Op → Option Plain → Bool
is_flat_value Remove None = true
is_flat_value Remove (Some v) = false
is_flat_value _ None = false
is_flat_value _ (Some v) = is_integer v

-- a patch with such a path and such a value
abbrev pub is_flat_patch : Patch → Bool
is_flat_patch p = is_flat_path p.path && is_flat_value p.op p.value

-- each patch is of this form
abbrev pub are_flat : List Patch → Bool
are_flat [] = true
are_flat (p ∷ ps) = is_flat_patch p && are_flat ps

-- the commands that are built: `apply` takes such patches alone
abbrev pub is_built : Command → Bool
is_built (command.Apply patches) = are_flat patches
is_built (command.State path) = true
is_built (command.Node path) = true
is_built command.Stat = true
is_built _ = false
