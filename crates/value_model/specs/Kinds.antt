-- The kinds of containers: JSON's (RFC 8259), and ECMA-262's Map and Set.
use Rattle.std.specs.Prelude.{Bool, true, false}
use Rattle.value_model.specs.declared.kind.Kind.{Kind}
use Rattle.value_model.specs.declared.kind.Kind.TheVariants as kind

abbrev pub is_object : Kind → Bool
is_object kind.Obj = true
is_object _ = false

abbrev pub is_list : Kind → Bool
is_list kind.List = true
is_list _ = false

abbrev pub is_map : Kind → Bool
is_map kind.Map = true
is_map _ = false

abbrev pub is_set : Kind → Bool
is_set kind.Set = true
is_set _ = false
