-- Every level of a value is in order: what a value that code holds always meets.
use Rattle.std.specs.Prelude.{Bool, true, false, ◌&&◌}
use Rattle.std.specs.Ordering.{is_eq}
use Rattle.value_model.specs.declared.key.Key.{Key}
use Rattle.value_model.specs.declared.key.Key.TheVariants.{Null, Text}
use Rattle.value_model.specs.declared.kind.Kind.{Kind}
use Rattle.value_model.specs.declared.kind.Kind.TheVariants as kind
use Rattle.value_model.specs.Order.{key_cmp}
use Rattle.value_model.specs.Places.{ascends_at}
use Rattle.value_model.specs.Plain.{Plain, Entries, prim, node, none, entry, list_of}

-- an object's key is a text, a list's null, and a Set's value its key
abbrev pub fits : Kind → Key → Plain → Bool
fits kind.Obj (Text s) v = true
fits kind.Obj _ v = false
fits kind.List Null v = true
fits kind.List _ v = false
fits kind.Map k v = true
fits kind.Set k (prim j) = is_eq (key_cmp k j)
fits kind.Set k _ = false

-- each entry does
abbrev pub all_fit : Kind → Entries → Bool
all_fit kind none = true
all_fit kind (entry k v es) = fits kind k v && all_fit kind es

abbrev mutual
  -- the keys of each level ascend and fit its kind
  pub well : Plain → Bool
  well (prim k) = true
  well (node kind es) = ascends_at kind (list_of es) && all_fit kind es && all_well es

  -- each entry is in order
  pub all_well : Entries → Bool
  all_well none = true
  all_well (entry k v es) = well v && all_well es
