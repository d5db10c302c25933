-- What a value in code shows, and when the keys of its level ascend.
use Rattle.std.specs.Prelude.{List, map, IsTrue}
use Rattle.std.specs.FinMap.Entries.{is_sorted}
use Rattle.value_model.specs.declared.key.Key.{Key}
use Rattle.value_model.specs.declared.key.Key.TheVariants.{Null, Text}
use Rattle.value_model.specs.declared.kind.Kind.TheVariants as kind
use Rattle.value_model.specs.Order.{key_cmp}
use Rattle.value_model.specs.Plain.{Plain, Entries, prim, node, entries}
use Rattle.values.specs.declared.val.Entry.{Entry}
use Rattle.values.specs.declared.val.Field.{Field}
use Rattle.values.specs.declared.val.ValNode.{ValNode}
use Rattle.values.specs.declared.val.ValNode.TheVariants.{Prim, Obj, List as ListOf, Map, Set}

-- an entry of an object, its name as a key
abbrev pub of_field : Field → Key × Plain
of_field f = (Text f.key, f.value)

-- an entry of a Map
abbrev pub of_entry : Entry → Key × Plain
of_entry e = (e.key, e.value)

-- an element of a list, under null
abbrev pub of_item : Plain → Key × Plain
of_item v = (Null, v)

-- a member of a Set, under itself
abbrev pub of_member : Key → Key × Plain
of_member k = (k, prim k)

-- the entries of an object
abbrev pub of_fields : List Field → Entries
of_fields fs = entries (map of_field fs)

-- the entries of a list
abbrev pub of_items : List Plain → Entries
of_items vs = entries (map of_item vs)

-- the entries of a Map
abbrev pub of_entries : List Entry → Entries
of_entries es = entries (map of_entry es)

-- the entries of a Set
abbrev pub of_members : List Key → Entries
of_members ks = entries (map of_member ks)

-- the plain value that a node is
abbrev pub plain_of : ValNode → Plain
plain_of (Prim k) = prim k
plain_of (Obj fields) = node kind.Obj (of_fields fields.items)
plain_of (ListOf items) = node kind.List (of_items items.items)
plain_of (Map es) = node kind.Map (of_entries es.items)
plain_of (Set keys) = node kind.Set (of_members keys.items)

-- the keys of this level ascend strictly, where there are keys
abbrev pub Ascends : ValNode → Type 0
Ascends (Prim k) = Unit {0}
Ascends (Obj fields) = IsTrue (is_sorted key_cmp (map of_field fields.items))
Ascends (ListOf items) = Unit {0}
Ascends (Map es) = IsTrue (is_sorted key_cmp (map of_entry es.items))
Ascends (Set keys) = IsTrue (is_sorted key_cmp (map of_member keys.items))
