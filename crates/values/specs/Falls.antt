-- Each value inside has fewer values than the whole.
use Rattle.std.specs.Prelude.{◌+◌, ◌≤◌, List, [], ◌∷◌, map}
use Rattle.std.proofs.Common.{arith}
use denote.Param.Weighed.{most}
use Rattle.value_model.specs.Plain.{Plain, node, entries, values}
use Rattle.value_model.specs.declared.kind.Kind.{Kind}
use Rattle.value_model.specs.declared.kind.Kind.TheVariants as kind
use Rattle.values.specs.Seen.{plain_of, of_field, of_item, of_entry}
use Rattle.values.specs.declared.val.Entry.{Entry}
use Rattle.values.specs.declared.val.Field.{Field}
use Rattle.values.specs.declared.val.ValNode.{ValNode}
use Rattle.values.specs.declared.val.ValNode.TheVariants.{Prim, Obj, List as ListOf, Map, Set}
use Rattle.values.specs.declared.val.Val.TheDeep.{deep-ValNode, deep-Field, deep-Entry}

most_fields : (kind : Kind) (fs : List Field) → most (λ f. deep-Field f) fs ≤ values (node kind (entries (map of_field fs)))
most_fields kind [] = omega arith
most_fields kind (f ∷ fs) =
    let one : deep-Field f ≤ values f.value + 1 = omega arith in
    omega (arith, one, most_fields kind fs)

most_entries : (kind : Kind) (es : List Entry) → most (λ e. deep-Entry e) es ≤ values (node kind (entries (map of_entry es)))
most_entries kind [] = omega arith
most_entries kind (e ∷ es) =
    let one : deep-Entry e ≤ values e.value + 1 = omega arith in
    omega (arith, one, most_entries kind es)

most_items : (kind : Kind) (vs : List Plain) → most (λ v. values v + 1) vs ≤ values (node kind (entries (map of_item vs)))
most_items kind [] = omega arith
most_items kind (v ∷ vs) = omega (arith, most_items kind vs)

-- what is inside a node is no larger than its count of values
pub falls : (n : ValNode) → deep-ValNode n ≤ values (plain_of n)
falls (Prim k) = omega arith
falls (Obj fields) = omega (arith, most_fields kind.Obj fields.items)
falls (ListOf items) = omega (arith, most_items kind.List items.items)
falls (Map es) = omega (arith, most_entries kind.Map es.items)
falls (Set keys) = omega arith
