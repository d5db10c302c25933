-- Which values of a run are the same, and which tables.
use Rattle.std.specs.Prelude.{◌==◌, Bool, true, false, ◌&&◌, List, [], ◌∷◌}
use Rattle.std.specs.Ordering.{is_eq}
use Rattle.value_model.specs.declared.key.Key.{Key}
use Rattle.value_model.specs.Order.{key_cmp}
use Rattle.run_heap.specs.declared.value.Rv.{Rv}
use Rattle.run_heap.specs.declared.value.Rv.TheVariants.{Undefined, Prim, Obj, Frozen}

-- primitives by value, objects by identity, frozen containers by number
abbrev pub same : Rv → Rv → Bool
same Undefined Undefined = true
same (Prim j) (Prim k) = is_eq (key_cmp j k)
same (Obj a) (Obj b) = (a.scope == b.scope) && (a.slot == b.slot)
same (Frozen a) (Frozen b) = a == b
same _ _ = false

-- the same keys in the same order, with values that are the same
abbrev pub same_tables : List (Key × Rv) → List (Key × Rv) → Bool
same_tables [] [] = true
same_tables [] (e ∷ es) = false
same_tables (d ∷ ds) [] = false
same_tables (d ∷ ds) (e ∷ es) = is_eq (key_cmp d.0 e.0) && same d.1 e.1 && same_tables ds es
