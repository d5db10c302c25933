-- Whether two plain values are the same, as a test.
use Rattle.std.specs.Prelude.{Bool, true, false, ◌&&◌}
use Rattle.std.specs.Ordering.{eq_by_cmp}
use Rattle.value_model.specs.declared.kind.Kind.{Kind}
use Rattle.value_model.specs.declared.kind.Kind.TheVariants as kind
use Rattle.value_model.specs.Order.{key_cmp}
use Rattle.value_model.specs.Plain.{Plain, Entries, prim, node, none, entry}

abbrev pub same_kind : Kind → Kind → Bool
same_kind kind.Obj kind.Obj = true
same_kind kind.List kind.List = true
same_kind kind.Map kind.Map = true
same_kind kind.Set kind.Set = true
same_kind _ _ = false

abbrev mutual
  -- the same primitive, or containers of one kind with the same entries
  pub is_same : Plain → Plain → Bool
  is_same (prim j) (prim k) = eq_by_cmp key_cmp j k
  is_same (prim j) (node b fs) = false
  is_same (node a es) (prim k) = false
  is_same (node a es) (node b fs) = same_kind a b && same_entries es fs

  -- the same keys with the same values
  pub same_entries : Entries → Entries → Bool
  same_entries none none = true
  same_entries none (entry k w fs) = false
  same_entries (entry j v es) none = false
  same_entries (entry j v es) (entry k w fs) = eq_by_cmp key_cmp j k && is_same v w && same_entries es fs
