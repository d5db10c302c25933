-- Fresh objects of a value, made from a list of those before.
use Rattle.std.proofs.Common.{◌≡◌, ℕ, zero, suc, ◌+◌, ◌<◌, ◌^◌, List, [], ◌∷◌, ◌++◌, length, map, true}
use Rattle.value_model.specs.declared.key.Key.{Key}
use Rattle.value_model.specs.declared.kind.Kind.{Kind}
use Rattle.value_model.specs.Plain.{Plain, Entries, entries}
use Rattle.value_model.specs.Well.{well, all_well}
use Rattle.numbered.specs.Loading.{places_in, numbered, numbered_in, post_order, post_orders}
use Rattle.run_heap.specs.declared.value.Rv.{Rv}
use Rattle.run_heap.specs.declared.value.Rv.TheVariants.{Prim, Obj}
use Rattle.run_heap.specs.declared.content.Content.{Content}
use Rattle.run_heap.specs.Heap.{fresh}
use Rattle.run_heap.specs.Operations.{Rows, named_value, named_table, literal}

-- the value's objects were added, and w stands for it; a value that code holds is in order
abbrev pub IsMade : ℕ → ℕ → Plain → List Content → List Content → Rv → Type 0
IsMade scope first v old new w = (new ≡ old ++ map (literal scope) (post_order (numbered (first + length old) v))) × (w ≡ named_value scope (numbered (first + length old) v)) × (well v ≡ true)

-- the objects of all these entries were added, and t is their table
abbrev pub AreMade : ℕ → ℕ → Entries → List Content → List Content → Rows → Type 0
AreMade scope first es old new t = (new ≡ old ++ map (literal scope) (post_orders (numbered_in (first + length old) es))) × (t ≡ named_table scope (numbered_in (first + length old) es)) × (all_well es ≡ true)

-- one object with this table was added
abbrev pub IsObjectMade : ℕ → ℕ → Kind → Rows → List Content → List Content → Rv → Type 0
IsObjectMade scope first kind t old new w = (new ≡ old ++ fresh kind t ∷ []) × (w ≡ Obj (record { scope = scope; slot = first + length old }))

abbrev pub member : Key → Key × Rv
member k = (k, Prim k)

-- ---- entries in turn
pub record IsMaking (scope first : ℕ) (all : Entries) (old now : List Content) (t : Rows) (rest : Entries) : Type 0 where
  pub objects : now ++ map (literal scope) (post_orders (numbered_in (first + length now) rest)) ≡ old ++ map (literal scope) (post_orders (numbered_in (first + length old) all))
  pub table : t ++ named_table scope (numbered_in (first + length now) rest) ≡ named_table scope (numbered_in (first + length old) all)
  pub room : first + length now + places_in rest < 2 ^ 64
  pub well : all_well rest ≡ true → all_well all ≡ true
