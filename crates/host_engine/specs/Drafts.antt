-- An object of a run whose values are integers, as a plain table.
use Rattle.std.specs.Prelude.{◌≡◌, List, map, Option, Some, None, IsTrue}
use Rattle.value_model.specs.declared.key.Key.{Key}
use Rattle.value_model.specs.declared.key.Key.TheVariants.{Null}
use Rattle.value_model.specs.declared.kind.Kind.TheVariants as kind
use Rattle.value_model.specs.Plain.{Plain, Table, prim}
use Rattle.numbered.specs.Tree.{Tree}
use Rattle.page_tables.specs.declared.cell.Cell.{Cell}
use Rattle.page_tables.specs.declared.cell.Cell.TheVariants as cell
use Rattle.host_machine.specs.Flat.{is_flat_table}
use Rattle.run_heap.specs.declared.value.Rv.{Rv}
use Rattle.run_heap.specs.declared.value.Rv.TheVariants.{Prim}
use Rattle.run_heap.specs.declared.content.Content.{Content}
use Rattle.run_heap.specs.Heap.{Heap, shown}
use Rattle.run_heap.specs.Operations.{Rows, rows_of, root_draft}
use Rattle.draft_core.specs.declared.scope.Scope.{Scope}
use Rattle.draft_core.specs.Seen.{heap, Stands}
use Rattle.host_engine.specs.Kept.{state_of}

-- a primitive as a plain value; what is none is no integer
abbrev pub plain_of : Rv → Plain
plain_of (Prim k) = prim k
plain_of _ = prim Null

abbrev pub plain_cell : Cell → Plain
plain_cell (cell.Prim k) = prim k
plain_cell (cell.Node id) = prim Null

abbrev pub plain_row : Key × Rv → Key × Plain
plain_row e = (e.0, plain_of e.1)

abbrev pub plain_rows : Rows → Table
plain_rows t = map plain_row t

-- the table of an object, and the object as a plain value
abbrev pub entries_in : Option Content → Table
entries_in o = plain_rows (rows_of o)

abbrev pub state_in : Option Content → Plain
state_in o = state_of (entries_in o)

-- an object of integers
abbrev pub IsFlatObject : Option Content → Type 0
IsFlatObject None = ⊥
IsFlatObject (Some c) = (c.kind ≡ kind.Obj) × IsTrue (is_flat_table (plain_rows c.table))

-- what the root draft holds
abbrev pub root_of : Heap → Option Content
root_of h = shown h (root_draft h)

abbrev pub root_in : List Tree → Scope → Option Content
root_in ts s = root_of (heap ts s)

-- a scope over the store, whose root draft is an object of integers
pub record IsFlatScope (ts : List Tree) (s : Scope) : Type 0 where
  pub stands : Stands ts s
  pub flat : IsFlatObject (root_in ts s)
