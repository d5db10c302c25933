-- A node's table as it is given out.
use Rattle.std.proofs.Common.{ℕ, zero, suc, []}
use Rattle.numbered.specs.Tree.{Tree, branches_of}
use Rattle.page_tables.specs.declared.cell.Cell.{Cell}
use Rattle.page_tables.specs.declared.cell.Cell.TheVariants as cell
use Rattle.run_heap.specs.declared.value.Given.{Given}
use Rattle.run_heap.specs.declared.value.Given.TheVariants as given
use Rattle.run_heap.specs.declared.value.Rv.{Rv}
use Rattle.run_heap.specs.declared.value.Rv.TheVariants.{Prim, Obj, Frozen}
use Rattle.run_heap.specs.Heap.{given_table}
use Rattle.run_heap.specs.Operations.{Rows}

-- what a container with this number is given as
abbrev pub given_node : Given → ℕ → Rv
given_node given.Frozen id = Frozen id
given_node (given.From r) id = Obj r

abbrev pub given_cell : Given → Cell → Rv
given_cell g (cell.Prim k) = Prim k
given_cell g (cell.Node id) = given_node g id

abbrev pub node_table : Given → Tree → Rows
node_table g t = given_table g (branches_of t)
