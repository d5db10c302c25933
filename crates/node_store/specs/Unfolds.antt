-- What is shown of a table's entries, as values.
use Rattle.std.proofs.Common.{List}
use Rattle.std.specs.Prelude.{⊤}
use Rattle.value_model.specs.declared.key.Key.{Key}
use Rattle.value_model.specs.declared.key.Key.TheVariants as key
use Rattle.value_model.specs.Plain.{Plain}
use Rattle.numbered.specs.Tree.{Tree, plain}
use Rattle.page_tables.specs.declared.cell.Cell.{Cell}
use Rattle.node_store.specs.Nodes.{cell_tree}

abbrev pub cell_value : List Tree → Cell → Plain
cell_value us c = plain (cell_tree us c)

-- an entry's value
abbrev pub row_value : List Tree → Key × Cell → Plain
row_value us r = cell_value us r.1

-- and its key
abbrev pub row_key : Key × Cell → Key
row_key r = r.0

-- an entry as an entry of the value
abbrev pub shown : List Tree → Key × Cell → Key × Plain
shown us r = (r.0, plain (cell_tree us r.1))

-- an object's key is a text
abbrev pub IsText : Key → Type 0
IsText (key.Text s) = ⊤
IsText _ = ⊥
