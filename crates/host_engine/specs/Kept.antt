-- What a host keeps, as its machine.
use Rattle.std.specs.Prelude.{◌≡◌, ℕ, ◌+◌, ◌≤◌, ◌^◌, ℤ, IsTrue, List, length}
use Rattle.value_model.specs.declared.key.Key.{Key}
use Rattle.value_model.specs.declared.key.Key.TheVariants.{Int}
use Rattle.value_model.specs.declared.kind.Kind.TheVariants as kind
use Rattle.value_model.specs.Plain.{Plain, Table as TableOf, prim, node, entries}
use Rattle.numbered.specs.Store.{IsNumber, tree_at, used as used_by}
use Rattle.numbered.specs.Tree.{Tree, plain, number}
use Rattle.host_machine.specs.Flat.{is_flat}
use Rattle.host_machine.specs.Machine.{Machine, table_of}
use Rattle.host_engine.specs.declared.fields.Field.{Field}

abbrev pub number_of : ℤ → Plain
number_of n = prim (Int n)

abbrev pub of_field : Field → Key × Plain
of_field f = (f.key.now, number_of f.number)

-- the object with these entries
abbrev pub state_of : TableOf → Plain
state_of es = node kind.Obj (entries es)

-- the entries of the state that a store keeps under a number
abbrev pub table_at : List Tree → ℕ → TableOf
table_at ts root = table_of (plain (tree_at ts root))

-- the machine whose state a store keeps under a number
abbrev pub machine_of : List Tree → ℕ → ℕ → ℕ → Machine
machine_of ts root past seq = record { state = tree_at ts root; next = length ts + 1; used = used_by ts; past = past; seq = seq }

-- a flat state is kept under the number
pub record IsFlatState (ts : List Tree) (root : ℕ) : Type 0 where
  pub inside : IsNumber ts root
  pub named : number (tree_at ts root) ≡ root
  pub flat : IsTrue (is_flat (plain (tree_at ts root)))

-- and the numbers are within their limits
pub record IsKept (ts : List Tree) (root mint past seq turns : ℕ) : Type 0 where
  pub state : IsFlatState ts root
  pub mint_in : mint ≤ turns
  pub past_in : past ≤ 100
  pub seq_in : seq ≤ turns
  pub turns_in : turns ≤ 2 ^ 48
