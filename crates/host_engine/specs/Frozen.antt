-- A flat root as a node of the store, and what keeping a change of it leaves.
use Rattle.std.specs.Prelude.{◌≡◌, ◌+◌, ◌≤◌, ◌^◌, nat_lt, List, [], ◌∷◌, ◌++◌, length, true, false, Result, Ok, Err}
use Rattle.value_model.specs.declared.key.Key.{Key}
use Rattle.value_model.specs.declared.key.Key.TheVariants.{Null}
use Rattle.value_model.specs.Plain.{Plain, Table as TableOf, prim, node, weight}
use Rattle.numbered.specs.Tree.{Tree}
use Rattle.numbered.specs.Loading.{numbered}
use Rattle.numbered.specs.Store.{is_full}
use Rattle.node_store.specs.Added.{state_of as node_state}
use Rattle.node_store.specs.Nodes.{CellsBelow}
use Rattle.page_tables.specs.declared.cell.Cell.{Cell}
use Rattle.page_tables.specs.declared.cell.Cell.TheVariants as cell
use Rattle.values.specs.declared.patch.Pair.{Pair}
use Rattle.host_machine.specs.Differences.{differences}
use Rattle.host_machine.specs.Machine.{is_heavy}
use Rattle.host_engine.specs.Kept.{state_of}
use Rattle.host_engine.specs.declared.change.Change.{Change}
use Rattle.host_engine.specs.declared.change.ChangeStop.{ChangeStop}
use Rattle.host_engine.specs.declared.change.ChangeStop.TheVariants as stop
use Rattle.host_engine.specs.declared.change.Plan.{Plan}

abbrev pub key_of : Key × Plain → Key
key_of e = e.0

-- a primitive as a cell
abbrev pub leaf_cell : Plain → Cell
leaf_cell (prim k) = cell.Prim k
leaf_cell (node kind es) = cell.Prim Null

abbrev pub cell_of : Key × Plain → Cell
cell_of e = leaf_cell e.1

-- the object of a table under the next number
abbrev pub frozen : List Tree → TableOf → Tree
frozen ts es = numbered (length ts + 1) (state_of es)

abbrev pub between_tables : TableOf → TableOf → Pair
between_tables ds es = record { forward = differences ds es; inverse = differences es ds }

-- its patches
pub record IsPair (old new : TableOf) (p : Pair) : Type 0 where
  pub small : weight (state_of new) ≤ 2 ^ 20
  pub pair : p ≡ between_tables old new

abbrev pub Pairs : TableOf → TableOf → Result Pair ChangeStop → Type 0
Pairs old new (Ok p) = IsPair old new p
Pairs old new (Err stop.TooBig) = nat_lt (2 ^ 20) (weight (state_of new)) ≡ true
Pairs old new (Err stop.Memory) = Unit {0}
Pairs old new (Err stop.Full) = ⊥
Pairs old new (Err stop.PatchesTooBig) = ⊥

-- a change that is to be kept
pub record IsPlan (old new : TableOf) (p : Plan) : Type 0 where
  pub small : weight (state_of new) ≤ 2 ^ 20
  pub node : (ts : List Tree) → node_state ts p.node ≡ frozen ts new
  pub below : (ts : List Tree) → CellsBelow ts p.node.cells
  pub pair : p.pair ≡ between_tables old new

abbrev pub Plans : TableOf → TableOf → Result Plan ChangeStop → Type 0
Plans old new (Ok p) = IsPlan old new p
Plans old new (Err stop.TooBig) = nat_lt (2 ^ 20) (weight (state_of new)) ≡ true
Plans old new (Err stop.Memory) = Unit {0}
Plans old new (Err stop.Full) = ⊥
Plans old new (Err stop.PatchesTooBig) = ⊥

-- a change that is kept: the new state is the last of the store
pub record IsKeptChange (ts us : List Tree) (old new : TableOf) (c : Change) : Type 0 where
  pub small : weight (state_of new) ≤ 2 ^ 20
  pub room : is_full ts (frozen ts new) ≡ false
  pub light : is_heavy (between_tables old new) ≡ false
  pub number : c.root ≡ length us
  pub added : us ≡ ts ++ frozen ts new ∷ []
  pub pair : c.pair ≡ between_tables old new

-- one that is refused leaves the store
pub record IsBigChange (ts us : List Tree) (new : TableOf) : Type 0 where
  pub stands : us ≡ ts
  pub big : nat_lt (2 ^ 20) (weight (state_of new)) ≡ true

pub record IsFullChange (ts us : List Tree) (new : TableOf) : Type 0 where
  pub stands : us ≡ ts
  pub small : weight (state_of new) ≤ 2 ^ 20
  pub full : is_full ts (frozen ts new) ≡ true

pub record IsHeavyChange (ts us : List Tree) (old new : TableOf) : Type 0 where
  pub stands : us ≡ ts
  pub small : weight (state_of new) ≤ 2 ^ 20
  pub room : is_full ts (frozen ts new) ≡ false
  pub heavy : is_heavy (between_tables old new) ≡ true

abbrev pub Changes : List Tree → List Tree → TableOf → TableOf → Result Change ChangeStop → Type 0
Changes ts us old new (Ok c) = IsKeptChange ts us old new c
Changes ts us old new (Err stop.TooBig) = IsBigChange ts us new
Changes ts us old new (Err stop.Full) = IsFullChange ts us new
Changes ts us old new (Err stop.PatchesTooBig) = IsHeavyChange ts us old new
Changes ts us old new (Err stop.Memory) = us ≡ ts
