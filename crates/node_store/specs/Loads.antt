-- Loading, step by step: what was loaded, and what the rest will add.
use Rattle.std.proofs.Common.{◌≡◌, ◌+◌, List, ◌++◌, length, map, true, false}
use Rattle.std.specs.Prelude.{Bool, None, ⊤, Result, MatchResult}
use Rattle.value_model.specs.declared.key.Key.{Key}
use Rattle.value_model.specs.Limits.{value_limit}
use Rattle.value_model.specs.Plain as plain_value
use Rattle.value_model.specs.Plain.{Plain, Entries, entries}
use Rattle.numbered.specs.Tree.{Tree, Branches, none, branch}
use Rattle.numbered.specs.Loading.{numbered, numbered_in, post_orders, loaded, any_full, load_full}
use Rattle.numbered.specs.Laws.{Extends}
use Rattle.node_store.specs.declared.fault.StoreFault.{StoreFault}
use Rattle.node_store.specs.declared.fault.StoreFault.TheVariants.{Full}
use Rattle.page_tables.specs.declared.cell.Cell.{Cell}
use Rattle.page_tables.specs.declared.cell.Cell.TheVariants as cell
use Rattle.node_store.specs.Nodes.{CellBelow, CellsBelow, cell_tree, branches}

-- the cell stands for a node
abbrev pub IsNode : Cell → Type 0
IsNode (cell.Prim k) = ⊥
IsNode (cell.Node id) = ⊤

-- ---- entries one after another
abbrev pub loaded_in : List Tree → Entries → List Tree
loaded_in ts es = ts ++ post_orders (numbered_in (length ts + 1) es)

abbrev pub full_in : List Tree → Entries → Bool
full_in ts es = any_full ts (post_orders (numbered_in (length ts + 1) es))

abbrev pub joined : Branches → Branches → Branches
joined none ds = ds
joined (branch k v es) ds = branch k v (joined es ds)

-- each value is within the limits
abbrev pub AllWithin : Entries → Type 0
AllWithin plain_value.none = ⊤
AllWithin (plain_value.entry k v es) = (value_limit v ≡ None) × AllWithin es

-- a container that was just loaded has the last number
abbrev pub IsLast : List Tree → Cell → Type 0
IsLast us (cell.Prim k) = ⊤
IsLast us (cell.Node id) = id ≡ length us

-- a value was loaded, and the cell stands for it
pub record IsLoaded (ts us : List Tree) (v : Plain) (c : Cell) : Type 0 where
  pub store : us ≡ loaded ts v
  pub room : load_full ts v ≡ false
  pub below : CellBelow us c
  pub same : cell_tree us c ≡ numbered (length ts + 1) v
  pub last : IsLast us c

-- what a refusal leaves, and when it is for want of room
abbrev pub Refused : List Tree → List Tree → Bool → StoreFault → Type 0
Refused ts us full e = Extends ts us × (e ≡ Full → full ≡ true)

abbrev pub Loads : Result Cell StoreFault → List Tree → List Tree → Plain → Type 0
Loads r ts us v = MatchResult r (λ c. IsLoaded ts us v c) (λ e. Refused ts us (load_full ts v) e)

-- some entries were loaded as these rows, and the rest will do what is left
pub record IsLoading (ts : List Tree) (all : Entries) (us : List Tree) (rs : List (Key × Cell)) (rest : Entries) : Type 0 where
  pub extends : Extends ts us
  pub below : CellsBelow us (map (λ r. r.1) rs)
  pub store : loaded_in us rest ≡ loaded_in ts all
  pub room : full_in us rest ≡ full_in ts all
  pub same : joined (branches us rs) (numbered_in (length us + 1) rest) ≡ numbered_in (length ts + 1) all
  pub within : AllWithin rest

-- ---- all entries were loaded
pub record AreLoaded (ts : List Tree) (es : Entries) (us : List Tree) (rs : List (Key × Cell)) : Type 0 where
  pub extends : Extends ts us
  pub below : CellsBelow us (map (λ r. r.1) rs)
  pub store : us ≡ loaded_in ts es
  pub room : full_in ts es ≡ false
  pub same : branches us rs ≡ numbered_in (length ts + 1) es

-- ---- what the loops over entries do
abbrev pub LoadsTable : Result (List (Key × Cell)) StoreFault → List Tree → List Tree → Entries → Type 0
LoadsTable r ts us es = MatchResult r (λ rs. AreLoaded ts es us rs) (λ e. Refused ts us (full_in ts es) e)
