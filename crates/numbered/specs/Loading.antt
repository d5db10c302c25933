-- Loading: each container place of a value gets its own number in post-order, keys and indexes ascending.
use Rattle.std.specs.Prelude.{ℕ, ◌+◌, List, [], ◌∷◌, ◌++◌, length, Bool, false, ◌||◌}
use Rattle.value_model.specs.Plain as plain_value
use Rattle.value_model.specs.Plain.{Plain, Entries}
use Rattle.numbered.specs.Tree.{Tree, Branches, prim, node, none, branch}
use Rattle.numbered.specs.Store.{is_full}

-- how many container places a value has
abbrev mutual
  pub places : Plain → ℕ
  places (plain_value.prim k) = 0
  places (plain_value.node kind es) = 1 + places_in es

  pub places_in : Entries → ℕ
  places_in plain_value.none = 0
  places_in (plain_value.entry k v es) = places v + places_in es

-- the value numbered from `next` on: what is in a container has the numbers before its own
abbrev mutual
  pub numbered : ℕ → Plain → Tree
  numbered next (plain_value.prim k) = prim k
  numbered next (plain_value.node kind es) = node (next + places_in es) kind (numbered_in next es)

  pub numbered_in : ℕ → Entries → Branches
  numbered_in next plain_value.none = none
  numbered_in next (plain_value.entry k v es) = branch k (numbered next v) (numbered_in (next + places v) es)

-- the container places of a state in post-order
abbrev mutual
  pub post_order : Tree → List Tree
  post_order (prim k) = []
  post_order (node id kind es) = post_orders es ++ node id kind es ∷ []

  pub post_orders : Branches → List Tree
  post_orders none = []
  post_orders (branch k v es) = post_order v ++ post_orders es

-- what loading a value adds to a store
abbrev pub additions : List Tree → Plain → List Tree
additions ts v = post_order (numbered (length ts + 1) v)

-- the store after loading
abbrev pub loaded : List Tree → Plain → List Tree
loaded ts v = ts ++ additions ts v

-- one of these additions, made in turn, would be refused
abbrev pub any_full : List Tree → List Tree → Bool
any_full ts [] = false
any_full ts (t ∷ more) = is_full ts t || any_full (ts ++ t ∷ []) more

abbrev pub load_full : List Tree → Plain → Bool
load_full ts v = any_full ts (additions ts v)
