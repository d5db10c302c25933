-- Numbered states: a plain value in which every container carries a number, as structural sharing gives them out.
use Rattle.std.specs.Prelude.{◌≡◌, ℕ, zero, suc, ◌+◌, ◌-◌, nat_lt, if◌then◌else◌, Option, Some, None, List, [], ◌∷◌}
use Rattle.value_model.specs.declared.key.Key.{Key}
use Rattle.value_model.specs.declared.kind.Kind.{Kind}
use Rattle.value_model.specs.Plain as plain_value
use Rattle.value_model.specs.Plain.{Plain, Entries, key_weight, place_weight}

-- the form of a plain value, with a number at each container
mutual
  pub data Tree : Type 0 where
    prim : Key → Tree
    node : ℕ → Kind → Branches → Tree

  pub data Branches : Type 0 where
    none : Branches
    branch : Key → Tree → Branches → Branches

-- the plain value: the numbers are forgotten
abbrev mutual
  pub plain : Tree → Plain
  plain (prim k) = plain_value.prim k
  plain (node id kind es) = plain_value.node kind (plains es)

  pub plains : Branches → Entries
  plains none = plain_value.none
  plains (branch k v es) = plain_value.entry k (plain v) (plains es)

-- the number of a container
abbrev pub number : Tree → ℕ
number (prim k) = 0
number (node id kind es) = id

-- how many container places there are, the root counted
abbrev mutual
  pub containers : Tree → ℕ
  containers (prim k) = 0
  containers (node id kind es) = 1 + containers_in es

  pub containers_in : Branches → ℕ
  containers_in none = 0
  containers_in (branch k v es) = containers v + containers_in es

-- the n-th container place in pre-order, the root being place 0
abbrev mutual
  pub place : ℕ → Tree → Option Tree
  place n (prim k) = None
  place zero (node id kind es) = Some (node id kind es)
  place (suc n) (node id kind es) = place_in n es

  pub place_in : ℕ → Branches → Option Tree
  place_in n none = None
  place_in n (branch k v es) = if nat_lt n (containers v) then place n v else place_in (n - containers v) es

-- containers with equal numbers carry equal subtrees
abbrev pub IsNumberedState : Tree → Type 0
IsNumberedState t = (m n : ℕ) (u v : Tree) → place m t ≡ Some u → place n t ≡ Some v → number u ≡ number v → u ≡ v

-- what stands under a container
abbrev pub branches_of : Tree → Branches
branches_of (prim k) = none
branches_of (node id kind es) = es

abbrev pub children : Branches → List Tree
children none = []
children (branch k v es) = v ∷ children es

-- how many container places come before the i-th entry
abbrev pub before : ℕ → Branches → ℕ
before zero es = 0
before (suc i) none = 0
before (suc i) (branch k v es) = containers v + before i es

-- a child that is a container weighs 1 in its parent's own weight
abbrev pub child_weight : Tree → ℕ
child_weight (prim k) = key_weight k
child_weight (node id kind es) = 1

abbrev pub child_weights : Kind → Branches → ℕ
child_weights kind none = 0
child_weights kind (branch k v es) = place_weight kind k + child_weight v + child_weights kind es

-- the own weight of a node: as a value's weight, but each container child counts 1
abbrev pub own_weight : Tree → ℕ
own_weight (prim k) = 0
own_weight (node id kind es) = 1 + child_weights kind es
