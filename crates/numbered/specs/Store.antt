-- A store as the list of the states that its numbers stand for: number 1 is the first, and children come before parents.
use Rattle.std.specs.Prelude.{◌≡◌, ℕ, ◌+◌, ◌-◌, ◌^◌, ◌≤◌, List, [], ◌∷◌, ◌++◌, length, get_or, None, Bool, ◌||◌, nat_lt, IsTrue, ⊤}
use Rattle.value_model.specs.declared.key.Key.TheVariants as key
use Rattle.value_model.specs.Limits.{state_limit}
use Rattle.value_model.specs.Well.{well}
use Rattle.numbered.specs.Tree.{Tree, Branches, prim, node, none, branch, plain, own_weight}

-- a number that was given
abbrev pub IsNumber : List Tree → ℕ → Type 0
IsNumber ts id = (1 ≤ id) × (id ≤ length ts)

-- the state that a number stands for
abbrev pub tree_at : List Tree → ℕ → Tree
tree_at ts id = get_or ts (id - 1) (prim key.Null)

-- the sum of the own weights of all numbers
abbrev pub used : List Tree → ℕ
used [] = 0
used (t ∷ ts) = own_weight t + used ts

-- a primitive, or the state of a number that was given
abbrev pub IsOf : List Tree → Tree → Type 0
IsOf ts (prim k) = ⊤
IsOf ts (node id kind es) = IsNumber ts id × (tree_at ts id ≡ node id kind es)

abbrev pub AllOf : List Tree → Branches → Type 0
AllOf ts none = ⊤
AllOf ts (branch k v es) = IsOf ts v × AllOf ts es

-- what may be added: it has the next number, its children are there, and its value is one that is accepted and in order
abbrev pub IsNext : List Tree → Tree → Type 0
IsNext ts (prim k) = ⊥
IsNext ts (node id kind es) = record {
  number : id ≡ length ts + 1;
  children : AllOf ts es;
  accepted : state_limit (plain (node id kind es)) ≡ None;
  well : IsTrue (well (plain (node id kind es)));
}

abbrev pub AreNext : List Tree → List Tree → Type 0
AreNext ts [] = ⊤
AreNext ts (t ∷ more) = IsNext ts t × AreNext (ts ++ t ∷ []) more

-- a store's states were added one after another
abbrev pub IsStore : List Tree → Type 0
IsStore ts = AreNext [] ts

-- an addition is refused where the number would be 2^21, or the own weights of all numbers would pass 2^25
abbrev pub is_full : List Tree → Tree → Bool
is_full ts t = nat_lt 2097150 (length ts) || nat_lt (2 ^ 25) (used ts + own_weight t)
