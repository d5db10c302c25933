-- What holds of stores and of numbered states.
use Rattle.std.proofs.Common.{◌≡◌, ℕ, zero, suc, ◌+◌, ◌-◌, ◌<◌, ◌≤◌, List, [], ◌∷◌, ◌++◌, length, get_or, take, subst, arith}
use Rattle.std.specs.Prelude.{None, ◌^◌, IsTrue}
use Rattle.std.proofs.lemmas.List.{append-nil, append_assoc}
use Rattle.value_model.specs.declared.key.Key.TheVariants as key
use Rattle.value_model.specs.Limits.{state_limit}
use Rattle.value_model.specs.Well.{well}
use Rattle.value_model.specs.Plain as plain_value
use Rattle.value_model.specs.Plain.{Plain, weight}
use Rattle.numbered.specs.Tree.{Tree, prim, node, plain}
use Rattle.numbered.specs.Store.{IsNumber, tree_at, IsNext, AreNext, IsStore}
use Rattle.numbered.specs.Loading.{numbered}

-- ---- a store's states
pub next_at : (ts more : List Tree) (i : ℕ) (d : Tree) → AreNext ts more → i < length more → IsNext (ts ++ take i more) (get_or more i d)
next_at ts [] i d s h = absurd (omega arith)
next_at ts (t ∷ more) zero d s h = rw append-nil s.0
next_at ts (t ∷ more) (suc i) d s h =
    let rest = next_at (ts ++ t ∷ []) more i d s.1 (omega arith) in
    subst (λ us. IsNext us (get_or more i d)) (append_assoc ts (t ∷ []) (take i more)) rest

pub state_at : (ts : List Tree) (id : ℕ) → IsStore ts → IsNumber ts id → IsNext (take (id - 1) ts) (tree_at ts id)
state_at ts id s h = next_at [] ts (id - 1) (prim key.Null) s (omega (arith, h.0, h.1))

-- the second list begins with the first
pub record Extends (ts us : List Tree) : Type 0 where
  pub longer : length ts ≤ length us
  pub same : (i : ℕ) (d : Tree) → i < length ts → get_or us i d ≡ get_or ts i d

-- ---- what an accepted state measures
pub record IsSmall (v : Plain) : Type 0 where
  pub depth : plain_value.depth v ≤ 32
  pub weight : weight v ≤ 2 ^ 20

next_well : (ts : List Tree) (t : Tree) → IsNext ts t → IsTrue (well (plain t))
next_well ts (prim k) h = absurd h
next_well ts (node id kind es) h = h.well

next_accepted : (ts : List Tree) (t : Tree) → IsNext ts t → state_limit (plain t) ≡ None
next_accepted ts (prim k) h = absurd h
next_accepted ts (node id kind es) h = h.accepted

pub well_at : (ts : List Tree) (id : ℕ) → IsStore ts → IsNumber ts id → IsTrue (well (plain (tree_at ts id)))
well_at ts id s h = next_well (take (id - 1) ts) (tree_at ts id) (state_at ts id s h)

pub accepted_at : (ts : List Tree) (id : ℕ) → IsStore ts → IsNumber ts id → state_limit (plain (tree_at ts id)) ≡ None
accepted_at ts id s h = next_accepted (take (id - 1) ts) (tree_at ts id) (state_at ts id s h)
