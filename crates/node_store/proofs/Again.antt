-- A store's state is the one that its node stands for: laws.
use Rattle.std.proofs.Common.{◌≡◌, ℕ, ◌-◌, List, [], take, refl, sym, true, Less, Equal, Greater}
use Rattle.std.specs.List.{zip}
use Rattle.std.specs.Ordering.{is_eq}
use Rattle.std.specs.declared.cmp.Ordering.{Ordering}
use Rattle.value_model.specs.declared.key.Key.{Key}
use Rattle.value_model.specs.declared.key.Key.TheVariants as key
use Rattle.value_model.specs.declared.kind.Kind.{Kind}
use Rattle.value_model.specs.declared.kind.Kind.TheVariants as kind
use Rattle.value_model.specs.Order.{key_exact}
use Rattle.value_model.specs.Well.{all_fit}
use Rattle.value_model.specs.Search.{left_true, right_true}
use Rattle.numbered.specs.Tree.{Tree, Branches, prim, node, none, branch, plains}
use Rattle.numbered.specs.Store.{IsNumber, tree_at, IsNext, IsStore, IsOf, AllOf}
use Rattle.numbered.specs.Laws.{state_at}
use Rattle.node_store.specs.Nodes.{rows, cell_tree, branches, built, kind_of, keys_in, keys_at, keys_of, cell_of, cells_in, cells_of}

cell_back : (us : List Tree) (t : Tree) → IsOf us t → cell_tree us (cell_of t) ≡ t
cell_back us (prim k) h = refl
cell_back us (node id of es) h = h.1

zip_back : (us : List Tree) (es : Branches) → AllOf us es → branches us (zip (keys_in es) (cells_in es)) ≡ es
zip_back us none h = refl
zip_back us (branch k v es) h =
    let here = cell_back us v h.0 in
    let rest = zip_back us es h.1 in
    λ i. branch k (here i) (rest i)

list_back : (us : List Tree) (ks : List Key) (es : Branches) → AllOf us es → all_fit kind.List (plains es) ≡ true → branches us (rows kind.List ks (cells_in es)) ≡ es
list_back us ks none h f = refl
list_back us ks (branch key.Null v es) h f =
    let here = cell_back us v h.0 in
    let rest = list_back us ks es h.1 f in
    λ i. branch key.Null (here i) (rest i)
list_back us ks (branch (key.Bool b) v es) h f = absurd (cc)
list_back us ks (branch (key.Int n) v es) h f = absurd (cc)
list_back us ks (branch (key.Text s) v es) h f = absurd (cc)

tied : (o : Ordering) → is_eq o ≡ true → o ≡ Equal
tied Less h = absurd (cc)
tied Equal h = refl
tied Greater h = absurd (cc)

set_back : (us : List Tree) (ks : List Key) (es : Branches) → AllOf us es → all_fit kind.Set (plains es) ≡ true → branches us (rows kind.Set ks (cells_in es)) ≡ es
set_back us ks none h f = refl
set_back us ks (branch k (prim j) es) h f =
    let same : k ≡ j = key_exact k j (tied _ (left_true _ _ f)) in
    let rest = set_back us ks es h.1 (right_true _ _ f) in
    λ i. branch (sym same i) (prim j) (rest i)
set_back us ks (branch k (node id of ds) es) h f = absurd (cc)

branches_back : (us : List Tree) (of : Kind) (es : Branches) → AllOf us es → all_fit of (plains es) ≡ true → branches us (rows of (keys_at of es) (cells_in es)) ≡ es
branches_back us kind.Obj es h f = zip_back us es h
branches_back us kind.Map es h f = zip_back us es h
branches_back us kind.List es h f = list_back us [] es h f
branches_back us kind.Set es h f = set_back us (keys_in es) es h f

next_back : (us : List Tree) (t : Tree) → IsNext us t → t ≡ built us (kind_of t) (keys_of t) (cells_of t)
next_back us (prim k) h = absurd h
next_back us (node id of es) h =
    let fit = right_true _ _ (left_true _ _ h.well) in
    let rest = branches_back us of es h.children fit in
    λ i. node (h.number i) of (sym rest i)

pub node_again : (ts : List Tree) (id : ℕ) → IsStore ts → IsNumber ts id → tree_at ts id ≡ built (take (id - 1) ts) (kind_of (tree_at ts id)) (keys_of (tree_at ts id)) (cells_of (tree_at ts id))
node_again ts id s n = next_back (take (id - 1) ts) (tree_at ts id) (state_at ts id s n)
