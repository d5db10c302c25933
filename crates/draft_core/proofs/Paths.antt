-- The walk along the path of a draft: laws.
use Rattle.std.proofs.Common.{◌≡◌, ℕ, zero, suc, ◌+◌, ◌-◌, ◌<◌, ◌≤◌, List, [], ◌∷◌, ◌++◌, length, refl, ap, sym, ◌∙◌, subst, arith, true, false}
use Rattle.std.proofs.lemmas.List.{append_assoc, append-nil}
use Rattle.std.specs.Prelude.{◌^◌, pos, Option, Some, None, nat_lt, slice_get}
use Rattle.value_model.specs.declared.key.Key.{Key}
use Rattle.value_model.specs.declared.kind.Kind.{Kind}
use Rattle.value_model.specs.Safe.{IsSafe}
use Rattle.std.proofs.lemmas.Int.{ints}
use Rattle.value_model.specs.Plain as plain_value
use Rattle.numbered.proofs.Laws.{values_at, before_more, within_child}
use Rattle.numbered.specs.Store.{IsNumber, IsStore, tree_at}
use Rattle.numbered.specs.Tree.{Tree, Branches, prim, node, none, branch, plain, plains, containers, branches_of, children, before}
use Rattle.node_store.specs.Nodes.{kind_of, keys_in, cells_of, cells_in}
use Rattle.run_heap.specs.Places.{step, path_to, path_in, place_of}
use Rattle.run_heap.specs.Operations.{slot_of}
use Rattle.run_heap.specs.Heap.{Heap, is_draft}
use Rattle.run_heap.specs.declared.value.Rv.{Rv}
use Rattle.draft_core.specs.Paths.{HasPlaces, IsStep}

-- the path of a place that lies in the i-th entry
pub path_entry : (of : Kind) (at i m : ℕ) (es : Branches) (k : Key) (v : Tree) → slice_get (keys_in es) i ≡ Some k → slice_get (children es) i ≡ Some v → before i es ≤ m → m < before i es + containers v → path_in of at m es ≡ step of (at + i) k ∷ path_to (m - before i es) v
path_entry of at i m none k v p q a b = absurd (cc)
path_entry of at zero m (branch j w es) k v p q a b =
    let e : w ≡ v = cc in
    let f : j ≡ k = cc in
    let yes : nat_lt m (containers w) ≡ true = grind (arith, b, ap containers e) in
    let z : at + 0 ≡ at = omega arith in
    let y : m - 0 ≡ m = omega arith in
    rw (yes, z, y) (λ i. step of at (f i) ∷ path_to m (e i))
path_entry of at (suc i) m (branch j w es) k v p q a b =
    let no : nat_lt m (containers w) ≡ false = grind (arith, a) in
    let n : at + suc i ≡ at + 1 + i = omega arith in
    let back : m - (containers w + before i es) ≡ m - containers w - before i es = omega arith in
    rw (no, n, back) (path_entry of (at + 1) i (m - containers w) es k v p q (omega (arith, a)) (omega (arith, a, b)))

path_node : (t : Tree) (n i : ℕ) (k : Key) (v : Tree) → 1 ≤ n → slice_get (keys_in (branches_of t)) i ≡ Some k → slice_get (children (branches_of t)) i ≡ Some v → before i (branches_of t) ≤ n - 1 → n - 1 < before i (branches_of t) + containers v → path_to n t ≡ step (kind_of t) i k ∷ path_to (n - 1 - before i (branches_of t)) v
path_node (prim j) n i k v one p q a b = absurd (cc)
path_node (node id of es) zero i k v one p q a b = absurd (omega arith)
path_node (node id of es) (suc n) i k v one p q a b =
    let less : suc n - 1 ≡ n = omega arith in
    let z : 0 + i ≡ i = omega arith in
    let low : before i es ≤ n = rw less at a in
    let high : n < before i es + containers v = rw less at b in
    rw less (path_entry of 0 i n es k v p q low high ∙ ap (λ (m : ℕ). step of m k ∷ path_to (n - before i es) v) z)

pub keys_there : (es : Branches) (i : ℕ) (v : Tree) → slice_get (children es) i ≡ Some v → (P : Type 0) → ((k : Key) → slice_get (keys_in es) i ≡ Some k → P) → P
keys_there none i v h P f = absurd (cc)
keys_there (branch k w es) zero v h P f = f k refl
keys_there (branch k w es) (suc i) v h P f = keys_there es i v h P f

-- one step further: the steps so far and the path that is left are the whole path
pub path_further : (t v : Tree) (all steps more : List Key) (n i : ℕ) (k : Key) → 1 ≤ n → IsStep t i k → slice_get (children (branches_of t)) i ≡ Some v → before i (branches_of t) ≤ n - 1 → n - 1 < before i (branches_of t) + containers v → more ≡ steps ++ k ∷ [] → steps ++ path_to n t ≡ all → more ++ path_to (n - 1 - before i (branches_of t)) v ≡ all
path_further t v all steps more n i k one s q a b e w = keys_there (branches_of t) i v q _ (λ j p.
    let whole = path_node t n i j v one p q a b in
    let is = s j p in
    ap (λ (xs : List Key). xs ++ path_to (n - 1 - before i (branches_of t)) v) e
    ∙ append_assoc steps (k ∷ []) (path_to (n - 1 - before i (branches_of t)) v)
    ∙ ap (λ (x : Key). steps ++ x ∷ path_to (n - 1 - before i (branches_of t)) v) is
    ∙ ap (λ (xs : List Key). steps ++ xs) (sym whole) ∙ w)

pub path_ends : (t : Tree) (all steps : List Key) (n : ℕ) → n ≤ 0 → steps ++ path_to n t ≡ all → steps ≡ all
path_ends (prim k) all steps n z w = sym (append-nil steps) ∙ w
path_ends (node id of es) all steps zero z w = sym (append-nil steps) ∙ w
path_ends (node id of es) all steps (suc n) z w = absurd (omega arith)

-- ---- an index fits
some_values : (v : Tree) → 1 ≤ plain_value.values (plain v)
some_values (prim k) = omega arith
some_values (node id of es) = omega arith

entries_le : (es : Branches) → length (cells_in es) ≤ plain_value.values_in (plains es)
entries_le none = omega arith
entries_le (branch k v es) = let one = some_values v in omega (arith, entries_le es, one)

few_in : (t : Tree) → length (cells_of t) ≤ plain_value.values (plain t)
few_in (prim k) = omega arith
few_in (node id of es) = omega (arith, entries_le es)

pub few_entries : (ts : List Tree) (id : ℕ) → IsStore ts → IsNumber ts id → length (cells_of (tree_at ts id)) ≤ 2 ^ 20
few_entries ts id s n = let a = few_in (tree_at ts id) in let b = values_at ts id s n in omega (arith, a, b)

pub no_places : (es : Branches) (i : ℕ) (k : Key) → slice_get (children es) i ≡ Some (prim k) → HasPlaces i es → ⊥
no_places es i k h p =
    let one : i + 1 ≡ suc i = omega arith in
    let more = before_more i es (prim k) h in
    let q : before i es < before (suc i) es = subst (λ (j : ℕ). before i es < before j es) one p in
    omega (arith, more, q)

pub safe_index : (i : ℕ) → i ≤ 2 ^ 20 → IsSafe (pos i)
safe_index i h = (omega (arith, ints), omega (arith, ints, h))

pub inside_child : (t v : Tree) (n i : ℕ) → 1 ≤ n → slice_get (children (branches_of t)) i ≡ Some v → before i (branches_of t) ≤ n - 1 → n - 1 < before (i + 1) (branches_of t) → n - 1 < before i (branches_of t) + containers v
inside_child t v n i one h a b = within_child i (n - 1) (branches_of t) v h b

pub has_places : (es : Branches) (i n : ℕ) → before i es ≤ n → n < before (i + 1) es → HasPlaces i es
has_places es i n a b = omega (arith, a, b)

pub place_path : (h : Heap) (v : Rv) (p : List Key) → is_draft h v ≡ true → p ≡ path_to (slot_of v) (tree_at h.states h.root) → Some p ≡ place_of h v
place_path h v p d e = rw d (ap (λ (x : List Key). let o : Option (List Key) = Some x in o) e)

pub no_path : (h : Heap) (v : Rv) → is_draft h v ≡ false → None ≡ place_of h v
no_path h v d = rw d refl
