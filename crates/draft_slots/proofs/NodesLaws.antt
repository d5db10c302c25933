-- A node's table as it is given out: laws.
use Rattle.std.proofs.Common.{◌≡◌, ◌≢◌, ℕ, zero, suc, ◌+◌, ◌<◌, List, [], ◌∷◌, length, get_or, refl, ap, sym, ◌∙◌, subst, arith, true, false, Less, Equal, Greater}
use Rattle.std.specs.Prelude.{Option, Some, None, option_map, IsTrue, MatchOption, IfSome, slice_get}
use Rattle.std.specs.FinMap.Entries.{is_sorted, below_all}
use Rattle.std.specs.Ordering.{is_eq, ordering_reverse}
use Rattle.std.proofs.lemmas.Cmp.{tied_itself}
use Rattle.value_model.specs.declared.key.Key.{Key}
use Rattle.value_model.specs.declared.key.Key.TheVariants as key
use Rattle.value_model.specs.declared.kind.Kind.{Kind}
use Rattle.value_model.specs.declared.kind.Kind.TheVariants as kind
use Rattle.value_model.specs.Order.{key_cmp, key_total, key_exact}
use Rattle.value_model.specs.Places.{ascends_at}
use Rattle.value_model.specs.Plain.{Plain, list_of}
use Rattle.value_model.specs.Search.{left_true, right_true, less_from_test}
use Rattle.value_model.specs.Well.{well, all_fit}
use Rattle.numbered.specs.Laws.{well_at}
use Rattle.numbered.specs.Store.{IsNumber, IsStore, tree_at}
use Rattle.numbered.specs.Tree.{Tree, Branches, prim, node, none, branch, plain, plains, containers, branches_of, children, before}
use Rattle.node_store.specs.Nodes.{kind_of, keys_of, keys_in, cells_of, cells_in, cell_of, cell_tree, CellBelow}
use Rattle.node_store.proofs.Tables.{cell_again}
use Rattle.page_tables.specs.declared.cell.Cell.{Cell}
use Rattle.page_tables.specs.declared.cell.Cell.TheVariants as cell
use Rattle.run_heap.specs.declared.value.Given.{Given}
use Rattle.run_heap.specs.declared.value.Given.TheVariants as given
use Rattle.run_heap.specs.declared.value.Rv.{Rv}
use Rattle.run_heap.specs.declared.value.Rv.TheVariants.{Prim, Obj, Frozen}
use Rattle.run_heap.specs.Laws.{sorted_given}
use Rattle.run_heap.specs.Heap.{after, given_value, given_table}
use Rattle.run_heap.specs.Operations as spec
use Rattle.run_heap.specs.Operations.{Rows, value_at, position}
use Rattle.draft_slots.specs.Nodes.{given_node, given_cell, node_table}

-- ---- how many entries, and their keys
pub table_length : (g : Given) (es : Branches) → length (given_table g es) ≡ length (cells_in es)
table_length g none = refl
table_length g (branch k v es) = ap suc (table_length (after g (containers v)) es)

pub table_keys : (g : Given) (es : Branches) → spec.keys_of (given_table g es) ≡ keys_in es
table_keys g none = refl
table_keys g (branch k v es) = ap (λ (ks : List Key). k ∷ ks) (table_keys (after g (containers v)) es)

-- ---- the value of an entry
after_zero : (g : Given) → after g 0 ≡ g
after_zero given.Frozen = refl
after_zero (given.From r) = let z : r.slot + 0 ≡ r.slot = omega arith in λ i. given.From (record { scope = r.scope; slot = z i })

after_after : (g : Given) (m n : ℕ) → after (after g m) n ≡ after g (m + n)
after_after given.Frozen m n = refl
after_after (given.From r) m n = let z : r.slot + m + n ≡ r.slot + (m + n) = omega arith in λ i. given.From (record { scope = r.scope; slot = z i })

pub table_value : (g : Given) (i : ℕ) (es : Branches) (v : Tree) → slice_get (children es) i ≡ Some v → value_at i (given_table g es) ≡ Some (given_value (after g (before i es)) v)
table_value g i none v h = absurd (cc)
table_value g zero (branch k w es) v h =
    let e : w ≡ v = cc in
    let z = after_zero g in
    λ j. Some (given_value (sym z j) (e j))
table_value g (suc i) (branch k w es) v h =
    table_value (after g (containers w)) i es v h ∙ ap (λ (a : Given). let o : Option Rv = Some (given_value a v) in o) (after_after g (containers w) (before i es))

container_given : (g : Given) (t : Tree) (id : ℕ) → cell_of t ≡ cell.Node id → given_value g t ≡ given_node g id
container_given g (prim k) id h = absurd (cc)
container_given given.Frozen (node i of es) id h = let e : i ≡ id = cc in ap Frozen e
container_given (given.From r) (node i of es) id h = refl

pub cell_given : (ts : List Tree) (g : Given) (c : Cell) → IsStore ts → CellBelow ts c → given_value g (cell_tree ts c) ≡ given_cell g c
cell_given ts g (cell.Prim k) s b = refl
cell_given ts g (cell.Node id) s b = container_given g (tree_at ts id) id (cell_again ts (cell.Node id) s b)

-- the value at an entry, by the cell that is there
pub value_given : (ts : List Tree) (g : Given) (i : ℕ) (es : Branches) (c : Cell) → IsStore ts → CellBelow ts c → slice_get (children es) i ≡ Some (cell_tree ts c) → value_at i (given_table g es) ≡ Some (given_cell (after g (before i es)) c)
value_given ts g i es c s b h = table_value g i es (cell_tree ts c) h ∙ ap Some (cell_given ts (after g (before i es)) c s b)

-- ---- an entry, by its key and its value
pub entry_from : (t : Rows) (i : ℕ) (k : Key) (v : Rv) → slice_get (spec.keys_of t) i ≡ Some k → value_at i t ≡ Some v → slice_get t i ≡ Some (k, v)
entry_from [] i k v p q = absurd (cc)
entry_from (e ∷ t) zero k v p q = let a : e.0 ≡ k = cc in let b : e.1 ≡ v = cc in λ j. Some (a j, b j)
entry_from (e ∷ t) (suc i) k v p q = entry_from t i k v p q

list_key : (es : Branches) (i : ℕ) → all_fit kind.List (plains es) ≡ true → i < length (cells_in es) → slice_get (keys_in es) i ≡ Some key.Null
list_key none i f h = absurd (omega arith)
list_key (branch key.Null v es) zero f h = refl
list_key (branch key.Null v es) (suc i) f h = list_key es i f (omega arith)
list_key (branch (key.Bool b) v es) i f h = absurd (cc)
list_key (branch (key.Int n) v es) i f h = absurd (cc)
list_key (branch (key.Text s) v es) i f h = absurd (cc)

null_in : (t : Tree) (i : ℕ) → IsTrue (well (plain t)) → kind_of t ≡ kind.List → i < length (cells_of t) → slice_get (keys_in (branches_of t)) i ≡ Some key.Null
null_in (prim k) i w h l = absurd (cc)
null_in (node id of es) i w h l =
    let fit = right_true _ _ (left_true _ _ w) in
    list_key es i (subst (λ (x : Kind). all_fit x (plains es) ≡ true) h fit) l

-- in a list each key is null
pub null_key : (ts : List Tree) (id i : ℕ) → IsStore ts → IsNumber ts id → kind_of (tree_at ts id) ≡ kind.List → i < length (cells_of (tree_at ts id)) → slice_get (keys_in (branches_of (tree_at ts id))) i ≡ Some key.Null
null_key ts id i s n h l = null_in (tree_at ts id) i (well_at ts id s n) h l

keyed_in : (t : Tree) → kind_of t ≢ kind.List → keys_of t ≡ keys_in (branches_of t)
keyed_in (prim k) h = refl
keyed_in (node id kind.List es) h = absurd (h refl)
keyed_in (node id kind.Obj es) h = refl
keyed_in (node id kind.Map es) h = refl
keyed_in (node id kind.Set es) h = refl

pub keyed_keys : (g : Given) (t : Tree) → kind_of t ≢ kind.List → keys_of t ≡ spec.keys_of (node_table g t)
keyed_keys g t h = keyed_in t h ∙ sym (table_keys g (branches_of t))

-- ---- where a key is
sorted_kind : (of : Kind) (es : List (Key × Plain)) → of ≢ kind.List → ascends_at of es ≡ true → is_sorted key_cmp es ≡ true
sorted_kind kind.List es other h = absurd (other refl)
sorted_kind kind.Obj es other h = h
sorted_kind kind.Map es other h = h
sorted_kind kind.Set es other h = h

sorted_in : (g : Given) (t : Tree) → IsTrue (well (plain t)) → kind_of t ≢ kind.List → is_sorted key_cmp (node_table g t) ≡ true
sorted_in g (prim k) w h = refl
sorted_in g (node id of es) w h = sorted_given g es ∙ sorted_kind of (list_of (plains es)) h (left_true _ _ (left_true _ _ w))

pub sorted_node : (ts : List Tree) (id : ℕ) (g : Given) → IsStore ts → IsNumber ts id → kind_of (tree_at ts id) ≢ kind.List → is_sorted key_cmp (node_table g (tree_at ts id)) ≡ true
sorted_node ts id g s n h = sorted_in g (tree_at ts id) (well_at ts id s n) h

below_member : (x k : Key) (t : Rows) (i : ℕ) → below_all key_cmp x t ≡ true → slice_get (spec.keys_of t) i ≡ Some k → key_cmp x k ≡ Less
below_member x k [] i h p = absurd (cc)
below_member x k (e ∷ t) zero h p = let q : e.0 ≡ k = cc in subst (λ (j : Key). key_cmp x j ≡ Less) q (less_from_test _ (left_true _ _ h))
below_member x k (e ∷ t) (suc i) h p = below_member x k t i (right_true _ _ h) p

key_eq : (k : Key) → is_eq (key_cmp k k) ≡ true
key_eq k = rw (tied_itself key_total k) refl

pub position_of : (k : Key) (t : Rows) (i : ℕ) → is_sorted key_cmp t ≡ true → slice_get (spec.keys_of t) i ≡ Some k → position k t ≡ Some i
position_of k [] i s p = absurd (cc)
position_of k (e ∷ t) zero s p = let q : e.0 ≡ k = cc in rw (q, key_eq k) refl
position_of k (e ∷ t) (suc i) s p =
    let less = below_member e.0 k t i (left_true _ _ s) p in
    let more : key_cmp k e.0 ≡ Greater = key_total.antisymm k e.0 ∙ ap ordering_reverse less in
    rw more (ap (option_map suc) (position_of k t i (right_true _ _ s) p))

not_tied : (j k : Key) → j ≢ k → is_eq (key_cmp k j) ≡ false
not_tied j k other = elim (key_cmp k j) as (λ o. key_cmp k j ≡ o → is_eq o ≡ false) [
  | Less ↦ λ p. refl
  | Equal ↦ λ p. absurd (other (sym (key_exact k j p)))
  | Greater ↦ λ p. refl
] refl

pub position_none : (k : Key) (t : Rows) → ((i : ℕ) → slice_get (spec.keys_of t) i ≢ Some k) → position k t ≡ None
position_none k [] h = refl
position_none k (e ∷ t) h =
    let here : e.0 ≢ k = λ q. h 0 (ap Some q) in
    rw (not_tied e.0 k here) (ap (option_map suc) (position_none k t (λ i. h (suc i))))

pub position_match : (k : Key) (t : Rows) (ks : List Key) (r : Option ℕ) → ks ≡ spec.keys_of t → is_sorted key_cmp t ≡ true → MatchOption r ((i : ℕ) → slice_get ks i ≢ Some k) (λ i. slice_get ks i ≡ Some k) → r ≡ position k t
position_match k t ks None q s m = sym (position_none k t (λ i. subst (λ (js : List Key). slice_get js i ≢ Some k) q (m i)))
position_match k t ks (Some i) q s m = sym (position_of k t i s (subst (λ (js : List Key). slice_get js i ≡ Some k) q m))

pub some_is : {X : Type 0} (o : Option X) (x : X) (P : X → Type 0) → o ≡ Some x → P x → IfSome o P
some_is o x P e h = rw e h

-- what stands at an index of a table
pub value_in : (t : Rows) (i : ℕ) (d : Key × Rv) → i < length t → value_at i t ≡ Some (get_or t i d).1
value_in [] i d h = absurd (omega arith)
value_in (e ∷ t) zero d h = refl
value_in (e ∷ t) (suc i) d h = value_in t i d (omega arith)

pub key_in : (t : Rows) (i : ℕ) (d : Key × Rv) → i < length t → slice_get (spec.keys_of t) i ≡ Some (get_or t i d).0
key_in [] i d h = absurd (omega arith)
key_in (e ∷ t) zero d h = refl
key_in (e ∷ t) (suc i) d h = key_in t i d (omega arith)

pub entry_in : (t : Rows) (i : ℕ) (d : Key × Rv) → i < length t → slice_get t i ≡ Some (get_or t i d)
entry_in [] i d h = absurd (omega arith)
entry_in (e ∷ t) zero d h = refl
entry_in (e ∷ t) (suc i) d h = entry_in t i d (omega arith)
