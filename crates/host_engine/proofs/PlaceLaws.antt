-- Which entry of a store's node a step leads to.
use Rattle.std.proofs.Common.{◌≡◌, ◌≢◌, ℕ, zero, suc, ◌-◌, ◌<◌, ℤ, pos, negsuc, List, [], ◌∷◌, length, map, take, ap, refl, sym, ◌∙◌, subst, arith, true, false, cond, Less, Equal, Greater, Ordering}
use Rattle.std.specs.Prelude.{IsTrue, Option, Some, None, MatchOption, option_map, slice_get}
use Rattle.std.specs.FinMap.Entries.{find, is_sorted, below_all}
use Rattle.std.specs.Ordering.{eq_by_cmp}
use Rattle.std.proofs.lemmas.Option.{slice_get_past, slice_get_within}
use Rattle.value_model.specs.declared.key.Key.{Key}
use Rattle.value_model.specs.declared.key.Key.TheVariants as key
use Rattle.value_model.specs.declared.kind.Kind.{Kind}
use Rattle.value_model.specs.declared.kind.Kind.TheVariants as kind
use Rattle.value_model.specs.Order.{key_cmp, key_exact}
use Rattle.value_model.specs.Places.{ascends_at}
use Rattle.value_model.specs.Plain.{list_of}
use Rattle.value_model.specs.Search.{left_true, right_true, less_from_test, turned}
use Rattle.value_model.proofs.Tables.{is_eq-same}
use Rattle.value_model.specs.Well.{well, all_fit, all_well}
use Rattle.numbered.specs.Laws.{state_at}
use Rattle.numbered.proofs.Laws.{number_at}
use Rattle.numbered.specs.Store.{IsNumber, IsNext, IsStore, tree_at}
use Rattle.numbered.specs.Tree.{Tree, Branches, prim, node, none, branch, plain, plains, children, number}
use Rattle.node_store.specs.Nodes.{kind_of, keys_of, keys_in, cells_of, cells_in}
use Rattle.host_machine.specs.Machine.{number_if}
use Rattle.host_machine.specs.Paths.{branch_list, subtree_in, subtree, subtree_at}
use Rattle.host_engine.specs.Places.{IsEntry, IsNoIndex, IsNoStep}

listed_children : (es : Branches) → map (λ (e : Key × Tree). e.1) (branch_list es) ≡ children es
listed_children none = refl
listed_children (branch k v es) = ap (λ (ts : List Tree). v ∷ ts) (listed_children es)

children_length : (es : Branches) → length (children es) ≡ length (cells_in es)
children_length none = refl
children_length (branch k v es) = ap suc (children_length es)

keys_length : (es : Branches) → length (keys_in es) ≡ length (cells_in es)
keys_length none = refl
keys_length (branch k v es) = ap suc (keys_length es)

-- ---- a list
element : (i : ℕ) (es : Branches) → subtree_in kind.List (key.Int (pos i)) (branch_list es) ≡ slice_get (children es) i
element i es = ap (λ (ts : List Tree). slice_get ts i) (listed_children es)

no_element : (n : ℤ) (count : ℕ) (es : Branches) → IsNoIndex n count → length (cells_in es) ≡ count → subtree_in kind.List (key.Int n) (branch_list es) ≡ None
no_element (pos i) count es h l = element i es ∙ slice_get_past (children es) i (let c = children_length es in omega (arith, h, l, c))
no_element (negsuc i) count es h l = refl

no_step : (k : Key) (count : ℕ) (es : Branches) → IsNoStep k count → length (cells_in es) ≡ count → subtree_in kind.List k (branch_list es) ≡ None
no_step (key.Int n) count es h l = no_element n count es h l
no_step key.Null count es h l = refl
no_step (key.Bool b) count es h l = refl
no_step (key.Text s) count es h l = refl

pub list_entry : (t : Tree) (k : Key) (count : ℕ) (r : Option ℕ) → kind_of t ≡ kind.List → count ≡ length (cells_of t) → MatchOption r (IsNoStep k count) (λ i. (i < count) × (k ≡ key.Int (pos i))) → IsEntry t k r
list_entry (prim j) k count r e l h = absurd (cc)
list_entry (node id kind.List es) k count None e l h = no_step k count es h (sym l)
list_entry (node id kind.List es) k count (Some i) e l h =
    (subst (λ (n : ℕ). i < n) l h.0, ap (λ (j : Key). subtree_in kind.List j (branch_list es)) h.1 ∙ element i es)
list_entry (node id kind.Obj es) k count r e l h = absurd (cc)
list_entry (node id kind.Map es) k count r e l h = absurd (cc)
list_entry (node id kind.Set es) k count r e l h = absurd (cc)

-- ---- an object or a Map
-- a key among entries that are all above another key
above : (j k : Key) (es : Branches) (i : ℕ) → below_all key_cmp j (list_of (plains es)) ≡ true → slice_get (keys_in es) i ≡ Some k → key_cmp j k ≡ Less
above j k none i h e = absurd (cc)
above j k (branch l v es) zero h e = let same : l ≡ k = cc in subst (λ (m : Key). key_cmp j m ≡ Less) same (less_from_test _ (left_true _ _ h))
above j k (branch l v es) (suc i) h e = above j k es i (right_true _ _ h) e

other_key : (j k : Key) → key_cmp j k ≡ Less → eq_by_cmp key_cmp k j ≡ false
other_key j k h = let t : key_cmp k j ≡ Greater = turned j k k Less h in rw t refl

key_found : (k : Key) (es : Branches) (i : ℕ) → is_sorted key_cmp (list_of (plains es)) ≡ true → slice_get (keys_in es) i ≡ Some k → find key_cmp k (branch_list es) ≡ slice_get (children es) i
key_found k none i s e = absurd (cc)
key_found k (branch j v es) zero s e = let same : j ≡ k = cc in rw (same, is_eq-same k) refl
key_found k (branch j v es) (suc i) s e = rw (other_key j k (above j k es i (left_true _ _ s) e)) (key_found k es i (right_true _ _ s) e)

absent_at : (k j : Key) (v : Tree) (rest : Option Tree) (o : Ordering) → key_cmp k j ≡ o → j ≢ k → rest ≡ None → cond (eq_by_cmp key_cmp k j) (Some v) rest ≡ None
absent_at k j v rest Less o h r = rw o r
absent_at k j v rest Equal o h r = absurd (h (sym (key_exact k j o)))
absent_at k j v rest Greater o h r = rw o r

key_absent : (k : Key) (es : Branches) → ((i : ℕ) → slice_get (keys_in es) i ≢ Some k) → find key_cmp k (branch_list es) ≡ None
key_absent k none h = refl
key_absent k (branch j v es) h =
    absent_at k j v (find key_cmp k (branch_list es)) (key_cmp k j) refl (λ e. h 0 (ap (λ (l : Key). Some l) e)) (key_absent k es (λ i. h (suc i)))

key_entry : (k : Key) (es : Branches) (r : Option ℕ) → is_sorted key_cmp (list_of (plains es)) ≡ true → MatchOption r ((i : ℕ) → slice_get (keys_in es) i ≢ Some k) (λ i. slice_get (keys_in es) i ≡ Some k)
    → MatchOption r (find key_cmp k (branch_list es) ≡ None) (λ i. (i < length (cells_in es)) × (find key_cmp k (branch_list es) ≡ slice_get (children es) i))
key_entry k es None s h = key_absent k es h
key_entry k es (Some i) s h = (subst (λ (n : ℕ). i < n) (keys_length es) (slice_get_within (keys_in es) i k h), key_found k es i s h)

sorted_level : (kind : Kind) (es : Branches) → well (plain (node 1 kind es)) ≡ true → ascends_at kind (list_of (plains es)) ≡ true
sorted_level kind es h = left_true _ (all_fit kind (plains es)) (left_true _ (all_well (plains es)) h)

pub object_entry : (t : Tree) (k : Key) (r : Option ℕ) → kind_of t ≡ kind.Obj → IsTrue (well (plain t)) → MatchOption r ((i : ℕ) → slice_get (keys_of t) i ≢ Some k) (λ i. slice_get (keys_of t) i ≡ Some k) → IsEntry t k r
object_entry (prim j) k None e s h = refl
object_entry (prim j) k (Some i) e s h = absurd (cc)
object_entry (node id kind.Obj es) k None e s h = key_entry k es None (sorted_level kind.Obj es s) h
object_entry (node id kind.Obj es) k (Some i) e s h = key_entry k es (Some i) (sorted_level kind.Obj es s) h
object_entry (node id kind.List es) k r e s h = absurd (cc)
object_entry (node id kind.Map es) k r e s h = absurd (cc)
object_entry (node id kind.Set es) k r e s h = absurd (cc)

pub map_entry : (t : Tree) (k : Key) (r : Option ℕ) → kind_of t ≡ kind.Map → IsTrue (well (plain t)) → MatchOption r ((i : ℕ) → slice_get (keys_of t) i ≢ Some k) (λ i. slice_get (keys_of t) i ≡ Some k) → IsEntry t k r
map_entry (prim j) k r e s h = absurd (cc)
map_entry (node id kind.Map es) k None e s h = key_entry k es None (sorted_level kind.Map es s) h
map_entry (node id kind.Map es) k (Some i) e s h = key_entry k es (Some i) (sorted_level kind.Map es s) h
map_entry (node id kind.Obj es) k r e s h = absurd (cc)
map_entry (node id kind.List es) k r e s h = absurd (cc)
map_entry (node id kind.Set es) k r e s h = absurd (cc)

-- ---- a Set
pub set_entry : (t : Tree) (k : Key) → kind_of t ≡ kind.Set → subtree k t ≡ None
set_entry (prim j) k e = refl
set_entry (node id kind.Set es) k e = refl
set_entry (node id kind.Obj es) k e = absurd (cc)
set_entry (node id kind.List es) k e = absurd (cc)
set_entry (node id kind.Map es) k e = absurd (cc)

-- ---- the number of a container
numbered_if : (us : List Tree) (t : Tree) → IsNext us t → number_if t ≡ Some (number t)
numbered_if us (prim k) h = absurd h
numbered_if us (node id kind es) h = refl

pub node_number : (ts : List Tree) (id : ℕ) → IsStore ts → IsNumber ts id → number_if (tree_at ts id) ≡ Some id
node_number ts id s n = numbered_if (take (id - 1) ts) (tree_at ts id) (state_at ts id s n) ∙ ap (λ (m : ℕ). Some m) (number_at ts id s n)

pub root_number : (ts : List Tree) (id : ℕ) (path : List Key) → IsStore ts → IsNumber ts id → length path ≡ 0 → Some (Some id) ≡ option_map number_if (subtree_at path (tree_at ts id))
root_number ts id [] s n e = ap (λ (o : Option ℕ). Some o) (sym (node_number ts id s n))
root_number ts id (k ∷ path) s n e = absurd (cc)
