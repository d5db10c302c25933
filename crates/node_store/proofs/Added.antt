-- The state that a node stands for, and that what is held of it is right: laws.
use Rattle.std.proofs.Common.{◌≡◌, ◌≢◌, ℕ, suc, ◌+◌, ◌≤◌, ◌^◌, List, [], ◌∷◌, length, map, refl, ap, sym, ◌∙◌, subst, arith, true}
use Rattle.std.specs.Prelude.{Bool, ◌&&◌, None}
use Rattle.std.specs.List.{zip}
use Rattle.std.specs.Ordering.{is_eq}
use Rattle.std.proofs.Common.{Less, Equal, Greater}
use Rattle.std.specs.declared.cmp.Ordering.{Ordering}
use Rattle.std.proofs.lemmas.Cmp.{tied_itself}
use Rattle.std.specs.FinMap.Entries.{is_sorted}
use Rattle.value_model.specs.declared.key.Key.{Key}
use Rattle.value_model.specs.declared.key.Key.TheVariants as key
use Rattle.value_model.specs.declared.kind.Kind.{Kind}
use Rattle.value_model.specs.declared.kind.Kind.TheVariants as kind
use Rattle.value_model.specs.Limits.{state_limit}
use Rattle.value_model.specs.Order.{key_cmp, key_total, key_exact}
use Rattle.value_model.specs.Plain as plain_value
use Rattle.value_model.specs.Plain.{list_of}
use Rattle.value_model.specs.Well.{all_fit, all_well, well}
use Rattle.value_model.specs.Search.{left_true, right_true}
use Rattle.numbered.specs.Tree as tree
use Rattle.numbered.specs.Tree.{Tree, node, plain, plains, own_weight}
use Rattle.numbered.specs.Store.{tree_at, IsNext, IsStore}
use Rattle.numbered.specs.Laws.{well_at}
use Rattle.numbered.proofs.Laws.{small_state, child_at, some_value, values_le_weight, places_le_values, containers_plain, key_weighs}
use Rattle.page_tables.specs.declared.cell.Cell.{Cell}
use Rattle.page_tables.specs.declared.cell.Cell.TheVariants as cell
use Rattle.node_store.specs.declared.held.Measures.{Measures}
use Rattle.node_store.specs.Nodes.{cells_fit, no_keys, ascending, is_node, key_of, rows, CellBelow, CellsBelow, cell_tree, branches, built, formed}
use Rattle.node_store.specs.Kept.{IsPaired}
use Rattle.node_store.proofs.Tables.{cells_of_rows, keys_again, all_of_store, zip_keys}
use Rattle.node_store.proofs.Shown.{own_keys, sorted_alike, list_keys}
use Rattle.node_store.specs.Sums.{keys_weight, cell_weights, cell_values, deepest_cell, cell_containers, own_weights, IsLight, IsMeasured}
use Rattle.node_store.proofs.Sums.{weight_built, own_built, values_built, depth_built, containers_built}
use Rattle.node_store.specs.Added.{stored, IsTallied, IsSmallTally}

-- ---- what the rule of nodes gives
same_lengths : (of : Kind) (ks : List Key) (cs : List Cell) → cells_fit of ks cs ≡ true → length ks ≡ length cs
same_lengths of [] [] h = refl
same_lengths of [] (c ∷ cs) h = absurd (cc)
same_lengths of (k ∷ ks) [] h = absurd (cc)
same_lengths of (k ∷ ks) (c ∷ cs) h = ap suc (same_lengths of ks cs (right_true _ _ h))

none_left : (ks : List Key) → no_keys ks ≡ true → ks ≡ []
none_left [] h = refl
none_left (k ∷ ks) h = absurd (cc)

pub stored_paired : (of : Kind) (ks : List Key) (cs : List Cell) → is_node of ks cs ≡ true → IsPaired of (stored of ks) cs
stored_paired kind.Obj ks cs h = same_lengths kind.Obj ks cs (right_true _ _ h)
stored_paired kind.Map ks cs h = same_lengths kind.Map ks cs (right_true _ _ h)
stored_paired kind.List ks cs h = none_left ks h
stored_paired kind.Set ks cs h = refl

pub stored_built : (ts : List Tree) (of : Kind) (ks : List Key) (cs : List Cell) → built ts of (stored of ks) cs ≡ built ts of ks cs
stored_built ts kind.Obj ks cs = refl
stored_built ts kind.Map ks cs = refl
stored_built ts kind.List ks cs = refl
stored_built ts kind.Set ks cs = refl

pub stored_weight : (of : Kind) (ks : List Key) → keys_weight of (stored of ks) ≡ keys_weight of ks
stored_weight kind.Obj ks = refl
stored_weight kind.Map ks = refl
stored_weight kind.List ks = refl
stored_weight kind.Set ks = refl

-- ---- the value of a node is in order at every level
same_of_test : (o : Ordering) → is_eq o ≡ true → o ≡ Equal
same_of_test Less h = absurd (cc)
same_of_test Equal h = refl
same_of_test Greater h = absurd (cc)

set_keys : (ks : List Key) (cs : List Cell) → cells_fit kind.Set ks cs ≡ true → ks ≡ map key_of cs
set_keys [] [] h = refl
set_keys [] (c ∷ cs) h = absurd (cc)
set_keys (k ∷ ks) [] h = absurd (cc)
set_keys (k ∷ ks) (cell.Prim j ∷ cs) h =
    let e : k ≡ j = key_exact k j (same_of_test _ (left_true _ _ h)) in
    let rest = set_keys ks cs (right_true _ _ h) in
    λ i. e i ∷ rest i
set_keys (k ∷ ks) (cell.Node id ∷ cs) h = absurd (cc)

cell_well : (ts : List Tree) (c : Cell) → IsStore ts → CellBelow ts c → well (plain (cell_tree ts c)) ≡ true
cell_well ts (cell.Prim k) s b = refl
cell_well ts (cell.Node id) s b = well_at ts id s b

rows_well : (ts : List Tree) (rs : List (Key × Cell)) → IsStore ts → CellsBelow ts (map (λ r. r.1) rs) → all_well (plains (branches ts rs)) ≡ true
rows_well ts [] s b = refl
rows_well ts (r ∷ rs) s b = rw (cell_well ts r.1 s b.0) (rows_well ts rs s b.1)

obj_fit : (ts : List Tree) (ks : List Key) (cs : List Cell) → cells_fit kind.Obj ks cs ≡ true → all_fit kind.Obj (plains (branches ts (zip ks cs))) ≡ true
obj_fit ts [] cs h = refl
obj_fit ts (k ∷ ks) [] h = absurd (cc)
obj_fit ts (key.Text s ∷ ks) (c ∷ cs) h = obj_fit ts ks cs h
obj_fit ts (key.Null ∷ ks) (c ∷ cs) h = absurd (cc)
obj_fit ts (key.Bool b ∷ ks) (c ∷ cs) h = absurd (cc)
obj_fit ts (key.Int n ∷ ks) (c ∷ cs) h = absurd (cc)

map_fit : (ts : List Tree) (ks : List Key) (cs : List Cell) → all_fit kind.Map (plains (branches ts (zip ks cs))) ≡ true
map_fit ts [] cs = refl
map_fit ts (k ∷ ks) [] = refl
map_fit ts (k ∷ ks) (c ∷ cs) = map_fit ts ks cs

list_fit : (ts : List Tree) (cs : List Cell) → all_fit kind.List (plains (branches ts (rows kind.List [] cs))) ≡ true
list_fit ts [] = refl
list_fit ts (c ∷ cs) = list_fit ts cs

set_fit : (ts : List Tree) (ks : List Key) (cs : List Cell) → cells_fit kind.Set ks cs ≡ true → all_fit kind.Set (plains (branches ts (rows kind.Set [] cs))) ≡ true
set_fit ts [] [] h = refl
set_fit ts [] (c ∷ cs) h = absurd (cc)
set_fit ts (k ∷ ks) [] h = absurd (cc)
set_fit ts (k ∷ ks) (cell.Prim j ∷ cs) h = rw (tied_itself key_total j) (set_fit ts ks cs (right_true _ _ h))
set_fit ts (k ∷ ks) (cell.Node id ∷ cs) h = absurd (cc)

all_true : (a b c : Bool) → a ≡ true → b ≡ true → c ≡ true → (a && b && c) ≡ true
all_true a b c p q r = rw (p, q, r) refl

self_pairs : (ks : List Key) → map (λ e. e.0) (map (λ k. let e : Key × Key = (k, k) in e) ks) ≡ ks
self_pairs [] = refl
self_pairs (k ∷ ks) = ap (λ (js : List Key). k ∷ js) (self_pairs ks)

-- the table ascends as its keys do
zip_ascends : (ts : List Tree) (ks : List Key) (cs : List Cell) → length ks ≡ length cs → ascending ks ≡ true → is_sorted key_cmp (list_of (plains (branches ts (zip ks cs)))) ≡ true
zip_ascends ts ks cs p h = sorted_alike (list_of (plains (branches ts (zip ks cs)))) (map (λ k. let e : Key × Key = (k, k) in e) ks) (list_keys (branches ts (zip ks cs)) ∙ keys_again ts (zip ks cs) ∙ zip_keys ks cs p ∙ sym (self_pairs ks)) ∙ h

set_ascends : (ts : List Tree) (ks : List Key) (cs : List Cell) → cells_fit kind.Set ks cs ≡ true → ascending ks ≡ true → is_sorted key_cmp (list_of (plains (branches ts (rows kind.Set [] cs)))) ≡ true
set_ascends ts ks cs p h = sorted_alike (list_of (plains (branches ts (rows kind.Set [] cs)))) (map (λ k. let e : Key × Key = (k, k) in e) ks) (list_keys (branches ts (rows kind.Set [] cs)) ∙ keys_again ts (rows kind.Set [] cs) ∙ own_keys cs ∙ sym (set_keys ks cs p) ∙ sym (self_pairs ks)) ∙ h

pub well_built : (ts : List Tree) (of : Kind) (ks : List Key) (cs : List Cell) → IsStore ts → is_node of ks cs ≡ true → CellsBelow ts (map (λ r. r.1) (rows of ks cs)) → well (plain (built ts of ks cs)) ≡ true
well_built ts kind.Obj ks cs s h b = all_true _ _ _ (zip_ascends ts ks cs (same_lengths kind.Obj ks cs (right_true _ _ h)) (left_true _ _ h)) (obj_fit ts ks cs (right_true _ _ h)) (rows_well ts (zip ks cs) s b)
well_built ts kind.Map ks cs s h b = all_true _ _ _ (zip_ascends ts ks cs (same_lengths kind.Map ks cs (right_true _ _ h)) (left_true _ _ h)) (map_fit ts ks cs) (rows_well ts (zip ks cs) s b)
well_built ts kind.List ks cs s h b = all_true _ _ _ refl (list_fit ts cs) (rows_well ts (rows kind.List ks cs) s b)
well_built ts kind.Set ks cs s h b = all_true _ _ _ (set_ascends ts ks cs (right_true _ _ h) (left_true _ _ h)) (set_fit ts ks cs (right_true _ _ h)) (rows_well ts (rows kind.Set ks cs) s b)

pub next_built : (ts : List Tree) (of : Kind) (ks : List Key) (cs : List Cell) → IsStore ts → is_node of ks cs ≡ true → state_limit (plain (built ts of ks cs)) ≡ None → CellsBelow ts (map (λ r. r.1) (rows of ks cs)) → IsNext ts (built ts of ks cs)
next_built ts of ks cs s n l r = record {
  number = refl;
  children = all_of_store ts (rows of ks cs) s r;
  accepted = l;
  well = well_built ts of ks cs s n r;
}

same_rows : (of : Kind) (ks : List Key) (cs : List Cell) → rows of (stored of ks) cs ≡ rows of ks cs
same_rows kind.Obj ks cs = refl
same_rows kind.Map ks cs = refl
same_rows kind.List ks cs = refl
same_rows kind.Set ks cs = refl

-- the cells of a node's entries are its cells
pub node_cells : (of : Kind) (ks : List Key) (cs : List Cell) → is_node of ks cs ≡ true → map (λ r. r.1) (rows of ks cs) ≡ cs
node_cells of ks cs n = ap (λ (rs : List (Key × Cell)). map (λ r. r.1) rs) (sym (same_rows of ks cs)) ∙ cells_of_rows of (stored of ks) cs (stored_paired of ks cs n)

pub row_cells : (ts : List Tree) (of : Kind) (ks : List Key) (cs : List Cell) → is_node of ks cs ≡ true → CellsBelow ts cs → CellsBelow ts (map (λ r. r.1) (rows of ks cs))
row_cells ts of ks cs n b = subst (CellsBelow ts) (sym (node_cells of ks cs n)) b

-- a Set's cells under their keys are those under themselves
own_zip : (cs : List Cell) → zip (map key_of cs) cs ≡ map (λ c. let e : Key × Cell = (key_of c, c) in e) cs
own_zip [] = refl
own_zip (c ∷ cs) = ap (λ (rs : List (Key × Cell)). (key_of c, c) ∷ rs) (own_zip cs)

pub zip_rows : (of : Kind) (ks : List Key) (cs : List Cell) → is_node of ks cs ≡ true → of ≢ kind.List → zip ks cs ≡ rows of ks cs
zip_rows kind.Obj ks cs n d = refl
zip_rows kind.Map ks cs n d = refl
zip_rows kind.List ks cs n d = absurd (d refl)
zip_rows kind.Set ks cs n d = ap (λ (js : List Key). zip js cs) (set_keys ks cs (right_true _ _ n)) ∙ own_zip cs

-- ---- what an accepted node measures
own_le : (ts : List Tree) (cs : List Cell) → IsStore ts → CellsBelow ts cs → own_weights ts cs ≤ cell_weights ts cs
own_le ts [] s b = omega arith
own_le ts (cell.Prim k ∷ cs) s b = omega (arith, own_le ts cs s b.1)
own_le ts (cell.Node id ∷ cs) s b =
    let one = child_at ts id s b.0 in
    let heavy = values_le_weight (plain (tree_at ts id)) in
    let some = some_value (plain (tree_at ts id)) in
    omega (arith, own_le ts cs s b.1, one, heavy, some)

pub light_state : (ts : List Tree) (of : Kind) (ks : List Key) (cs : List Cell) → IsStore ts → is_node of ks cs ≡ true → CellsBelow ts cs → state_limit (plain (built ts of ks cs)) ≡ None → IsLight ts of ks cs
light_state ts of ks cs s n b l =
    let p = stored_paired of ks cs n in
    let same = ap (λ (t : Tree). plain t) (stored_built ts of ks cs) in
    let small = small_state (plain (built ts of ks cs)) l in
    let keys = stored_weight of ks in
    let weight = weight_built ts of (stored of ks) cs p in
    let values = values_built ts of (stored of ks) cs p in
    let depth = depth_built ts of (stored of ks) cs p in
    let places = containers_built ts of (stored of ks) cs p in
    let w : plain_value.weight (plain (built ts of ks cs)) ≡ 1 + keys_weight of ks + cell_weights ts cs = ap plain_value.weight (sym same) ∙ weight ∙ ap (λ (n : ℕ). 1 + n + cell_weights ts cs) keys in
    let v : plain_value.values (plain (built ts of ks cs)) ≡ 1 + cell_values ts cs = ap plain_value.values (sym same) ∙ values in
    let d : plain_value.depth (plain (built ts of ks cs)) ≡ 1 + deepest_cell ts cs = ap plain_value.depth (sym same) ∙ depth in
    let c : tree.containers (built ts of ks cs) ≡ 1 + cell_containers ts cs = ap tree.containers (sym (stored_built ts of ks cs)) ∙ places in
    let at_most = small.weight in
    let deep = small.depth in
    let fewer = values_le_weight (plain (built ts of ks cs)) in
    let fewest = places_le_values (plain (built ts of ks cs)) in
    let counted = containers_plain (built ts of ks cs) in
    record {
      own = let o = own_le ts cs s b in omega (arith, o, w, at_most);
      weight = omega (arith, w, at_most);
      values = omega (arith, v, fewer, at_most);
      depth = omega (arith, d, deep);
      places = omega (arith, c, counted, fewest, fewer, at_most);
    }

-- the own weight of the state that a node stands for
own_state : (ts : List Tree) (of : Kind) (ks : List Key) (cs : List Cell) → is_node of ks cs ≡ true → own_weight (built ts of ks cs) ≡ 1 + keys_weight of ks + own_weights ts cs
own_state ts of ks cs n =
    ap own_weight (sym (stored_built ts of ks cs)) ∙ own_built ts of (stored of ks) cs (stored_paired of ks cs n) ∙ ap (λ (n : ℕ). 1 + n + own_weights ts cs) (stored_weight of ks)

-- what its table measures, its state does
pub tallied_state : (ts : List Tree) (of : Kind) (ks : List Key) (cs : List Cell) (m : Measures) → is_node of ks cs ≡ true → IsMeasured ts of ks cs m → IsTallied (built ts of ks cs) m
tallied_state ts of ks cs m n d =
    let p = stored_paired of ks cs n in
    let same = ap (λ (t : Tree). plain t) (stored_built ts of ks cs) in
    let keys = stored_weight of ks in
    record {
      own = d.own ∙ sym (own_state ts of ks cs n);
      weight = d.weight ∙ sym (ap plain_value.weight (sym same) ∙ weight_built ts of (stored of ks) cs p ∙ ap (λ (n : ℕ). 1 + n + cell_weights ts cs) keys);
      values = d.values ∙ sym (ap plain_value.values (sym same) ∙ values_built ts of (stored of ks) cs p);
      depth = d.depth ∙ sym (ap plain_value.depth (sym same) ∙ depth_built ts of (stored of ks) cs p);
      containers = d.places ∙ sym (ap tree.containers (sym (stored_built ts of ks cs)) ∙ containers_built ts of (stored of ks) cs p);
    }

-- ---- an accepted state is small
pub small_tally : (ts : List Tree) (of : Kind) (rs : List (Key × Cell)) (m : Measures) → IsNext ts (formed ts of rs) → IsTallied (formed ts of rs) m → IsSmallTally m
small_tally ts of rs m n t =
    let v = plain (formed ts of rs) in
    let small = small_state v n.accepted in
    let at_most = small.weight in
    let deep = small.depth in
    let fewer = values_le_weight v in
    let fewest = places_le_values v in
    let counted = containers_plain (formed ts of rs) in
    let w = t.weight in
    let x = t.values in
    let d = t.depth in
    let c = t.containers in
    record {
      weight = omega (arith, w, at_most);
      values = omega (arith, x, fewer, at_most);
      depth = omega (arith, d, deep);
      containers = omega (arith, c, counted, fewest, fewer, at_most);
    }

-- each entry weighs at least 1
child_weighs : (t : Tree) → 1 ≤ tree.child_weight t
child_weighs (tree.prim k) = key_weighs k
child_weighs (node id of es) = omega arith

pub rows_weigh : (ts : List Tree) (of : Kind) (rs : List (Key × Cell)) → length rs ≤ tree.child_weights of (branches ts rs)
rows_weigh ts of [] = omega arith
rows_weigh ts of (r ∷ rs) = let one = child_weighs (cell_tree ts r.1) in omega (arith, one, rows_weigh ts of rs)

pub own_small : (ts : List Tree) (of : Kind) (ks : List Key) (cs : List Cell) → IsStore ts → is_node of ks cs ≡ true → CellsBelow ts cs → state_limit (plain (built ts of ks cs)) ≡ None → own_weight (built ts of ks cs) ≤ 2 ^ 20
own_small ts of ks cs s n b l = let own = own_state ts of ks cs n in let light = (light_state ts of ks cs s n b l).own in omega (arith, own, light)
