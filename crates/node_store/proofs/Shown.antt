-- What a held node tells of its state: laws.
use Rattle.std.proofs.Common.{◌≡◌, ◌≢◌, ℕ, zero, suc, ◌+◌, ◌-◌, ◌<◌, ◌≤◌, List, [], ◌∷◌, length, get_or, map, refl, ap, sym, ◌∙◌, subst, arith, ◌⊎◌, inl, inr}
use Rattle.std.specs.Prelude.{Some, slice_get}
use Rattle.std.specs.FinMap.Entries.{is_sorted, below_all}
use Rattle.value_model.specs.declared.key.Key.{Key}
use Rattle.value_model.specs.declared.kind.Kind.{Kind}
use Rattle.value_model.specs.declared.kind.Kind.TheVariants as kind
use Rattle.value_model.specs.Order.{key_cmp}
use Rattle.value_model.specs.Plain as plain_value
use Rattle.value_model.specs.Plain.{Plain, list_of}
use Rattle.numbered.specs.Tree.{Tree, Branches, prim, node, none, branch, plain, plains, containers, containers_in, branches_of, children, before}
use Rattle.numbered.specs.Store.{IsNumber, tree_at, IsStore}
use Rattle.numbered.proofs.Laws.{some_value, small_at, values_at, containers_at}
use Rattle.page_tables.specs.declared.cell.Cell.{Cell}
use Rattle.page_tables.specs.Pages as pages
use Rattle.page_tables.specs.Pages.{paged, joined, table, AllBelow}
use Rattle.node_store.specs.declared.held.Held.{Held}
use Rattle.node_store.specs.declared.held.Listed.{Listed}
use Rattle.node_store.specs.Nodes.{key_of, CellBelow, CellsBelow, cell_tree, branches, cells_in, keys_in, keys_at, kind_of, keys_of, cells_of}
use Rattle.node_store.specs.Paged.{Paged, standing, states, listed_at, rows_at}
use Rattle.node_store.specs.Kept.{listed, sums, picked, Sound, InPages}
use Rattle.node_store.specs.Shown.{IsRow, IsRead}
use Rattle.node_store.proofs.Grown.{store_of, is_store, held_at, length_listed, listed_get, standing_length, below_at}
use Rattle.node_store.proofs.Tables.{cells_again, keys_again}

-- ---- an entry
pub cell_below : (us : List Tree) (cs : List Cell) (i : ℕ) (c : Cell) → CellsBelow us cs → slice_get cs i ≡ Some c → CellBelow us c
cell_below us [] i c b h = absurd (cc)
cell_below us (d ∷ cs) zero c b h = let e : d ≡ c = cc in subst (CellBelow us) e b.0
cell_below us (d ∷ cs) (suc i) c b h = cell_below us cs i c b.1 h

pub child_at_row : (us : List Tree) (rs : List (Key × Cell)) (i : ℕ) (c : Cell) → slice_get (map (λ r. r.1) rs) i ≡ Some c → slice_get (children (branches us rs)) i ≡ Some (cell_tree us c)
child_at_row us [] i c h = absurd (cc)
child_at_row us (r ∷ rs) zero c h = let e : r.1 ≡ c = cc in ap (λ (d : Cell). Some (cell_tree us d)) e
child_at_row us (r ∷ rs) (suc i) c h = child_at_row us rs i c h

slice_of_map : {A B : Type 0} (f : A → B) (xs : List A) (i : ℕ) (x : A) → slice_get xs i ≡ Some x → slice_get (map f xs) i ≡ Some (f x)
slice_of_map f [] i x h = absurd (cc)
slice_of_map f (y ∷ xs) zero x h = let e : y ≡ x = cc in ap (λ z. Some (f z)) e
slice_of_map f (y ∷ xs) (suc i) x h = slice_of_map f xs i x h

keyed_keys : (k : Kind) (es : Branches) → k ≢ kind.List → keys_at k es ≡ keys_in es
keyed_keys kind.Obj es d = refl
keyed_keys kind.Map es d = refl
keyed_keys kind.Set es d = refl
keyed_keys kind.List es d = absurd (d refl)

pub row_shown : (us : List Tree) (t : Tree) (id : ℕ) (k : Kind) (rs : List (Key × Cell)) (i : ℕ) (r : Key × Cell) → IsStore us → t ≡ node id k (branches us rs) → CellsBelow us (map (λ r. r.1) rs) → slice_get rs i ≡ Some r → IsRow us t i r
row_shown us t id k rs i r s e b h =
    let cells = slice_of_map (λ (r : Key × Cell). r.1) rs i r h in
    record {
      key = λ d. ap (λ (u : Tree). slice_get (keys_of u) i) e ∙ ap (λ (ks : List Key). slice_get ks i) (keyed_keys k (branches us rs) (λ l. d (ap kind_of e ∙ l)) ∙ keys_again us rs) ∙ slice_of_map (λ (r : Key × Cell). r.0) rs i r h;
      cell = ap (λ (u : Tree). slice_get (cells_of u) i) e ∙ ap (λ (cs : List Cell). slice_get cs i) (cells_again us rs s b) ∙ cells;
      child = ap (λ (u : Tree). slice_get (children (branches_of u)) i) e ∙ child_at_row us rs i r.1 cells;
      below = cell_below us (map (λ r. r.1) rs) i r.1 b cells;
    }

-- ---- the keys
pub own_keys : (cs : List Cell) → map (λ r. r.0) (map (λ c. let e : Key × Cell = (key_of c, c) in e) cs) ≡ map key_of cs
own_keys [] = refl
own_keys (c ∷ cs) = ap (λ (ks : List Key). key_of c ∷ ks) (own_keys cs)

-- whether keys ascend doesn't depend on what stands under them
below_alike : {A B : Type 0} (x : Key) (es : List (Key × A)) (fs : List (Key × B)) → map (λ e. e.0) es ≡ map (λ e. e.0) fs → below_all key_cmp x es ≡ below_all key_cmp x fs
below_alike x [] [] h = refl
below_alike x [] (f ∷ fs) h = absurd (cc)
below_alike x (e ∷ es) [] h = absurd (cc)
below_alike x (e ∷ es) (f ∷ fs) h =
    let a : e.0 ≡ f.0 = cc in
    let b : map (λ e. e.0) es ≡ map (λ e. e.0) fs = cc in
    rw (a, below_alike x es fs b) refl

pub sorted_alike : {A B : Type 0} (es : List (Key × A)) (fs : List (Key × B)) → map (λ e. e.0) es ≡ map (λ e. e.0) fs → is_sorted key_cmp es ≡ is_sorted key_cmp fs
sorted_alike [] [] h = refl
sorted_alike [] (f ∷ fs) h = absurd (cc)
sorted_alike (e ∷ es) [] h = absurd (cc)
sorted_alike (e ∷ es) (f ∷ fs) h =
    let a : e.0 ≡ f.0 = cc in
    let b : map (λ e. e.0) es ≡ map (λ e. e.0) fs = cc in
    rw (a, below_alike f.0 es fs b, sorted_alike es fs b) refl

pub list_keys : (es : Branches) → map (λ e. e.0) (list_of (plains es)) ≡ keys_in es
list_keys none = refl
list_keys (branch k v es) = ap (λ (ks : List Key). k ∷ ks) (list_keys es)

pub same_counts : (es : Branches) → length (keys_in es) ≡ length (cells_in es)
same_counts none = refl
same_counts (branch k v es) = ap suc (same_counts es)

-- ---- sums
pub sum_at : (us : List Tree) (at : ℕ) (rs : List (Key × Cell)) (i d : ℕ) → i < length rs → get_or (sums us at (map (λ r. r.1) rs)) i d ≡ at + before i (branches us rs)
sum_at us at [] i d h = absurd (omega arith)
sum_at us at (r ∷ rs) zero d h = omega arith
sum_at us at (r ∷ rs) (suc i) d h = omega (arith, sum_at us (at + containers (cell_tree us r.1)) rs i d (omega arith))

pub length_sums : (us : List Tree) (at : ℕ) (cs : List Cell) → length (sums us at cs) ≡ length cs
length_sums us at [] = refl
length_sums us at (c ∷ cs) = ap suc (length_sums us (at + containers (cell_tree us c)) cs)

pub length_rows : (rs : List (Key × Cell)) → length (map (λ r. r.1) rs) ≡ length rs
length_rows [] = refl
length_rows (r ∷ rs) = ap suc (length_rows rs)

pub length_picked : (ns is : List ℕ) → length (picked ns is) ≡ length is
length_picked ns [] = refl
length_picked ns (i ∷ is) = ap suc (length_picked ns is)

picked_at : (ns is : List ℕ) (j : ℕ) → j < length is → get_or (picked ns is) j 0 ≡ get_or ns (get_or is j 0) 0
picked_at ns [] j l = absurd (omega (arith, l))
picked_at ns (i ∷ is) zero l = refl
picked_at ns (i ∷ is) (suc j) l = picked_at ns is j (omega (arith, l))

below_get : (m : ℕ) (ns : List ℕ) (j : ℕ) → AllBelow m ns → j < length ns → get_or ns j 0 < m
below_get m [] j b l = absurd (omega (arith, l))
below_get m (n ∷ ns) zero b l = b.0
below_get m (n ∷ ns) (suc j) b l = below_get m ns j b.1 (omega (arith, l))

first_of : (ps : List (List (Key × Cell))) → get_or (pages.starts 0 ps) 0 0 ≡ 0
first_of [] = refl
first_of (p ∷ ps) = refl

first_picked : (xs : List ℕ) (ps : List (List (Key × Cell))) → get_or xs 0 0 ≡ 0 → get_or (picked xs (pages.starts 0 ps)) 0 0 ≡ 0
first_picked xs [] h = refl
first_picked xs (p ∷ ps) h = h

first_sum : (us : List Tree) (cs : List Cell) → get_or (sums us 0 cs) 0 0 ≡ 0
first_sum us [] = refl
first_sum us (c ∷ cs) = refl

some_start : (ps : List (List (Key × Cell))) → 0 < length (joined ps) → 0 < length (pages.starts 0 ps)
some_start [] h = absurd (omega (arith, h))
some_start (p ∷ ps) h = omega arith

no_more : (n : ℕ) → 0 + n ≡ n
no_more n = omega arith

pub before_shown : (us : List Tree) (rs : List (Key × Cell)) (is : List ℕ) (j : ℕ) → AllBelow (length rs) is → j < length is → get_or (picked (sums us 0 (map (λ r. r.1) rs)) is) j 0 ≡ before (get_or is j 0) (branches us rs)
before_shown us rs is j b l =
    picked_at (sums us 0 (map (λ r. r.1) rs)) is j l ∙ sum_at us 0 rs (get_or is j 0) 0 (below_get (length rs) is j b l) ∙ no_more (before (get_or is j 0) (branches us rs))

-- each entry has a value
few_entries : (us : List Tree) (rs : List (Key × Cell)) → length rs ≤ plain_value.values_in (plains (branches us rs))
few_entries us [] = omega arith
few_entries us (r ∷ rs) = let one = some_value (plain (cell_tree us r.1)) in omega (arith, one, few_entries us rs)

-- ---- the node of a number
node_of : (s : Paged) (hs : List Held) (id : ℕ) (d : Held) → s.nodes ≡ listed hs → 1 ≤ id → id ≤ length hs → listed_at s id ≡ (get_or hs (id - 1) d).node
node_of s hs id d e o l = ap (λ (ns : List Listed). get_or ns (id - 1) (record { kind = kind.Obj; names = []; after = 0 })) e ∙ listed_get hs (id - 1) d (record { kind = kind.Obj; names = []; after = 0 }) (omega (arith, o, l))

pub read_held : (ps : List (List (Key × Cell))) (hs : List Held) (id : ℕ) (d : Held) → Sound ps [] hs → InPages (length ps) 0 (listed hs) → IsNumber (standing ps [] (listed hs)) id → IsRead (record { pages = ps; nodes = listed hs }) (get_or hs (id - 1) d) id
unfolding states
read_held ps hs id d sound named n =
    let s : Paged = record { pages = ps; nodes = listed hs } in
    let us = standing ps [] (listed hs) in
    let h = get_or hs (id - 1) d in
    let qs = paged ps h.node.names in
    let rs = joined qs in
    let store = is_store ps hs sound in
    let k = held_at ps hs id d sound n in
    let one : 1 ≤ id = n.0 in
    let most : id ≤ length us = n.1 in
    let long = standing_length ps [] (listed hs) in
    let many = length_listed hs in
    let l : id ≤ length hs = omega (arith, most, long, many) in
    let here = node_of s hs id d refl one l in
    let rows_are : rows_at s id ≡ rs = ap (λ (m : Listed). table ps m.names) here in
    let cells : cells_of (tree_at us id) ≡ map (λ r. r.1) rs = ap cells_of k.tree ∙ cells_again us rs store k.below in
    record {
      number = n;
      kind = ap kind_of k.tree;
      node = here;
      names = subst (λ (m : Listed). AllBelow (length ps) m.names) (listed_get hs (id - 1) d d.node (omega (arith, one, l))) (below_at (length ps) 0 (listed hs) (id - 1) d.node named (omega (arith, one, l, many)));
      branches_are = ap branches_of k.tree ∙ ap (branches us) (sym rows_are);
      count = k.count ∙ sym (length_rows rs) ∙ ap length (sym cells);
      rows = ap length rows_are ∙ sym k.count;
      row_at = λ i r g. row_shown us (tree_at us id) id h.node.kind rs i r store k.tree k.below (ap (λ (qs : List (Key × Cell)). slice_get qs i) (sym rows_are) ∙ g);
      starts = k.starts;
      start_in = λ j g. let c = k.count in let e = ap (λ (xs : List ℕ). get_or xs j 0) k.starts in let m = ap length k.starts in let b = below_get (length rs) (pages.starts 0 qs) j k.inside (omega (arith, g, m)) in omega (arith, c, e, b);
      start_count = ap length k.before ∙ length_picked (sums us 0 (map (λ r. r.1) rs)) (pages.starts 0 qs) ∙ ap length (sym k.starts);
      some = λ g. let c = k.count in let m = ap length k.starts in let f = some_start qs (omega (arith, g, c)) in omega (arith, f, m);
      first_start = ap (λ (xs : List ℕ). get_or xs 0 0) k.starts ∙ first_of qs;
      first_before = ap (λ (xs : List ℕ). get_or xs 0 0) k.before ∙ first_picked (sums us 0 (map (λ r. r.1) rs)) qs (first_sum us (map (λ r. r.1) rs));
      before_at = λ j g. let m = ap length k.starts in ap (λ (xs : List ℕ). get_or xs j 0) k.before ∙ before_shown us rs (pages.starts 0 qs) j k.inside (omega (arith, g, m)) ∙ (λ i. before (get_or (sym k.starts i) j 0) (branches_of (sym k.tree i)));
      weight = k.weight;
      values = k.values;
      places = k.containers;
      depth = k.depth;
      small_weight = (small_at us id store n).weight;
      small_values = values_at us id store n;
      small_containers = containers_at us id store n;
      small_depth = (small_at us id store n).depth;
      small_count =
          let few = few_entries us rs in
          let all = values_at us id store n in
          let whole = ap (λ (t : Tree). plain_value.values (plain t)) k.tree in
          let c = k.count in
          omega (arith, few, all, whole, c);
    }

pub read_store : (ps : List (List (Key × Cell))) (hs : List Held) (id : ℕ) (d : Held) → Sound ps [] hs → InPages (length ps) 0 (listed hs) → 1 ≤ id → id ≤ length hs → IsRead (store_of ps hs) (get_or hs (id - 1) d) id
read_store ps hs id d s k o l = read_held ps hs id d s k (o, let long = standing_length ps [] (listed hs) in let many = length_listed hs in omega (arith, l, long, many))

-- ---- places in entries
pub inside_le : (t : Tree) → containers_in (branches_of t) ≤ containers t
inside_le (prim k) = omega arith
inside_le (node id of es) = omega arith

before_past : (i : ℕ) (es : Branches) → length (cells_in es) ≤ i → before i es ≡ containers_in es
before_past zero none h = refl
before_past (suc i) none h = refl
before_past zero (branch k v es) h = absurd (omega (arith, h))
before_past (suc i) (branch k v es) h = ap (λ (n : ℕ). containers v + n) (before_past i es (omega (arith, h)))

-- an entry before which there are not all places is there
pub past_entry : (t : Tree) (i n : ℕ) → before i (branches_of t) ≤ n → n < containers_in (branches_of t) → i < length (cells_of t)
past_entry t i n h l = elim (sides i (length (cells_of t))) [
  | inl less ↦ less
  | inr past ↦ let e = before_past i (branches_of t) past in absurd (omega (arith, e, h, l))
]
  where
    sides : (i j : ℕ) → (i < j) ⊎ (j ≤ i)
    sides i j = grind arith
