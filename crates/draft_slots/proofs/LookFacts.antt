-- What a look at a node shows: laws.
use Rattle.std.proofs.Common.{◌≡◌, ◌≢◌, ℕ, zero, suc, ◌<◌, List, [], ◌∷◌, ◌++◌, length, drop, refl, ap, sym, ◌∙◌, subst, arith, true, false, cond}
use Rattle.std.proofs.Math.Seq.{drop-nil}
use Rattle.std.proofs.lemmas.List.{append-nil, append_assoc}
use Rattle.std.specs.Ordering.{is_eq}
use Rattle.std.specs.Prelude.{◌^◌, Option, Some, None, option_map, slice_get, Ok, ◌+◌, ◌≤◌, if◌then◌else◌}
use Rattle.std.specs.FinMap.Entries.{find}
use Rattle.value_model.specs.declared.key.Key.{Key}
use Rattle.value_model.specs.declared.key.Key.TheVariants as key
use Rattle.value_model.specs.Limits.{is_reserved_text}
use Rattle.value_model.specs.declared.kind.Kind.{Kind}
use Rattle.value_model.specs.declared.kind.Kind.TheVariants as kind
use Rattle.value_model.specs.Order.{key_cmp}
use Rattle.value_model.specs.Plain as plain_value
use Rattle.value_model.specs.Plain.{Plain, values, values_in}
use Rattle.numbered.proofs.Laws.{before_le, values_at}
use Rattle.numbered.specs.Store.{IsNumber, IsStore, tree_at}
use Rattle.numbered.specs.Tree.{Tree, Branches, prim, node, none, branch, plain, plains, branches_of, before}
use Rattle.node_store.specs.Nodes.{kind_of, cells_of, cells_in, cell_of}
use Rattle.node_store.proofs.Tables.{cell_again}
use Rattle.page_tables.specs.declared.cell.Cell.TheVariants as cell
use Rattle.run_heap.specs.declared.value.Given.{Given}
use Rattle.run_heap.specs.declared.value.Given.TheVariants as given
use Rattle.run_heap.specs.declared.value.Rv.{Rv}
use Rattle.run_heap.specs.declared.value.Rv.TheVariants.{Prim}
use Rattle.run_heap.specs.declared.content.Content.{Content}
use Rattle.run_heap.specs.Heap.{given_content}
use Rattle.run_heap.specs.Operations.{Rows, rows_of, source_in, value_at, position, entry, then_read, or_undefined, keys_of, listed, item}
use Rattle.draft_slots.specs.declared.look.Look.{Look}
use Rattle.draft_slots.specs.declared.look.Look.TheVariants.{Own, Node}
use Rattle.draft_slots.specs.Looks.{looked, IsLook, kind_in, Fit, GivenFits}
use Rattle.draft_slots.specs.Nodes.{node_table}
use Rattle.draft_slots.proofs.NodesLaws.{table_length}

pub rows_node : (g : Given) (t : Tree) → rows_of (given_content g t) ≡ node_table g t
rows_node g (prim k) = refl
rows_node g (node id of es) = refl

pub kind_node : (g : Given) (t : Tree) → kind_in (given_content g t) ≡ kind_of t
kind_node g (prim k) = refl
kind_node g (node id of es) = refl

pub count_node : (g : Given) (t : Tree) → length (rows_of (given_content g t)) ≡ length (cells_of t)
count_node g t = ap length (rows_node g t) ∙ table_length g (branches_of t)

-- a node has few cells
some_value : (v : Plain) → 1 ≤ values v
some_value (plain_value.prim k) = omega arith
some_value (plain_value.node of es) = omega arith

cells_le_values : (es : Branches) → length (cells_in es) ≤ values_in (plains es)
cells_le_values none = omega arith
cells_le_values (branch k v es) = omega (arith, some_value (plain v), cells_le_values es)

cells_below : (t : Tree) → length (cells_of t) ≤ values (plain t)
cells_below (prim k) = omega arith
cells_below (node id of es) = omega (arith, cells_le_values es)

pub few_cells : (ts : List Tree) (id : ℕ) → IsStore ts → IsNumber ts id → length (cells_of (tree_at ts id)) ≤ 2 ^ 20
few_cells ts id s h = omega (arith, cells_below (tree_at ts id), values_at ts id s h)

source_cell : (g : Given) (t : Tree) (id : ℕ) → cell_of t ≡ cell.Node id → Some id ≡ source_in (given_content g t)
source_cell g (prim k) id h = absurd (cc)
source_cell g (node i of es) id h = let e : i ≡ id = cc in ap Some (sym e)

pub source_node : (ts : List Tree) (g : Given) (id : ℕ) → IsStore ts → IsNumber ts id → Some id ≡ source_in (given_content g (tree_at ts id))
source_node ts g id s n = source_cell g (tree_at ts id) id (cell_again ts (cell.Node id) s n)

pub fits_before : (g : Given) (t : Tree) (i : ℕ) → Fit g t → GivenFits g (before i (branches_of t))
fits_before given.Frozen t i f = tt
fits_before (given.From r) t i f = let b = before_le i (branches_of t) in omega (arith, f, b)

-- ---- a node that the store has is a container
cell_content : (g : Given) (t : Tree) (id : ℕ) → cell_of t ≡ cell.Node id → given_content g t ≡ Some (record { kind = kind_of t; table = node_table g t; source = Some id; written = false })
cell_content g (prim k) id h = absurd (cc)
cell_content g (node i of es) id h = let e : i ≡ id = cc in λ j. Some (record { kind = of; table = node_table g (node i of es); source = Some (e j); written = false })

pub content_node : (ts : List Tree) (g : Given) (id : ℕ) → IsStore ts → IsNumber ts id → given_content g (tree_at ts id) ≡ Some (record { kind = kind_of (tree_at ts id); table = node_table g (tree_at ts id); source = Some id; written = false })
content_node ts g id s n = cell_content g (tree_at ts id) id (cell_again ts (cell.Node id) s n)

pub content_made : (ts : List Tree) (g : Given) (id : ℕ) (of : Kind) (t : Rows) → IsStore ts → IsNumber ts id → of ≡ kind_of (tree_at ts id) → t ≡ node_table g (tree_at ts id) → given_content g (tree_at ts id) ≡ Some (record { kind = of; table = t; source = Some id; written = false })
content_made ts g id of t s n p q = content_node ts g id s n ∙ (λ j. Some (record { kind = sym p j; table = sym q j; source = Some id; written = false }))

then_content : (k : Key) (o : Option Content) (c : Content) → o ≡ Some c → then_read (λ d. entry k d.kind d.table) o ≡ entry k (kind_in o) (rows_of o)
then_content k o c h = rw h refl

-- a look shows a content
pub then_entry : (ts : List Tree) (l : Look) (k : Key) → IsLook ts l → then_read (λ c. entry k c.kind c.table) (looked ts l) ≡ entry k (kind_in (looked ts l)) (rows_of (looked ts l))
then_entry ts (Own c) k h = refl
then_entry ts (Node id g) k h = then_content k (given_content g (tree_at ts id)) _ (content_node ts g id h.0 h.1)

-- ---- a member of an object
later_some : (P : ℕ → Type 0) (o : Option ℕ) (i : ℕ) → option_map suc o ≡ Some i → ((j : ℕ) → o ≡ Some j → suc j ≡ i → P i) → P i
later_some P None i h f = absurd (cc)
later_some P (Some j) i h f = f j refl (let q : suc j ≡ i = cc in q)

pub position_below : (k : Key) (t : Rows) (i : ℕ) → position k t ≡ Some i → i < length t
position_below k [] i h = absurd (cc)
position_below k (e ∷ t) i h = elim (is_eq (key_cmp k e.0)) as (λ b. (if b then Some 0 else option_map suc (position k t)) ≡ Some i → i < length (e ∷ t)) [
  | true ↦ λ h. let q : 0 ≡ i = cc in omega (arith, q)
  | false ↦ λ h. later_some (λ (n : ℕ). n < length (e ∷ t)) (position k t) i h (λ j p q. let l = position_below k t j p in omega (arith, l, q))
] h

pub member_found : (k : Key) (t : Rows) (i : ℕ) (v : Rv) → position k t ≡ Some i → value_at i t ≡ Some v → find key_cmp k t ≡ Some v
member_found k [] i v h w = absurd (cc)
member_found k (e ∷ t) i v h w = elim (is_eq (key_cmp k e.0)) as (λ b. (if b then Some 0 else option_map suc (position k t)) ≡ Some i → value_at i (e ∷ t) ≡ Some v → cond b (Some e.1) (find key_cmp k t) ≡ Some v) [
  | true ↦ λ h w. let q : 0 ≡ i = cc in let z = subst (λ (n : ℕ). value_at n (e ∷ t) ≡ Some v) (sym q) w in z
  | false ↦ λ h. later_some (λ (n : ℕ). value_at n (e ∷ t) ≡ Some v → find key_cmp k t ≡ Some v) (position k t) i h (λ j p q w. member_found k t j v p (subst (λ (n : ℕ). value_at n (e ∷ t) ≡ Some v) (sym q) w))
] h w

none_later : (o : Option ℕ) → option_map suc o ≡ None → o ≡ None
none_later None h = refl
none_later (Some j) h = absurd (cc)

pub member_absent : (k : Key) (t : Rows) → position k t ≡ None → find key_cmp k t ≡ None
member_absent k [] h = refl
member_absent k (e ∷ t) h = elim (is_eq (key_cmp k e.0)) as (λ b. (if b then Some 0 else option_map suc (position k t)) ≡ None → cond b (Some e.1) (find key_cmp k t) ≡ None) [
  | true ↦ λ h. absurd (cc)
  | false ↦ λ h. member_absent k t (none_later (position k t) h)
] h

pub entry_found : (k : Key) (s : List ℕ) (t : Rows) (o : Option Rv) → k ≡ key.Text s → is_reserved_text s ≡ false → find key_cmp k t ≡ o → entry k kind.Obj t ≡ Ok (or_undefined o)
entry_found k s t o is r f = let g = subst (λ (j : Key). find key_cmp j t ≡ o) is f in rw (is, r, g) refl

-- ---- the entries from an index on
pub next_entry : (t : Rows) (i : ℕ) (e : Key × Rv) → slice_get t i ≡ Some e → drop i t ≡ e ∷ drop (i + 1) t
next_entry [] i e h = absurd (cc)
next_entry (x ∷ t) zero e h = let q : x ≡ e = cc in ap (λ (y : Key × Rv). y ∷ t) q
next_entry (x ∷ t) (suc i) e h = let s : suc i + 1 ≡ suc (i + 1) = omega arith in rw s (next_entry t i e h)

pub one_more : (t all : Rows) (i : ℕ) (e : Key × Rv) (u : Rows) → slice_get all i ≡ Some e → t ++ drop i all ≡ all → u ≡ t ++ e ∷ [] → u ++ drop (i + 1) all ≡ all
one_more t all i e u h w p = ap (λ (x : Rows). x ++ drop (i + 1) all) p ∙ append_assoc t (e ∷ []) (drop (i + 1) all) ∙ ap (λ (x : Rows). t ++ x) (sym (next_entry all i e h)) ∙ w

drop_all : (all : Rows) (n : ℕ) → length all ≤ n → drop n all ≡ []
drop_all [] n l = drop-nil n
drop_all (e ∷ all) zero l = absurd (omega arith)
drop_all (e ∷ all) (suc n) l = drop_all all n (omega arith)

pub all_there : (t all : Rows) (n : ℕ) → length all ≤ n → t ++ drop n all ≡ all → t ≡ all
all_there t all n l w = sym (append-nil t) ∙ ap (λ (x : Rows). t ++ x) (sym (drop_all all n l)) ∙ w

-- ---- a look shows a kind
some_kind : (o : Option Content) (c : Content) → o ≡ Some c → Some (kind_in o) ≡ option_map (λ (d : Content). d.kind) o
some_kind o c h = rw h refl

pub looked_kind : (ts : List Tree) (l : Look) → IsLook ts l → Some (kind_in (looked ts l)) ≡ option_map (λ (d : Content). d.kind) (looked ts l)
looked_kind ts (Own c) h = refl
looked_kind ts (Node id g) h = some_kind (given_content g (tree_at ts id)) _ (content_node ts g id h.0 h.1)

no_none : (o : Option Content) (c : Content) → o ≡ Some c → o ≢ None
no_none o c h = rw h (λ q. absurd (cc))

pub looked_some : (ts : List Tree) (l : Look) → IsLook ts l → looked ts l ≢ None
looked_some ts (Own c) h = λ q. absurd (cc)
looked_some ts (Node id g) h = no_none (given_content g (tree_at ts id)) _ (content_node ts g id h.0 h.1)

-- ---- keys as elements of a list
pub listed_at : (t : Rows) (i : ℕ) (k : Key) → slice_get (keys_of t) i ≡ Some k → slice_get (listed (keys_of t)) i ≡ Some (item (Prim k))
listed_at [] i k h = absurd (cc)
listed_at (e ∷ t) zero k h = let q : e.0 ≡ k = cc in ap (λ (j : Key). let o : Option (Key × Rv) = Some (item (Prim j)) in o) q
listed_at (e ∷ t) (suc i) k h = listed_at t i k h

pub listed_length : (t : Rows) → length (listed (keys_of t)) ≡ length t
listed_length [] = refl
listed_length (e ∷ t) = ap suc (listed_length t)
