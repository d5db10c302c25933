-- The entries of a flat state and of a flat draft, one after another.
use Rattle.std.proofs.Common.{◌≡◌, ◌≢◌, ℕ, zero, suc, ◌+◌, ◌≤◌, List, [], ◌∷◌, ◌++◌, map, length, drop, ap, refl, sym, ◌∙◌, subst, arith}
use Rattle.std.specs.Prelude.{IsTrue, Option, Some, None, option_map, slice_get}
use Rattle.std.proofs.Math.Seq.{drop-nil}
use Rattle.std.proofs.lemmas.List.{append-nil, append_assoc}
use Rattle.std.specs.FinMap.Entries.{is_sorted}
use Rattle.value_model.specs.declared.key.Key.{Key}
use Rattle.value_model.specs.declared.kind.Kind.TheVariants as kind
use Rattle.value_model.specs.Order.{key_cmp}
use Rattle.value_model.specs.Plain.{Plain, Table, list_of}
use Rattle.value_model.specs.Search.{left_true}
use Rattle.value_model.specs.Well.{well, all_fit, all_well}
use Rattle.numbered.specs.Tree.{Tree, Branches, prim, node, none, branch, plain, plains}
use Rattle.node_store.specs.Nodes.{kind_of, keys_of, keys_in, cells_of, cells_in, cell_of}
use Rattle.page_tables.specs.declared.cell.Cell.{Cell}
use Rattle.host_machine.specs.Flat.{is_integer, is_flat}
use Rattle.host_machine.specs.Machine.{table_of}
use Rattle.run_heap.specs.declared.content.Content.{Content}
use Rattle.run_heap.specs.declared.value.Rv.{Rv}
use Rattle.run_heap.specs.Heap.{Heap, shown}
use Rattle.run_heap.specs.Operations as run
use Rattle.run_heap.specs.Sound.{IsContainer, IsSound}
use Rattle.draft_core.proofs.Keeping.{sorted_table}
use Rattle.draft_core.proofs.Kept.{container_owned}
use Rattle.host_engine.specs.Drafts.{plain_cell, entries_in, IsFlatObject}
use Rattle.host_engine.specs.Kept.{of_field}
use Rattle.host_engine.specs.declared.fields.Field.{Field}
use Rattle.host_engine.proofs.DraftLaws.{plain_sorted}
use Rattle.host_engine.proofs.FlatLaws.{Flat, integer_head, flat_tail}

-- ---- an object of integers has keys, which ascend
flat_keyed : (o : Option Content) → IsFlatObject o → option_map (λ (d : Content). d.kind) o ≢ Some kind.List
flat_keyed None f = absurd f
flat_keyed (Some c) f = λ e. let k : c.kind ≡ kind.List = cc in let q : kind.Obj ≡ kind.List = sym f.0 ∙ k in absurd (cc)

pub object_flat : (o : Option Content) → IsFlatObject o → Flat (entries_in o)
object_flat None f = absurd f
object_flat (Some c) f = f.1

pub object_sorted : (h : Heap) (of : Rv) → IsSound h → IsContainer h of → IsFlatObject (shown h of) → IsTrue (is_sorted key_cmp (entries_in (shown h of)))
object_sorted h of s c f = plain_sorted (run.table_of h of) ∙ sorted_table h of s (container_owned h of c) (flat_keyed (shown h of) f)

-- ---- the entry of a node at an index
pub flat_kind : (t : Tree) → IsTrue (is_flat (plain t)) → kind_of t ≢ kind.List
flat_kind (prim k) f = absurd (cc)
flat_kind (node id kind.Obj es) f = λ e. absurd (cc)
flat_kind (node id kind.List es) f = absurd (cc)
flat_kind (node id kind.Map es) f = absurd (cc)
flat_kind (node id kind.Set es) f = absurd (cc)

leaf_is : (v : Tree) → IsTrue (is_integer (plain v)) → plain v ≡ plain_cell (cell_of v)
leaf_is (prim k) h = refl
leaf_is (node id of es) h = absurd (cc)

branch_row : (es : Branches) (i : ℕ) (k : Key) (c : Cell) → Flat (list_of (plains es)) → slice_get (keys_in es) i ≡ Some k → slice_get (cells_in es) i ≡ Some c → slice_get (list_of (plains es)) i ≡ Some (k, plain_cell c)
branch_row none i k c f p q = absurd (cc)
branch_row (branch j v es) zero k c f p q =
    let a : j ≡ k = cc in
    let b : cell_of v ≡ c = cc in
    let l = leaf_is v (integer_head (j, plain v) (list_of (plains es)) f) ∙ ap plain_cell b in
    λ x. Some (a x, l x)
branch_row (branch j v es) (suc i) k c f p q = branch_row es i k c (flat_tail (j, plain v) (list_of (plains es)) f) p q

pub node_row : (t : Tree) (i : ℕ) (k : Key) (c : Cell) → IsTrue (is_flat (plain t)) → slice_get (keys_of t) i ≡ Some k → slice_get (cells_of t) i ≡ Some c → slice_get (table_of (plain t)) i ≡ Some (k, plain_cell c)
node_row (prim j) i k c f p q = absurd (cc)
node_row (node id kind.Obj es) i k c f p q = branch_row es i k c f p q
node_row (node id kind.List es) i k c f p q = absurd (cc)
node_row (node id kind.Map es) i k c f p q = absurd (cc)
node_row (node id kind.Set es) i k c f p q = absurd (cc)

pub integer_at : (es : Table) (i : ℕ) (e : Key × Plain) → Flat es → slice_get es i ≡ Some e → IsTrue (is_integer e.1)
integer_at [] i e f h = absurd (cc)
integer_at (d ∷ es) zero e f h = let q : d ≡ e = cc in subst (λ (x : Key × Plain). IsTrue (is_integer x.1)) q (integer_head d es f)
integer_at (d ∷ es) (suc i) e f h = integer_at es i e (flat_tail d es f) h

pub flat_node_table : (t : Tree) → IsTrue (is_flat (plain t)) → Flat (table_of (plain t))
flat_node_table (prim k) f = absurd (cc)
flat_node_table (node id kind.Obj es) f = f
flat_node_table (node id kind.List es) f = absurd (cc)
flat_node_table (node id kind.Map es) f = absurd (cc)
flat_node_table (node id kind.Set es) f = absurd (cc)

pub table_sorted : (t : Tree) → IsTrue (is_flat (plain t)) → IsTrue (well (plain t)) → IsTrue (is_sorted key_cmp (table_of (plain t)))
table_sorted (prim k) f w = absurd (cc)
table_sorted (node id kind.Obj es) f w = left_true _ (all_fit kind.Obj (plains es)) (left_true _ (all_well (plains es)) w)
table_sorted (node id kind.List es) f w = absurd (cc)
table_sorted (node id kind.Map es) f w = absurd (cc)
table_sorted (node id kind.Set es) f w = absurd (cc)

-- ---- how many there are
branches_length : (es : Branches) → length (list_of (plains es)) ≡ length (cells_in es)
branches_length none = refl
branches_length (branch k v es) = ap suc (branches_length es)

node_length : (t : Tree) → length (table_of (plain t)) ≡ length (cells_of t)
node_length (prim k) = refl
node_length (node id of es) = branches_length es

-- ---- the entries from an index on
entry_next : (es : Table) (i : ℕ) (e : Key × Plain) → slice_get es i ≡ Some e → drop i es ≡ e ∷ drop (i + 1) es
entry_next [] i e h = absurd (cc)
entry_next (x ∷ es) zero e h = let q : x ≡ e = cc in ap (λ (y : Key × Plain). y ∷ es) q
entry_next (x ∷ es) (suc i) e h = let s : suc i + 1 ≡ suc (i + 1) = omega arith in rw s (entry_next es i e h)

fields_push : (fs : List Field) (f : Field) → map of_field (fs ++ f ∷ []) ≡ map of_field fs ++ of_field f ∷ []
fields_push [] f = refl
fields_push (x ∷ fs) f = ap (λ (es : Table). of_field x ∷ es) (fields_push fs f)

pub fields_more : (fs gs : List Field) (es : Table) (i : ℕ) (f : Field) → slice_get es i ≡ Some (of_field f) → map of_field fs ++ drop i es ≡ es → gs ≡ fs ++ f ∷ [] → map of_field gs ++ drop (i + 1) es ≡ es
fields_more fs gs es i f h w p =
    ap (λ (x : List Field). map of_field x ++ drop (i + 1) es) p ∙ ap (λ (x : Table). x ++ drop (i + 1) es) (fields_push fs f)
    ∙ append_assoc (map of_field fs) (of_field f ∷ []) (drop (i + 1) es) ∙ ap (λ (x : Table). map of_field fs ++ x) (sym (entry_next es i (of_field f) h)) ∙ w

drop_past : (es : Table) (n : ℕ) → length es ≤ n → drop n es ≡ []
drop_past [] n l = drop-nil n
drop_past (e ∷ es) zero l = absurd (omega arith)
drop_past (e ∷ es) (suc n) l = drop_past es n (omega arith)

pub fields_all : (fs : List Field) (t : Tree) (n : ℕ) → length (cells_of t) ≤ n → map of_field fs ++ drop n (table_of (plain t)) ≡ table_of (plain t) → map of_field fs ≡ table_of (plain t)
fields_all fs t n l w =
    let past : length (table_of (plain t)) ≤ n = subst (λ (m : ℕ). m ≤ n) (sym (node_length t)) l in
    sym (append-nil (map of_field fs)) ∙ ap (λ (x : Table). map of_field fs ++ x) (sym (drop_past (table_of (plain t)) n past)) ∙ w
