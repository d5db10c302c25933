-- What reads give, and what they leave.
use Rattle.numbered.proofs.Laws.{children_of, of_number}
use Rattle.std.proofs.Common.{◌≡◌, ℕ, zero, suc, pos, negsuc, ◌-◌, List, [], ◌∷◌, refl, ap, sym, ◌∙◌, subst, arith, true, false, not, Result, Ok, Err, cond}
use Rattle.std.specs.Prelude.{◌||◌, nat_lt, Option, Some, None, if◌then◌else◌, ⊤, slice_get}
use Rattle.std.specs.FinMap.Entries.{find}
use Rattle.std.specs.Ordering.{eq_by_cmp, is_eq}
use Rattle.value_model.specs.declared.key.Key.{Key}
use Rattle.value_model.specs.declared.key.Key.TheVariants as key
use Rattle.value_model.specs.declared.kind.Kind.{Kind}
use Rattle.value_model.specs.declared.kind.Kind.TheVariants as kind
use Rattle.value_model.specs.Limits.{is_reserved_text}
use Rattle.value_model.specs.Order.{key_cmp}
use Rattle.numbered.specs.Store.{tree_at, IsNumber, IsStore, IsOf, AllOf}
use Rattle.numbered.specs.Tree.{Tree, Branches, prim, node, none, branch, children}
use Rattle.run_heap.specs.declared.value.Given.TheVariants as given
use Rattle.node_store.specs.Nodes.{cell_of}
use Rattle.node_store.proofs.Tables.{cell_again}
use Rattle.page_tables.specs.declared.cell.Cell.TheVariants as cell
use Rattle.run_heap.specs.declared.value.Rv.{Rv}
use Rattle.run_heap.specs.declared.value.Rv.TheVariants.{Undefined, Prim, Obj, Frozen}
use Rattle.run_heap.specs.declared.content.Content.{Content}
use Rattle.run_heap.specs.declared.fault.DraftFault.{DraftFault}
use Rattle.run_heap.specs.declared.fault.DraftFault.TheVariants as fault
use Rattle.run_heap.specs.Heap.{Heap, shown, is_foreign, given_table, given_content, with_object, next_object, fresh, given_value}
use Rattle.run_heap.specs.Operations.{Rows, or_undefined, value_at, entry, then_read, read, get, listed, keys_of, keys_shown, then_list, keys, rows_of, table_of, entry_at}
use Rattle.value_model.specs.Kinds.{is_object}
use Rattle.run_heap.specs.Sound.{IsSound}
use Rattle.draft_laws.specs.Walks.{then_reads, read_along, IsNoObject, AllPrimitive, under, child, then_subtree, subtree_at, frozen_value}

-- ---- what stands in a frozen node
abbrev NoObjects : Rows → Type 0
NoObjects [] = ⊤
NoObjects (e ∷ t) = IsNoObject e.1 × NoObjects t

given_frozen : (es : Branches) → NoObjects (given_table given.Frozen es)
given_frozen none = tt
given_frozen (branch k (prim j) es) = (tt, given_frozen es)
given_frozen (branch k (node id of ds) es) = (tt, given_frozen es)

found_none : (k : Key) (t : Rows) → NoObjects t → IsNoObject (or_undefined (find key_cmp k t))
found_none k [] a = tt
found_none k (e ∷ t) a = elim (eq_by_cmp key_cmp k e.0) as (λ b. IsNoObject (or_undefined (cond b (Some e.1) (find key_cmp k t)))) [
  | true ↦ a.0
  | false ↦ found_none k t a.1
]

element_none : (i : ℕ) (t : Rows) → NoObjects t → IsNoObject (or_undefined (value_at i t))
element_none i [] a = tt
element_none zero (e ∷ t) a = a.0
element_none (suc i) (e ∷ t) a = element_none i t a.1

value_none : (i : ℕ) (t : Rows) (v : Rv) → NoObjects t → value_at i t ≡ Some v → IsNoObject v
value_none i [] v a e = absurd (cc)
value_none zero (x ∷ t) v a e = let q : x.1 ≡ v = cc in subst IsNoObject q a.0
value_none (suc i) (x ∷ t) v a e = value_none i t v a.1 e

entry_none : (k : Key) (of : Kind) (t : Rows) (v : Rv) → NoObjects t → entry k of t ≡ Ok v → IsNoObject v
entry_none (key.Text s) kind.Obj t v a = elim (is_reserved_text s) as (λ b. (if b then Err fault.ReservedKey else Ok (or_undefined (find key_cmp (key.Text s) t))) ≡ Ok v → IsNoObject v) [
  | true ↦ λ e. absurd (cc)
  | false ↦ λ e. let q : or_undefined (find key_cmp (key.Text s) t) ≡ v = cc in subst IsNoObject q (found_none (key.Text s) t a)
]
entry_none (key.Int (pos i)) kind.List t v a = λ e. let q : or_undefined (value_at i t) ≡ v = cc in subst IsNoObject q (element_none i t a)
entry_none (key.Int (negsuc i)) kind.List t v a = λ e. let q : Undefined ≡ v = cc in subst IsNoObject q tt
entry_none _ _ t v a = λ e. absurd (cc)

node_none : (k : Key) (t : Tree) (v : Rv) → then_read (λ c. entry k c.kind c.table) (given_content given.Frozen t) ≡ Ok v → IsNoObject v
node_none k (prim j) v e = absurd (cc)
node_none k (node id of es) v e = entry_none k of (given_table given.Frozen es) v (given_frozen es) e

get_none : (k : Key) (h : Heap) (of v : Rv) → IsNoObject of → get k h of ≡ Ok v → IsNoObject v
get_none k h Undefined v n e = absurd (cc)
get_none k h (Prim j) v n e = absurd (cc)
get_none k h (Obj r) v n e = absurd n
get_none k h (Frozen id) v n e = node_none k (tree_at h.states id) v e

along_none : (ks : List Key) (h : Heap) (of v : Rv) → IsNoObject of → read_along ks h of ≡ Ok v → IsNoObject v
along_none [] h of v n e = let q : of ≡ v = cc in subst IsNoObject q n
along_none (k ∷ ks) h of v n e = elim (get k h of) as (λ r. get k h of ≡ r → then_reads (read_along ks h) r ≡ Ok v → IsNoObject v) [
  | Ok u ↦ λ p q. along_none ks h u v (get_none k h of u n p) q
  | Err x ↦ λ p q. absurd (cc)
] refl e

pub frozen_along : (ks : List Key) (h : Heap) (id : ℕ) (v : Rv) → read_along ks h (Frozen id) ≡ Ok v → IsNoObject v
frozen_along ks h id v e = along_none ks h (Frozen id) v tt e

value_in : (i : ℕ) (t : Tree) (v : Rv) → value_at i (rows_of (given_content given.Frozen t)) ≡ Some v → IsNoObject v
value_in i (prim k) v e = absurd (cc)
value_in i (node id of es) v e = value_none i (given_table given.Frozen es) v (given_frozen es) e

pub frozen_entry : (h : Heap) (id i : ℕ) (v : Rv) → entry_at h (Frozen id) i ≡ Some v → IsNoObject v
frozen_entry h id i v e = value_in i (tree_at h.states id) v e

-- ---- and it is what stands in the state
found_state : (k : Key) (es : Branches) → or_undefined (find key_cmp k (given_table given.Frozen es)) ≡ frozen_value (under k es)
found_state k none = refl
found_state k (branch j v es) = elim (is_eq (key_cmp k j)) as (λ b. or_undefined (cond b (Some (given_value given.Frozen v)) (find key_cmp k (given_table given.Frozen es))) ≡ frozen_value (if b then Some v else under k es)) [
  | true ↦ refl
  | false ↦ found_state k es
]

element_state : (i : ℕ) (es : Branches) → or_undefined (value_at i (given_table given.Frozen es)) ≡ frozen_value (slice_get (children es) i)
element_state i none = refl
element_state zero (branch j v es) = refl
element_state (suc i) (branch j v es) = element_state i es

entry_state : (k : Key) (of : Kind) (es : Branches) (v : Rv) → entry k of (given_table given.Frozen es) ≡ Ok v → v ≡ frozen_value (child of k es)
entry_state (key.Text s) kind.Obj es v = elim (is_reserved_text s) as (λ b. (if b then Err fault.ReservedKey else Ok (or_undefined (find key_cmp (key.Text s) (given_table given.Frozen es)))) ≡ Ok v → v ≡ frozen_value (under (key.Text s) es)) [
  | true ↦ λ e. absurd (cc)
  | false ↦ λ e. let q : or_undefined (find key_cmp (key.Text s) (given_table given.Frozen es)) ≡ v = cc in sym q ∙ found_state (key.Text s) es
]
entry_state (key.Int (pos i)) kind.List es v = λ e. let q : or_undefined (value_at i (given_table given.Frozen es)) ≡ v = cc in sym q ∙ element_state i es
entry_state (key.Int (negsuc i)) kind.List es v = λ e. let q : Undefined ≡ v = cc in sym q
entry_state _ _ es v = λ e. absurd (cc)

-- a child of a store's state is the store's
under_of : (ts : List Tree) (k : Key) (es : Branches) (t : Tree) → AllOf ts es → under k es ≡ Some t → IsOf ts t
under_of ts k none t a e = absurd (cc)
under_of ts k (branch j v es) t a e = elim (is_eq (key_cmp k j)) as (λ b. (if b then Some v else under k es) ≡ Some t → IsOf ts t) [
  | true ↦ λ z. let q : v ≡ t = cc in subst (IsOf ts) q a.0
  | false ↦ λ z. under_of ts k es t a.1 z
] e

element_of : (ts : List Tree) (i : ℕ) (es : Branches) (t : Tree) → AllOf ts es → slice_get (children es) i ≡ Some t → IsOf ts t
element_of ts i none t a e = absurd (cc)
element_of ts zero (branch j v es) t a e = let q : v ≡ t = cc in subst (IsOf ts) q a.0
element_of ts (suc i) (branch j v es) t a e = element_of ts i es t a.1 e

child_of : (ts : List Tree) (of : Kind) (k : Key) (es : Branches) (t : Tree) → AllOf ts es → child of k es ≡ Some t → IsOf ts t
child_of ts kind.Obj (key.Text s) es t a e = under_of ts (key.Text s) es t a e
child_of ts kind.List (key.Int (pos i)) es t a e = element_of ts i es t a e
child_of ts kind.Map k es t a e = under_of ts k es t a e
child_of ts _ _ es t a e = absurd (cc)

-- nothing is read below what is no container
undefined_along : (ks : List Key) (h : Heap) (v : Rv) → read_along ks h Undefined ≡ Ok v → v ≡ Undefined
undefined_along [] h v e = cc
undefined_along (k ∷ ks) h v e = absurd (cc)

node_along : (k : Key) (h : Heap) (id : ℕ) (of : Kind) (es : Branches) → tree_at h.states id ≡ node id of es → get k h (Frozen id) ≡ entry k of (given_table given.Frozen es)
node_along k h id of es e = ap (λ (t : Tree). then_read (λ c. entry k c.kind c.table) (given_content given.Frozen t)) e

along_state : (ks : List Key) (h : Heap) (t : Tree) (v : Rv) → IsStore h.states → IsOf h.states t → read_along ks h (given_value given.Frozen t) ≡ Ok v → v ≡ frozen_value (subtree_at ks t)
along_state [] h t v s o e = cc
along_state (k ∷ ks) h (prim j) v s o e = absurd (cc)
along_state (k ∷ ks) h (node id of es) v s o e =
    let all = children_of h.states id of es s o in
    let step : then_reads (read_along ks h) (entry k of (given_table given.Frozen es)) ≡ Ok v = ap (then_reads (read_along ks h)) (sym (node_along k h id of es o.1)) ∙ e in
    elim (entry k of (given_table given.Frozen es)) as (λ r. entry k of (given_table given.Frozen es) ≡ r → then_reads (read_along ks h) r ≡ Ok v → v ≡ frozen_value (then_subtree (subtree_at ks) (child of k es))) [
      | Err x ↦ λ p q. absurd (cc)
      | Ok u ↦ λ p q. elim (child of k es) as (λ c. child of k es ≡ c → u ≡ frozen_value c → v ≡ frozen_value (then_subtree (subtree_at ks) c)) [
        | None ↦ λ c w. undefined_along ks h v (subst (λ (x : Rv). read_along ks h x ≡ Ok v) w q)
        | Some d ↦ λ c w. along_state ks h d v s (child_of h.states of k es d all c) (subst (λ (x : Rv). read_along ks h x ≡ Ok v) w q)
      ] refl (entry_state k of es u p)
    ] refl step

frozen_node : (t : Tree) (id : ℕ) → cell_of t ≡ cell.Node id → Frozen id ≡ given_value given.Frozen t
frozen_node (prim k) id h = absurd (cc)
frozen_node (node i of es) id h = let e : i ≡ id = cc in ap Frozen (sym e)

pub frozen_state : (ks : List Key) (h : Heap) (id : ℕ) (v : Rv) → IsSound h → IsNumber h.states id → read_along ks h (Frozen id) ≡ Ok v → v ≡ frozen_value (subtree_at ks (tree_at h.states id))
frozen_state ks h id v s n e =
    let t = tree_at h.states id in
    let is = frozen_node t id (cell_again h.states (cell.Node id) s.store n) in
    along_state ks h t v s.store (of_number h.states id s.store n) (subst (λ (x : Rv). read_along ks h x ≡ Ok v) is e)

-- ---- `keys`
listed_primitive : (ks : List Key) → AllPrimitive (listed ks)
listed_primitive [] = tt
listed_primitive (k ∷ ks) = (tt, listed_primitive ks)

shown_primitive : (o : Option Content) (t : Rows) → then_read keys_shown o ≡ Ok t → AllPrimitive t
shown_primitive None t e = absurd (cc)
shown_primitive (Some c) t e = elim (not (is_object c.kind)) as (λ b. (if b then Err fault.TypeMismatch else Ok (listed (keys_of c.table))) ≡ Ok t → AllPrimitive t) [
  | true ↦ λ z. absurd (cc)
  | false ↦ λ z. let q : listed (keys_of c.table) ≡ t = cc in subst AllPrimitive q (listed_primitive (keys_of c.table))
] e

read_primitive : (h : Heap) (of : Rv) (t : Rows) → read keys_shown h of [] ≡ Ok t → AllPrimitive t
read_primitive h of t e = elim (is_foreign h of || false) as (λ b. (if b then Err fault.Revoked else then_read keys_shown (shown h of)) ≡ Ok t → AllPrimitive t) [
  | true ↦ λ z. absurd (cc)
  | false ↦ λ z. shown_primitive (shown h of) t z
] e

-- the list that it makes
record IsKeys (h g : Heap) (v : Rv) : Type 0 where
  table : Rows
  heap : g ≡ with_object (fresh kind.List table) h
  answer : v ≡ next_object h
  primitive : AllPrimitive table

keys_in : (h g : Heap) (v : Rv) (r : Result Rows DraftFault) → ((t : Rows) → r ≡ Ok t → AllPrimitive t) → then_list h r ≡ Ok (g, v) → IsKeys h g v
keys_in h g v (Ok t) a e =
    let both : (with_object (fresh kind.List t) h, next_object h) ≡ (g, v) = cc in
    record { table = t; heap = sym (ap (λ (y : Heap × Rv). y.0) both); answer = sym (ap (λ (y : Heap × Rv). y.1) both); primitive = a t refl }
keys_in h g v (Err x) a e = absurd (cc)

keys_made : (h g : Heap) (of v : Rv) → keys h of ≡ Ok (g, v) → IsKeys h g v
keys_made h g of v e = keys_in h g v (read keys_shown h of []) (read_primitive h of) e

newest : (h : Heap) (c : Content) → shown (with_object c h) (next_object h) ≡ Some c
newest h c =
    let no : nat_lt h.next h.next ≡ false = grind arith in
    let z : h.next - h.next ≡ 0 = omega arith in
    rw (no, z) refl

list_made : (h g : Heap) (of v : Rv) → keys h of ≡ Ok (g, v) → (t : Rows) × (shown g v ≡ Some (fresh kind.List t)) × AllPrimitive t
list_made h g of v e =
    let k = keys_made h g of v e in
    (k.table, (λ i. shown (k.heap i) (k.answer i)) ∙ newest h (fresh kind.List k.table), k.primitive)

pub keys_list : (h g : Heap) (of v : Rv) → keys h of ≡ Ok (g, v) → AllPrimitive (table_of g v)
keys_list h g of v e = let m = list_made h g of v e in subst AllPrimitive (sym (ap rows_of m.1)) m.2
