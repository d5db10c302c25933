-- A flat root as a node of a store: it is accepted, and weighs by itself what it weighs.
use Rattle.std.proofs.Common.{◌≡◌, ℕ, ◌+◌, ◌-◌, ◌≤◌, ◌^◌, List, [], ◌∷◌, ◌++◌, map, length, ap, refl, arith, Bool, true, false}
use Rattle.std.specs.Prelude.{IsTrue, ◌&&◌, not, nat_lt, None}
use Rattle.std.specs.FinMap.Entries.{is_sorted, below_all}
use Rattle.std.specs.List.{zip}
use Rattle.std.specs.Ordering.{is_lt}
use Rattle.std.proofs.Math.Seq.{get_or-append_seam}
use Rattle.value_model.specs.declared.key.Key.{Key}
use Rattle.value_model.specs.declared.key.Key.TheVariants as key
use Rattle.value_model.specs.declared.kind.Kind.TheVariants as kind
use Rattle.value_model.specs.Limits.{is_long_key, is_reserved_key, has_long_key, any_long_key, has_reserved_key, any_reserved_key, state_limit}
use Rattle.value_model.specs.Order.{key_cmp}
use Rattle.value_model.specs.Plain as plain_value
use Rattle.value_model.specs.Plain.{Plain, Table as TableOf, entries, weight, weights, depth, deepest}
use Rattle.value_model.specs.Search.{left_true, right_true}
use Rattle.numbered.specs.Tree.{Tree, prim, node, branch, own_weight, child_weight, child_weights}
use Rattle.numbered.specs.Loading.{places, places_in, numbered, numbered_in}
use Rattle.numbered.specs.Store.{tree_at}
use Rattle.node_store.specs.Nodes.{is_node, ascending, cell_fits, cells_fit, CellBelow, CellsBelow, cell_tree, branches, built}
use Rattle.page_tables.specs.declared.cell.Cell.{Cell}
use Rattle.host_machine.specs.Flat.{is_integer, is_text_key, is_field_key, is_flat_table}
use Rattle.host_machine.proofs.NumberLaws.{flat_places}
use Rattle.host_engine.specs.Kept.{state_of}
use Rattle.host_engine.specs.Frozen.{frozen, key_of, cell_of, leaf_cell}

abbrev pub Flat : TableOf → Type 0
Flat es = IsTrue (is_flat_table es)

pub integer_head : (e : Key × Plain) (es : TableOf) → Flat (e ∷ es) → IsTrue (is_integer e.1)
integer_head e es h = right_true (is_field_key e.0) (is_integer e.1) (left_true (is_field_key e.0 && is_integer e.1) (is_flat_table es) h)

key_head : (e : Key × Plain) (es : TableOf) → Flat (e ∷ es) → IsTrue (is_field_key e.0)
key_head e es h = left_true (is_field_key e.0) (is_integer e.1) (left_true (is_field_key e.0 && is_integer e.1) (is_flat_table es) h)

pub flat_tail : (e : Key × Plain) (es : TableOf) → Flat (e ∷ es) → Flat es
flat_tail e es h = right_true (is_field_key e.0 && is_integer e.1) (is_flat_table es) h

-- ---- what the node stands for
leaf_tree : (ts : List Tree) (next : ℕ) (v : Plain) → IsTrue (is_integer v) → cell_tree ts (leaf_cell v) ≡ numbered next v
leaf_tree ts next (plain_value.prim k) h = refl
leaf_tree ts next (plain_value.node kind es) h = absurd (cc)

entries_numbered : (ts : List Tree) (next : ℕ) (es : TableOf) → Flat es → branches ts (zip (map key_of es) (map cell_of es)) ≡ numbered_in next (entries es)
entries_numbered ts next [] h = refl
entries_numbered ts next (e ∷ es) h =
    let leaf = leaf_tree ts next e.1 (integer_head e es h) in
    let rest = entries_numbered ts (next + places e.1) es (flat_tail e es h) in
    λ i. branch e.0 (leaf i) (rest i)

pub built_frozen : (ts : List Tree) (es : TableOf) → Flat es → built ts kind.Obj (map key_of es) (map cell_of es) ≡ frozen ts es
built_frozen ts es h =
    let id : length ts + 1 ≡ length ts + 1 + places_in (entries es) = omega (arith, flat_places es h) in
    λ i. node (id i) kind.Obj (entries_numbered ts (length ts + 1) es h i)

leaf_below : (ts : List Tree) (v : Plain) → CellBelow ts (leaf_cell v)
leaf_below ts (plain_value.prim k) = tt
leaf_below ts (plain_value.node kind es) = tt

pub cells_below : (ts : List Tree) (es : TableOf) → CellsBelow ts (map cell_of es)
cells_below ts [] = tt
cells_below ts (e ∷ es) = (leaf_below ts e.1, cells_below ts es)

below_keys : (k : Key) (es : TableOf) → below_all key_cmp k (map (λ (j : Key). let e : Key × Key = (j, j) in e) (map key_of es)) ≡ below_all key_cmp k es
below_keys k [] = refl
below_keys k (e ∷ es) = ap (λ (b : Bool). is_lt (key_cmp k e.0) && b) (below_keys k es)

sorted_keys : (es : TableOf) → ascending (map key_of es) ≡ is_sorted key_cmp es
sorted_keys [] = refl
sorted_keys (e ∷ es) = let a = below_keys e.0 es in let b = sorted_keys es in λ i. a i && b i

text_fits : (k : Key) (c : Cell) → IsTrue (is_field_key k) → cell_fits kind.Obj k c ≡ true
text_fits (key.Text s) c h = refl
text_fits key.Null c h = absurd (cc)
text_fits (key.Bool b) c h = absurd (cc)
text_fits (key.Int n) c h = absurd (cc)

entries_fit : (es : TableOf) → Flat es → cells_fit kind.Obj (map key_of es) (map cell_of es) ≡ true
entries_fit [] h = refl
entries_fit (e ∷ es) h = rw (text_fits e.0 (cell_of e) (key_head e es h)) (entries_fit es (flat_tail e es h))

pub entries_node : (es : TableOf) → IsTrue (is_sorted key_cmp es) → Flat es → IsTrue (is_node kind.Obj (map key_of es) (map cell_of es))
entries_node es h f = rw (sorted_keys es, h) (entries_fit es f)

-- ---- it is accepted
no_depth : (v : Plain) → IsTrue (is_integer v) → depth v ≡ 0
no_depth (plain_value.prim k) h = refl
no_depth (plain_value.node kind es) h = absurd (cc)

flat_deepest : (es : TableOf) → Flat es → deepest (entries es) ≡ 0
flat_deepest [] h = refl
flat_deepest (e ∷ es) h = omega (arith, no_depth e.1 (integer_head e es h), flat_deepest es (flat_tail e es h))

no_long : (v : Plain) → IsTrue (is_integer v) → has_long_key v ≡ false
no_long (plain_value.prim k) h = refl
no_long (plain_value.node kind es) h = absurd (cc)

no_reserved : (v : Plain) → IsTrue (is_integer v) → has_reserved_key v ≡ false
no_reserved (plain_value.prim k) h = refl
no_reserved (plain_value.node kind es) h = absurd (cc)

pub not_true : (b : Bool) → not b ≡ true → b ≡ false
not_true true h = absurd (cc)
not_true false h = refl

pub not_false : (b : Bool) → not b ≡ false → b ≡ true
not_false true h = refl
not_false false h = absurd (cc)

short_key : (k : Key) → IsTrue (is_field_key k) → is_long_key k ≡ false
short_key k h = not_true (is_long_key k) (right_true (is_text_key k && not (is_reserved_key k)) (not (is_long_key k)) h)

free_key : (k : Key) → IsTrue (is_field_key k) → is_reserved_key k ≡ false
free_key k h = not_true (is_reserved_key k) (right_true (is_text_key k) (not (is_reserved_key k)) (left_true (is_text_key k && not (is_reserved_key k)) (not (is_long_key k)) h))

flat_long : (es : TableOf) → Flat es → any_long_key (entries es) ≡ false
flat_long [] h = refl
flat_long (e ∷ es) h = rw (short_key e.0 (key_head e es h), no_long e.1 (integer_head e es h)) (flat_long es (flat_tail e es h))

flat_reserved : (es : TableOf) → Flat es → any_reserved_key kind.Obj (entries es) ≡ false
flat_reserved [] h = refl
flat_reserved (e ∷ es) h = rw (free_key e.0 (key_head e es h), no_reserved e.1 (integer_head e es h)) (flat_reserved es (flat_tail e es h))

pub at_most : (a b : ℕ) → a ≤ b → nat_lt b a ≡ false
at_most a b h = grind (arith, h)

pub flat_accepted : (es : TableOf) → Flat es → weight (state_of es) ≤ 2 ^ 20 → state_limit (state_of es) ≡ None
flat_accepted es h w =
    let deep : nat_lt 32 (depth (state_of es)) ≡ false = at_most (depth (state_of es)) 32 (omega (arith, flat_deepest es h)) in
    let heavy : nat_lt (2 ^ 20) (weight (state_of es)) ≡ false = at_most (weight (state_of es)) (2 ^ 20) w in
    rw (deep, heavy, flat_long es h, flat_reserved es h) refl

-- ---- what it weighs by itself
leaf_weight : (next : ℕ) (v : Plain) → IsTrue (is_integer v) → child_weight (numbered next v) ≡ weight v
leaf_weight next (plain_value.prim k) h = refl
leaf_weight next (plain_value.node kind es) h = absurd (cc)

leaf_weights : (next : ℕ) (es : TableOf) → Flat es → child_weights kind.Obj (numbered_in next (entries es)) ≡ weights kind.Obj (entries es)
leaf_weights next [] h = refl
leaf_weights next (e ∷ es) h = omega (arith, leaf_weight next e.1 (integer_head e es h), leaf_weights (next + places e.1) es (flat_tail e es h))

pub frozen_weight : (ts : List Tree) (es : TableOf) → Flat es → own_weight (frozen ts es) ≡ weight (state_of es)
frozen_weight ts es h = ap (λ (n : ℕ). 1 + n) (leaf_weights (length ts + 1) es h)

-- ---- the store then
pub last_state : (ts : List Tree) (t : Tree) → tree_at (ts ++ t ∷ []) (length ts + 1) ≡ t
last_state ts t = let at : length ts + 1 - 1 ≡ length ts = omega arith in rw at (get_or-append_seam ts t [] (prim key.Null))
