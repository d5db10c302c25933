-- Worked rows. Scope 7 is begun at the state {"a":{"x":0},"b":{"x":0}}, whose container a is 1, b is 2, and the root 3; its
-- drafts are 0 (the root), 1 (a) and 2 (b).
use Rattle.std.specs.Prelude.{◌≡◌, ℕ, zero, suc, ◌+◌, ◌*◌, ◌^◌, max, pos, [], ◌∷◌, codes, refl, Option, Some, None, true, false, Result, Ok, Err, option_map}
use Rattle.std.proofs.Common.{ap, ◌∙◌, arith}
use Rattle.value_model.specs.declared.key.Key.{Key}
use Rattle.value_model.specs.declared.key.Key.TheVariants.{Null, Int, Text}
use Rattle.value_model.specs.declared.kind.Kind.TheVariants as kind
use Rattle.value_model.specs.Plain.{weight, depth}
use Rattle.numbered.specs.Tree as tree
use Rattle.numbered.specs.Tree.{Tree}
use Rattle.run_heap.specs.declared.value.Rv.{Rv}
use Rattle.run_heap.specs.declared.value.Rv.TheVariants.{Undefined, Prim, Obj, Frozen}
use Rattle.run_heap.specs.declared.fault.DraftFault.{DraftFault}
use Rattle.run_heap.specs.declared.content.Content.{Content}
use Rattle.run_heap.specs.Heap.{Heap, opened, fresh}
use Rattle.run_heap.specs.Operations.{put_at}
use Rattle.result_trees.specs.Final.{Final, prim, frozen, object, none, entry, plain_of, with_entry, read_object, read_value, final}
use Rattle.result_trees.specs.Written.{is_written, kept, any_marked}

abbrev a : Key
a = Text (codes "a")

abbrev b : Key
b = Text (codes "b")

abbrev x : Key
x = Text (codes "x")

abbrev int : ℕ → Key
int n = Int (pos n)

abbrev inner : ℕ → ℕ → Tree
inner id n = tree.node id kind.Obj (tree.branch x (tree.prim (int n)) tree.none)

abbrev pair : ℕ → Tree → Tree → Tree
pair id v w = tree.node id kind.Obj (tree.branch a v (tree.branch b w tree.none))

abbrev start : Heap
start = opened 7 (inner 1 0 ∷ inner 2 0 ∷ pair 3 (inner 1 0) (inner 2 0) ∷ []) 3

abbrev named : ℕ → Rv
named n = Obj (record { scope = 7; slot = n })

-- the heap that a call leaves
abbrev left : {X : Type 0} → Heap → Result (Heap × X) DraftFault → Heap
left h (Ok p) = p.0
left h (Err e) = h

abbrev put : Key → Rv → ℕ → Heap → Heap
put k v n h = left h (put_at k v h (named n))

-- the object with a name that holds {"x":n}
abbrev holding : ℕ → ℕ → Final
holding name n = object name kind.Obj (entry x (prim (int n)) none)

-- ---- nothing written: each place has the object of its own
unwritten : final start Undefined ≡ Some (object 0 kind.Obj (entry a (holding 1 0) (entry b (holding 2 0) none)))
unwritten = refl

-- a frozen state is kept whole, a primitive is itself
frozen_result : final start (Frozen 1) ≡ Some (frozen (inner 1 0))
frozen_result = refl

primitive_result : final start (Prim (int 5)) ≡ Some (prim (int 5))
primitive_result = refl

-- ---- alias: `state.b = state.a; state.a.x = 1;` has one object at both places
abbrev alias : Heap
alias = put x (Prim (int 1)) 1 (put b (named 1) 0 start)

alias_result : final alias Undefined ≡ Some (object 0 kind.Obj (entry a (holding 1 1) (entry b (holding 1 1) none)))
alias_result = refl

-- the names below the root's are those of a and b; that of b alone is not written
root_written : any_marked alias 0 3 ≡ true
root_written = refl

b_unwritten : any_marked alias 2 1 ≡ false
b_unwritten = refl

-- a written object keeps no number, nor does one that leads to it
kept_b : kept alias 2 (is_written alias (holding 2 0)) ≡ Some 2
kept_b = refl

kept_a : kept alias 1 (is_written alias (holding 1 1)) ≡ None
kept_a = refl

kept_root : kept (put x (Prim (int 1)) 1 start) 0 (is_written (put x (Prim (int 1)) 1 start) (object 0 kind.Obj (entry a (holding 1 1) none))) ≡ None
kept_root = refl

-- ---- cycles: `state.a.p = state;`, and two lists that hold one another
no_tree : final (put x (named 0) 1 start) Undefined ≡ None
no_tree = refl

abbrev empty_list : ℕ → Tree
empty_list id = tree.node id kind.List tree.none

abbrev lists : Heap
lists = opened 7 (empty_list 1 ∷ empty_list 2 ∷ pair 3 (empty_list 1) (empty_list 2) ∷ []) 3

abbrev each_other : Heap
each_other = put (int 0) (named 1) 2 (put (int 0) (named 2) 1 lists)

no_list_tree : final each_other Undefined ≡ None
no_list_tree = refl

-- what the result does not reach may be in a cycle: `state.l.push(state.m); state.m.push(state.l); return original(state.l);`
unreached : final each_other (Frozen 1) ≡ Some (frozen (empty_list 1))
unreached = refl

-- ---- growth: `let t = []; for (const i of action) { t = [t, t]; } state.t = t;`, with an object for each turn
doubled : ℕ → Final
doubled zero = object 0 kind.List none
doubled (suc n) = object (suc n) kind.List (entry Null (doubled n) (entry Null (doubled n) none))

abbrev turn : ℕ → Option Content
turn zero = Some (fresh kind.List [])
turn (suc n) = Some (fresh kind.List ((Null, named n) ∷ (Null, named n) ∷ []))

read_doubled : (n : ℕ) (h : Heap) → ((m : ℕ) → h.object m ≡ turn m) → read_value (suc n) h (named n) ≡ Some (doubled n)
unfolding doubled
read_doubled zero h o = ap (read_object 0 (read_value 0 h)) (o 0)
read_doubled (suc n) h o =
    let below = read_doubled n h o in
    ap (read_object (suc n) (read_value (suc n) h)) (o (suc n))
    ∙ (λ i. option_map (object (suc n) kind.List) (with_entry Null (below i) (with_entry Null (below i) (Some none))))

-- each turn doubles the weight and adds a level: no tree is unfolded to tell
abbrev grown : ℕ → ℕ
grown zero = 1
grown (suc n) = 1 + 2 * grown n

doubled_weight : (n : ℕ) → weight (plain_of (doubled n)) ≡ grown n
unfolding doubled
doubled_weight zero = refl
doubled_weight (suc n) = omega (arith, doubled_weight n)

doubled_depth : (n : ℕ) → depth (plain_of (doubled n)) ≡ suc n
unfolding doubled
doubled_depth zero = refl
doubled_depth (suc n) = omega (arith, doubled_depth n)

-- {"t":..}
abbrev holder : Final → Final
holder f = object 0 kind.Obj (entry (Text (codes "t")) f none)

-- 31 turns are too deep
too_deep : depth (plain_of (holder (doubled 31))) ≡ 33
too_deep = ap (λ (d : ℕ). 1 + max d 0) (doubled_depth 31)

-- 30 are not, and are too big
not_too_deep : depth (plain_of (holder (doubled 30))) ≡ 32
not_too_deep = ap (λ (d : ℕ). 1 + max d 0) (doubled_depth 30)

too_big : weight (plain_of (holder (doubled 30))) ≡ 2 ^ 31 + 2
too_big = ap (λ (w : ℕ). 1 + (2 + w + 0)) (doubled_weight 30)
