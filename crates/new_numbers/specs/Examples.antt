-- Worked rows. Scope 7 is begun at the state {"a":{"x":0},"b":{"x":0}}, whose container a is 1, b is 2, and the root 3; its
-- drafts are 0 (the root), 1 (a) and 2 (b). Each row gives the new state with its numbers, and the states that are added.
use Rattle.std.specs.Prelude.{◌≡◌, ℕ, pos, List, [], ◌∷◌, codes, refl, Option, Some, Result, Ok, Err, option_map}
use Rattle.value_model.specs.declared.key.Key.{Key}
use Rattle.value_model.specs.declared.key.Key.TheVariants.{Int, Text}
use Rattle.value_model.specs.declared.kind.Kind.TheVariants as kind
use Rattle.numbered.specs.Tree.{Tree, prim, node, none, branch}
use Rattle.run_heap.specs.declared.value.Rv.{Rv}
use Rattle.run_heap.specs.declared.value.Rv.TheVariants.{Undefined, Prim, Obj, Frozen}
use Rattle.run_heap.specs.declared.fault.DraftFault.{DraftFault}
use Rattle.run_heap.specs.Heap.{Heap, opened}
use Rattle.run_heap.specs.Operations.{put_at, new_of}
use Rattle.result_trees.specs.Final.{final}
use Rattle.new_numbers.specs.Numbering.{new_state, new_states}

abbrev a : Key
a = Text (codes "a")

abbrev b : Key
b = Text (codes "b")

abbrev x : Key
x = Text (codes "x")

abbrev int : ℕ → Key
int n = Int (pos n)

abbrev inner : ℕ → ℕ → Tree
inner id n = node id kind.Obj (branch x (prim (int n)) none)

abbrev pair : ℕ → Tree → Tree → Tree
pair id v w = node id kind.Obj (branch a v (branch b w none))

abbrev states : List Tree
states = inner 1 0 ∷ inner 2 0 ∷ pair 3 (inner 1 0) (inner 2 0) ∷ []

abbrev start : Heap
start = opened 7 states 3

abbrev object : ℕ → Rv
object n = Obj (record { scope = 7; slot = n })

-- the heap that a call leaves
abbrev left : {X : Type 0} → Heap → Result (Heap × X) DraftFault → Heap
left h (Ok p) = p.0
left h (Err e) = h

abbrev put : Key → Rv → ℕ → Heap → Heap
put k v n h = left h (put_at k v h (object n))

abbrev end_of : Heap → Rv → Option (Tree × List Tree)
end_of h v = option_map (λ f. (new_state states h f, new_states states h f)) (final h v)

-- ---- nothing written: the root keeps its number
unwritten : end_of start Undefined ≡ Some (pair 3 (inner 1 0) (inner 2 0), [])
unwritten = refl

-- ---- `state.a.x = 1;`: what stands beside the written path keeps its number
one_leaf : end_of (put x (Prim (int 1)) 1 start) Undefined ≡ Some (pair 5 (inner 4 1) (inner 2 0), inner 4 1 ∷ pair 5 (inner 4 1) (inner 2 0) ∷ [])
one_leaf = refl

-- ---- `state.a.x = 1; state.a.x = 0;`: what was written is numbered anew
written_back : end_of (put x (Prim (int 0)) 1 (put x (Prim (int 1)) 1 start)) Undefined ≡ Some (pair 5 (inner 4 0) (inner 2 0), inner 4 0 ∷ pair 5 (inner 4 0) (inner 2 0) ∷ [])
written_back = refl

-- ---- `state.b = state.a; state.a.x = 1;`: one object has one number at both places
alias : end_of (put x (Prim (int 1)) 1 (put b (object 1) 0 start)) Undefined ≡ Some (pair 5 (inner 4 1) (inner 4 1), inner 4 1 ∷ pair 5 (inner 4 1) (inner 4 1) ∷ [])
alias = refl

-- ---- two literals have two numbers, one literal at two places has one
abbrev empty : ℕ → Tree
empty id = node id kind.Obj none

two_literals : end_of (put b (object 4) 0 (put a (object 3) 0 (new_of kind.Obj (new_of kind.Obj start)))) Undefined ≡ Some (pair 6 (empty 4) (empty 5), empty 4 ∷ empty 5 ∷ pair 6 (empty 4) (empty 5) ∷ [])
two_literals = refl

one_literal : end_of (put b (object 3) 0 (put a (object 3) 0 (new_of kind.Obj start))) Undefined ≡ Some (pair 5 (empty 4) (empty 4), empty 4 ∷ pair 5 (empty 4) (empty 4) ∷ [])
one_literal = refl

-- ---- `state.a = original(state.b);`: a frozen container keeps its number
frozen : end_of (put a (Frozen 2) 0 start) Undefined ≡ Some (pair 4 (inner 2 0) (inner 2 0), pair 4 (inner 2 0) (inner 2 0) ∷ [])
frozen = refl

-- ---- `return state.b;` without a write
returned : end_of start (object 2) ≡ Some (inner 2 0, [])
returned = refl
