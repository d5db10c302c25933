-- Worked rows. Scope 7 is begun at the state {"a":{"x":0},"h":[]}, whose container a is 1, h is 2, and the root 3; its drafts are
-- 0 (the root), 1 (a) and 2 (h).
use Rattle.std.proofs.Math.ListN.{replicate}
use Rattle.std.specs.Prelude.{◌≡◌, ℕ, pos, List, [], ◌∷◌, codes, refl, Option, Some, None, false, Result, Ok, Err, option_map}
use Rattle.value_model.specs.declared.key.Key.{Key}
use Rattle.value_model.specs.declared.key.Key.TheVariants.{Null, Int, Text}
use Rattle.value_model.specs.declared.kind.Kind.TheVariants as kind
use Rattle.numbered.specs.Tree.{Tree, prim, node, none, branch, plain}
use Rattle.run_heap.specs.declared.value.Rv.{Rv}
use Rattle.run_heap.specs.declared.value.Rv.TheVariants.{Undefined, Prim, Obj, Frozen}
use Rattle.run_heap.specs.declared.fault.DraftFault.{DraftFault}
use Rattle.run_heap.specs.declared.fault.DraftFault.TheVariants as fault
use Rattle.run_heap.specs.Heap.{Heap, opened}
use Rattle.run_heap.specs.Operations.{put_at, original}
use Rattle.result_trees.specs.Final.{Final, final}
use Rattle.new_numbers.specs.Numbering.{new_state, new_states}
use Rattle.current_copies.specs.Copies.{sources, with_copy, copy_root, charge}

abbrev a : Key
a = Text (codes "a")

abbrev h : Key
h = Text (codes "h")

abbrev x : Key
x = Text (codes "x")

abbrev int : ℕ → Key
int n = Int (pos n)

abbrev inner : ℕ → ℕ → Tree
inner id n = node id kind.Obj (branch x (prim (int n)) none)

abbrev list : ℕ → Tree → Tree
list id v = node id kind.List (branch Null v none)

abbrev pair : ℕ → Tree → Tree → Tree
pair id v w = node id kind.Obj (branch a v (branch h w none))

abbrev states : List Tree
states = inner 1 0 ∷ node 2 kind.List none ∷ pair 3 (inner 1 0) (node 2 kind.List none) ∷ []

abbrev start : Heap
start = opened 7 states 3

abbrev object : ℕ → Rv
object n = Obj (record { scope = 7; slot = n })

-- the heap that a call leaves
abbrev left : {X : Type 0} → Heap → Result (Heap × X) DraftFault → Heap
left g (Ok p) = p.0
left g (Err e) = g

abbrev put : Key → Rv → ℕ → Heap → Heap
put k v n g = left g (put_at k v g (object n))

-- a copy of an object pushed onto the list
abbrev push_copy : Heap → Option Final → Heap
push_copy g None = g
push_copy g (Some f) = put (int 0) (copy_root (sources g f) g) 2 (with_copy (sources g f) g)

abbrev end_of : Heap → Option (Tree × List Tree)
end_of g = option_map (λ f. (new_state states g f, new_states states g f)) (final g Undefined)

-- ---- `original(state.a)` is frozen, and only a draft has one
base : original start (object 1) ≡ Ok (Frozen 1)
base = refl

no_base : original start (Prim Null) ≡ Err fault.NotADraft
no_base = refl

-- ---- `state.h.push(current(state.a));`: the copy keeps the number of what it copies
abbrev pushed : Heap
pushed = push_copy start (final start (object 1))

copied : pushed.object 3 ≡ Some (record { kind = kind.Obj; table = (x, Prim (int 0)) ∷ []; source = Some 1; written = false })
copied = refl

pushed_end : end_of pushed ≡ Some (pair 5 (inner 1 0) (list 4 (inner 1 0)), list 4 (inner 1 0) ∷ pair 5 (inner 1 0) (list 4 (inner 1 0)) ∷ [])
pushed_end = refl

-- ---- the copy is written then: it has no number of the state's any more, and `a` keeps its own
abbrev edited : Heap
edited = put x (Prim (int 5)) 3 pushed

edited_end : end_of edited ≡ Some (pair 6 (inner 1 0) (list 5 (inner 4 5)), inner 4 5 ∷ list 5 (inner 4 5) ∷ pair 6 (inner 1 0) (list 5 (inner 4 5)) ∷ [])
edited_end = refl

-- ---- `state.a.x = 1; state.h.push(current(state.a));`: a written object's copy has no source
abbrev written : Heap
written = put x (Prim (int 1)) 1 start

abbrev pushed_written : Heap
pushed_written = push_copy written (final written (object 1))

copied_written : pushed_written.object 3 ≡ Some (record { kind = kind.Obj; table = (x, Prim (int 1)) ∷ []; source = None; written = false })
copied_written = refl

written_end : end_of pushed_written ≡ Some (pair 7 (inner 4 1) (list 6 (inner 5 1)), inner 4 1 ∷ inner 5 1 ∷ list 6 (inner 5 1) ∷ pair 7 (inner 4 1) (list 6 (inner 5 1)) ∷ [])
written_end = refl

-- ---- `current(state)` after `state.a.x = 1;`: the places of what wasn't written keep their sources, each with its own object
abbrev whole : Option Final → Heap
whole None = written
whole (Some f) = with_copy (sources written f) written

root_copy : (whole (final written (object 0))).object 3 ≡ Some (record { kind = kind.Obj; table = (a, object 4) ∷ (h, object 5) ∷ []; source = None; written = false })
root_copy = refl

list_copy : (whole (final written (object 0))).object 5 ≡ Some (record { kind = kind.List; table = []; source = Some 2; written = false })
list_copy = refl

-- ---- the charge: {"x":0} has two values and weighs 4; a list of a text of 200 bytes has two values and weighs 202
small_charge : charge (plain (inner 1 0)) ≡ 2
small_charge = refl

abbrev long : Key
long = Text (replicate 200 97)

long_charge : charge (plain (list 1 (prim long))) ≡ 5
long_charge = refl
