-- Worked rows. Scope 7 is begun at the state {"a":{"x":0},"b":{"x":0}}, whose container a is 1, b is 2, and the root 3; its
-- drafts are 0 (the root), 1 (a) and 2 (b).
use Rattle.std.specs.Prelude.{◌≡◌, ℕ, pos, List, [], ◌∷◌, codes, refl, Option, Some, None, Result, Ok, Err, option_map}
use Rattle.value_model.specs.declared.key.Key.{Key}
use Rattle.value_model.specs.declared.key.Key.TheVariants.{Null, Int, Text}
use Rattle.value_model.specs.declared.kind.Kind.TheVariants as kind
use Rattle.numbered.specs.Tree.{Tree, prim, node, none, branch}
use Rattle.run_heap.specs.declared.value.Rv.{Rv}
use Rattle.run_heap.specs.declared.value.Rv.TheVariants.{Undefined, Prim, Obj}
use Rattle.run_heap.specs.declared.fault.DraftFault.{DraftFault}
use Rattle.run_heap.specs.Heap.{Heap, opened, fresh, with_object}
use Rattle.run_heap.specs.Operations.{put_at, splice_at, set_key}
use Rattle.result_trees.specs.Final.{Final, final}
use Rattle.new_numbers.specs.Numbering.{new_state, new_states}
use Rattle.home_places.specs.Homes.{homes}

abbrev a : Key
a = Text (codes "a")

abbrev b : Key
b = Text (codes "b")

abbrev x : Key
x = Text (codes "x")

abbrev int : ℕ → Key
int n = Int (pos n)

abbrev inner : ℕ → ℕ → Tree
inner id n = node id kind.Obj (branch x (prim (int n)) none)

abbrev pair : ℕ → Tree → Tree → Tree
pair id v w = node id kind.Obj (branch a v (branch b w none))

abbrev states : List Tree
states = inner 1 0 ∷ inner 2 0 ∷ pair 3 (inner 1 0) (inner 2 0) ∷ []

abbrev old : Tree
old = pair 3 (inner 1 0) (inner 2 0)

abbrev start : Heap
start = opened 7 states 3

abbrev object : ℕ → Rv
object n = Obj (record { scope = 7; slot = n })

-- the heap that a call leaves
abbrev left : {X : Type 0} → Heap → Result (Heap × X) DraftFault → Heap
left h (Ok p) = p.0
left h (Err e) = h

abbrev put : Key → Rv → ℕ → Heap → Heap
put k v n h = left h (put_at k v h (object n))

-- a run's end: the new state, the states that it adds, and the home places with other numbers
pub record End : Type 0 where
  pub state : Tree
  pub added : List Tree
  pub homes : List (List Key)

abbrev ended : List Tree → Heap → Final → End
ended ts h f = let t = new_state ts h f in record { state = t; added = new_states ts h f; homes = homes h [] f t }

abbrev end_of : List Tree → Heap → Option End
end_of ts h = option_map (ended ts h) (final h Undefined)

-- ---- nothing written: the root keeps its number
unwritten : end_of states start ≡ Some (record { state = old; added = []; homes = [] })
unwritten = refl

-- ---- alias: `state.b = state.a; state.a.x = 1;`
abbrev alias : Heap
alias = put x (Prim (int 1)) 1 (put b (object 1) 0 start)

alias_end : end_of states alias ≡ Some (record {
  state = pair 5 (inner 4 1) (inner 4 1);
  added = inner 4 1 ∷ pair 5 (inner 4 1) (inner 4 1) ∷ [];
  homes = [] ∷ (a ∷ []) ∷ [];
})
alias_end = refl

-- ---- an alias met first at its new place: `state.a = state.b; state.b.x = 1;`
abbrev moved : Heap
moved = put x (Prim (int 1)) 2 (put a (object 2) 0 start)

moved_end : end_of states moved ≡ Some (record {
  state = pair 5 (inner 4 1) (inner 4 1);
  added = inner 4 1 ∷ pair 5 (inner 4 1) (inner 4 1) ∷ [];
  homes = [] ∷ (b ∷ []) ∷ [];
})
moved_end = refl

-- ---- a shared base: after the alias, `state.b.x = 2;`
abbrev shared : Tree
shared = pair 5 (inner 4 1) (inner 4 1)

abbrev later_states : List Tree
later_states = inner 1 0 ∷ inner 2 0 ∷ old ∷ inner 4 1 ∷ shared ∷ []

abbrev later : Heap
later = left (opened 8 later_states 5) (put_at x (Prim (int 2)) (opened 8 later_states 5) (Obj (record { scope = 8; slot = 2 })))

-- the object at `b` is written alone: `a` keeps the number that both had
later_end : end_of later_states later ≡ Some (record {
  state = pair 7 (inner 4 1) (inner 6 2);
  added = inner 6 2 ∷ pair 7 (inner 4 1) (inner 6 2) ∷ [];
  homes = [] ∷ (b ∷ []) ∷ [];
})
later_end = refl

-- ---- a list cut: `state.a.splice(1, 2)` on [1, 2, 3, 4]
abbrev four : Tree
four = node 1 kind.List (branch Null (prim (int 1)) (branch Null (prim (int 2)) (branch Null (prim (int 3)) (branch Null (prim (int 4)) none))))

abbrev two : Tree
two = node 3 kind.List (branch Null (prim (int 1)) (branch Null (prim (int 4)) none))

abbrev holder : ℕ → Tree → Tree
holder id v = node id kind.Obj (branch a v none)

abbrev cut : Heap
cut = splice_at 1 3 [] (opened 7 (four ∷ holder 2 four ∷ []) 2) (object 1)

cut_end : end_of (four ∷ holder 2 four ∷ []) cut ≡ Some (record {
  state = holder 4 two;
  added = two ∷ holder 4 two ∷ [];
  homes = [] ∷ (a ∷ []) ∷ [];
})
cut_end = refl

-- ---- a Map and a Set: `state.a.set(1, "one"); state.b.add("x"); state.b.delete(null);`
abbrev text : Key
text = Text (codes "one")

abbrev map_of : ℕ → Key → Tree
map_of id k = node id kind.Map (branch (int 1) (prim k) none)

abbrev set_of : ℕ → Key → Tree
set_of id k = node id kind.Set (branch k (prim k) none)

abbrev kinds : List Tree
kinds = map_of 1 x ∷ set_of 2 Null ∷ pair 3 (map_of 1 x) (set_of 2 Null) ∷ []

abbrev edited : Heap
edited = set_key Null None (set_key x (Some (Prim x)) (set_key (int 1) (Some (Prim text)) (opened 7 kinds 3) (object 1)) (object 2)) (object 2)

kinds_end : end_of kinds edited ≡ Some (record {
  state = pair 6 (map_of 4 text) (set_of 5 x);
  added = map_of 4 text ∷ set_of 5 x ∷ pair 6 (map_of 4 text) (set_of 5 x) ∷ [];
  homes = [] ∷ (a ∷ []) ∷ (b ∷ []) ∷ [];
})
kinds_end = refl

-- ---- a place may be home below one that is not: `state.a = {x: state.a.x}; state.a.x.b = 1;` on {"a":{"x":{"b":0}}}
abbrev leaf : ℕ → ℕ → Tree
leaf id n = node id kind.Obj (branch b (prim (int n)) none)

abbrev around : ℕ → Tree → Tree
around id v = node id kind.Obj (branch x v none)

abbrev deep : List Tree
deep = leaf 1 0 ∷ around 2 (leaf 1 0) ∷ holder 3 (around 2 (leaf 1 0)) ∷ []

abbrev wrapped : Heap
wrapped = put b (Prim (int 1)) 2 (put a (object 3) 0 (with_object (fresh kind.Obj ((x, object 2) ∷ [])) (opened 7 deep 3)))

wrapped_end : end_of deep wrapped ≡ Some (record {
  state = holder 6 (around 5 (leaf 4 1));
  added = leaf 4 1 ∷ around 5 (leaf 4 1) ∷ holder 6 (around 5 (leaf 4 1)) ∷ [];
  homes = [] ∷ (a ∷ x ∷ []) ∷ [];
})
wrapped_end = refl
