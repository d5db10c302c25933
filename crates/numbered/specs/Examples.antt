-- Worked rows of loading: the state {"a":{"x":0},"b":{"x":0}}, whose container a is 1, b is 2, and the root 3.
use Rattle.std.specs.Prelude.{◌≡◌, ℕ, pos, [], ◌∷◌, codes, refl, false}
use Rattle.value_model.specs.declared.key.Key.{Key}
use Rattle.value_model.specs.declared.key.Key.TheVariants.{Int, Text}
use Rattle.value_model.specs.declared.kind.Kind.TheVariants as kind
use Rattle.value_model.specs.Plain as plain_value
use Rattle.value_model.specs.Plain.{Plain}
use Rattle.numbered.specs.Tree.{Tree, prim, node, none, branch, plain, containers}
use Rattle.numbered.specs.Store.{used}
use Rattle.numbered.specs.Loading.{numbered, loaded, load_full}

a : Key
a = Text (codes "a")

b : Key
b = Text (codes "b")

x : Key
x = Text (codes "x")

zero_key : Key
zero_key = Int (pos 0)

inner : Plain
inner = plain_value.node kind.Obj (plain_value.entry x (plain_value.prim zero_key) plain_value.none)

state : Plain
state = plain_value.node kind.Obj (plain_value.entry a inner (plain_value.entry b inner plain_value.none))

at_number : ℕ → Tree
at_number id = node id kind.Obj (branch x (prim zero_key) none)

root : Tree
root = node 3 kind.Obj (branch a (at_number 1) (branch b (at_number 2) none))

numbers : numbered 1 state ≡ root
unfolding a b x zero_key inner state at_number root
numbers = refl

stored : loaded [] state ≡ at_number 1 ∷ at_number 2 ∷ root ∷ []
unfolding a b x zero_key inner state at_number root
stored = refl

-- loaded again, the same value has numbers of its own
again : numbered 4 state ≡ node 6 kind.Obj (branch a (at_number 4) (branch b (at_number 5) none))
unfolding a b x zero_key inner state at_number
again = refl

room : load_full [] state ≡ false
unfolding a b x zero_key inner state
room = refl

-- the object in it weighs 4 by itself (1, its key 2, its value 1), the root 7 (1, and 3 for each entry)
weights : used (loaded [] state) ≡ 15
unfolding a b x zero_key inner state
weights = refl

same_value : plain root ≡ state
unfolding a b x zero_key inner state at_number root
same_value = refl

places : containers root ≡ 3
unfolding a b x zero_key at_number root
places = refl
