-- Shapes of values, and the first place at which a value breaks one.
use Rattle.std.specs.Prelude.{ℕ, ◌+◌, ℤ, pos, List, [], ◌∷◌, ◌++◌, Bool, true, false, ◌&&◌, ◌||◌, IsTrue, Option, Some, None, is_some, is_none, int_le, if◌then◌else◌}
use Rattle.std.specs.Option.{option_map, option_or}
use Rattle.std.specs.Ordering.{is_lt}
use Rattle.std.specs.FinMap.Entries.{find, is_sorted}
use Rattle.value_model.specs.declared.key.Key.{Key}
use Rattle.value_model.specs.declared.key.Key.TheVariants as key
use Rattle.value_model.specs.declared.kind.Kind.{Kind}
use Rattle.value_model.specs.declared.kind.Kind.TheVariants as kind
use Rattle.value_model.specs.Order.{key_cmp}
use Rattle.value_model.specs.Plain.{Plain, Entries, prim, node, none, entry, list_of}
use Rattle.guards_views_spec.specs.declared.Simple.{Simple}
use Rattle.guards_views_spec.specs.declared.Simple.TheVariants as simple

-- A shape: one of the words, a range of integers, a container of a kind whose values meet a shape, a Set of primitives, an
-- object with required and allowed names, or several shapes of which one is enough.
mutual
  pub data Shape : Type 0 where
    one : Simple → Shape
    range : ℤ → ℤ → Shape
    every : Kind → Shape → Shape
    members : Simple → Shape
    object : Names → Names → Shape
    either : Choices → Shape

  pub data Names : Type 0 where
    no_name : Names
    named : List ℕ → Shape → Names → Names

  pub data Choices : Type 0 where
    no_choice : Choices
    choice : Shape → Choices → Choices

-- the path to the first place that breaks a shape, where one does
abbrev pub Broken : Type 0
Broken = Option (List Key)

-- a place is as it has to be, or it is the one that breaks
abbrev pub unless_here : Bool → Broken
unless_here true = None
unless_here false = Some []

-- the place is below this step
abbrev pub below : Key → Broken → Broken
below k o = option_map (λ p. k ∷ p) o

-- a primitive of a kind
abbrev pub is_simple : Simple → Key → Bool
is_simple simple.Any k = true
is_simple simple.Null key.Null = true
is_simple simple.Bool (key.Bool b) = true
is_simple simple.Int (key.Int n) = true
is_simple simple.Text (key.Text s) = true
is_simple _ _ = false

abbrev pub is_any : Simple → Bool
is_any simple.Any = true
is_any _ = false

-- containers are met by `any` alone
abbrev pub meets_one : Simple → Plain → Bool
meets_one s (prim k) = is_simple s k
meets_one s (node kind es) = is_any s

abbrev pub key_in_range : ℤ → ℤ → Key → Bool
key_in_range lo hi (key.Int n) = int_le lo n && int_le n hi
key_in_range lo hi _ = false

-- an integer, both ends included
abbrev pub in_range : ℤ → ℤ → Plain → Bool
in_range lo hi (prim k) = key_in_range lo hi k
in_range lo hi (node kind es) = false

abbrev pub all_simple : Simple → Entries → Bool
all_simple s none = true
all_simple s (entry k v es) = is_simple s k && all_simple s es

-- a Set whose members are all of a kind
abbrev pub is_set_of : Simple → Plain → Bool
is_set_of s (node kind.Set es) = all_simple s es
is_set_of s _ = false

abbrev pub same_kind : Kind → Kind → Bool
same_kind kind.Obj kind.Obj = true
same_kind kind.List kind.List = true
same_kind kind.Map kind.Map = true
same_kind kind.Set kind.Set = true
same_kind _ _ = false

-- the step to an entry: in a list its index, else its key
abbrev pub step_at : Kind → ℕ → Key → Key
step_at kind.List i k = key.Int (pos i)
step_at _ i k = k

-- the first entry, from the index on, whose value breaks
abbrev pub first_broken : (Plain → Broken) → Kind → ℕ → Entries → Broken
first_broken f kind i none = None
first_broken f kind i (entry k v es) = option_or (below (step_at kind i k) (f v)) (first_broken f kind (i + 1) es)

-- a container of the kind, whose values don't break
abbrev pub in_each : Kind → (Plain → Broken) → Plain → Broken
in_each kind f (node j es) = if same_kind kind j then first_broken f kind 0 es else Some []
in_each kind f (prim k) = Some []

-- what is asked of the value under a name
abbrev pub Checks : Type 0
Checks = List (Key × (Plain → Broken))

-- some entry has the key
abbrev pub has_key : Key → List (Key × Plain) → Bool
has_key k es = is_some (find key_cmp k es)

-- the first required name that isn't there
abbrev pub first_missing : Checks → List (Key × Plain) → Option Key
first_missing [] es = None
first_missing (m ∷ ms) es = if has_key m.0 es then first_missing ms es else Some m.0

-- what is asked under a name, which may not be there
abbrev pub asked : Checks → Checks → Key → Option (Plain → Broken)
asked must may k = option_or (find key_cmp k must) (find key_cmp k may)

-- an entry under a name that isn't allowed breaks at that name
abbrev pub judged : Key → Plain → Option (Plain → Broken) → Broken
judged k v None = Some (k ∷ [])
judged k v (Some f) = below k (f v)

-- the first entry that breaks
abbrev pub first_wrong : Checks → Checks → Entries → Broken
first_wrong must may none = None
first_wrong must may (entry k v es) = option_or (judged k v (asked must may k)) (first_wrong must may es)

-- a key comes before the first step of a path
abbrev pub is_before : Key → List Key → Bool
is_before k [] = false
is_before k (j ∷ p) = is_lt (key_cmp k j)

-- the first, in the order of keys, of a key that is missing and a place that breaks
abbrev pub earlier : Option Key → Broken → Broken
earlier None b = b
earlier (Some k) None = Some (k ∷ [])
earlier (Some k) (Some p) = if is_before k p then Some (k ∷ []) else Some p

-- an object with all required names, others only where they are allowed, and each value as it has to be
abbrev pub in_object : Checks → Checks → Plain → Broken
in_object must may (node kind.Obj es) = earlier (first_missing must (list_of es)) (first_wrong must may es)
in_object must may _ = Some []

abbrev mutual
  -- the path of the first place at which a value breaks a shape; the entries of a container are taken in the order of keys
  pub broken : Shape → Plain → Broken
  broken (one s) v = unless_here (meets_one s v)
  broken (range lo hi) v = unless_here (in_range lo hi v)
  broken (every kind s) v = in_each kind (broken s) v
  broken (members s) v = unless_here (is_set_of s v)
  broken (object must may) v = in_object (checks must) (checks may) v
  broken (either cs) v = unless_here (any_met cs v)

  -- what names ask
  pub checks : Names → Checks
  checks no_name = []
  checks (named n s ns) = (key.Text n, broken s) ∷ checks ns

  -- some choice is met
  pub any_met : Choices → Plain → Bool
  any_met no_choice v = false
  any_met (choice s cs) v = is_none (broken s v) || any_met cs v

-- a value meets a shape where no place breaks it
abbrev pub meets : Shape → Plain → Bool
meets s v = is_none (broken s v)

-- ---- names and choices as lists
abbrev pub names : List (List ℕ × Shape) → Names
names [] = no_name
names (n ∷ ns) = named n.0 n.1 (names ns)

abbrev pub choices : List Shape → Choices
choices [] = no_choice
choices (s ∷ ss) = choice s (choices ss)

-- ---- how many shapes there are, itself included
abbrev mutual
  pub shapes : Shape → ℕ
  shapes (every kind s) = 1 + shapes s
  shapes (object must may) = 1 + (shapes_named must + shapes_named may)
  shapes (either cs) = 1 + shapes_among cs
  shapes _ = 1

  pub shapes_named : Names → ℕ
  shapes_named no_name = 0
  shapes_named (named n s ns) = 1 + (shapes s + shapes_named ns)

  pub shapes_among : Choices → ℕ
  shapes_among no_choice = 0
  shapes_among (choice s cs) = 1 + (shapes s + shapes_among cs)
