-- Rules as a value: a shape for the states, views and grants. A value of another form is none.
use Rattle.std.specs.Prelude.{ℕ, ℤ, List, [], ◌∷◌, ◌++◌, Bool, true, false, ◌&&◌, is_some, Option, Some, None, codes, if◌then◌else◌}
use Rattle.std.specs.Option.{option_map, option_or}
use Rattle.std.specs.Str.{bytes_eq}
use Rattle.std.specs.FinMap.Entries.{find}
use Rattle.value_model.specs.declared.key.Key.{Key}
use Rattle.value_model.specs.declared.key.Key.TheVariants as key
use Rattle.value_model.specs.declared.kind.Kind.{Kind}
use Rattle.value_model.specs.declared.kind.Kind.TheVariants as kind
use Rattle.value_model.specs.Order.{key_cmp}
use Rattle.value_model.specs.Plain.{Plain, Entries, prim, node, none, entry, list_of}
use Rattle.guards_views_spec.specs.declared.Simple.{Simple}
use Rattle.guards_views_spec.specs.declared.Simple.TheVariants as simple
use Rattle.guards_views_spec.specs.declared.Weigh.{Weigh}
use Rattle.guards_views_spec.specs.declared.Weigh.TheVariants as weigh
use Rattle.guards_views_spec.specs.declared.ViewRule.{ViewRule}
use Rattle.guards_views_spec.specs.declared.GrantRule.{GrantRule}
use Rattle.guards_views_spec.specs.Shapes.{Shape, Names, Choices, Checks, checks, one, range, every, members, object, either, no_name, named, no_choice, choice}

-- both answers together, where both are there
abbrev pub both_of : {X Y Z : Type 0} → (X → Y → Z) → Option X → Option Y → Option Z
both_of f None y = None
both_of f (Some x) None = None
both_of f (Some x) (Some y) = Some (f x y)

-- what the second makes of the first's answer, where there is one
abbrev pub and_then : {X Y : Type 0} → Option X → (X → Option Y) → Option Y
and_then None f = None
and_then (Some x) f = f x

-- what each element is read as, where each is of the form
abbrev pub all_read : {X Y : Type 0} → (X → Option Y) → List X → Option (List Y)
all_read f [] = Some []
all_read f (x ∷ xs) = both_of (λ y ys. y ∷ ys) (f x) (all_read f xs)

-- the elements of a list of one, two or three
abbrev pub single : {X : Type 0} → List X → Option X
single (x ∷ []) = Some x
single _ = None

abbrev pub pair : {X : Type 0} → List X → Option (X × X)
pair (x ∷ y ∷ []) = Some (x, y)
pair _ = None

abbrev pub triple : {X : Type 0} → List X → Option (X × X × X)
triple (x ∷ y ∷ z ∷ []) = Some (x, y, z)
triple _ = None

-- the elements of a list
abbrev pub elements : Plain → Option (List (Key × Plain))
elements (node kind.List es) = Some (list_of es)
elements _ = None

-- the members of an object, by their names
abbrev pub fields : Plain → Option (List (Key × Plain))
fields (node kind.Obj es) = Some (list_of es)
fields _ = None

abbrev pub key_text : Key → Option (List ℕ)
key_text (key.Text s) = Some s
key_text _ = None

abbrev pub key_integer : Key → Option ℤ
key_integer (key.Int n) = Some n
key_integer _ = None

abbrev pub key_truth : Key → Option Bool
key_truth (key.Bool b) = Some b
key_truth _ = None

-- a primitive
abbrev pub primitive : Plain → Option Key
primitive (prim k) = Some k
primitive (node kind es) = None

-- a text
abbrev pub text_of : Plain → Option (List ℕ)
text_of (prim k) = key_text k
text_of (node kind es) = None

-- an integer
abbrev pub integer_of : Plain → Option ℤ
integer_of (prim k) = key_integer k
integer_of (node kind es) = None

-- true or false
abbrev pub truth_of : Plain → Option Bool
truth_of (prim k) = key_truth k
truth_of (node kind es) = None

-- a key is this name
abbrev pub is_name : Key → List ℕ → Bool
is_name (key.Text s) name = bytes_eq s name
is_name _ name = false

-- ---- shapes
-- one of the five words
abbrev pub simple_word : List ℕ → Option Simple
simple_word s =
    if bytes_eq s (codes "any") then Some simple.Any else (
    if bytes_eq s (codes "null") then Some simple.Null else (
    if bytes_eq s (codes "bool") then Some simple.Bool else (
    if bytes_eq s (codes "int") then Some simple.Int else (
    if bytes_eq s (codes "text") then Some simple.Text else None))))

abbrev pub simple_of : Plain → Option Simple
simple_of v = and_then (text_of v) simple_word

-- a list of two integers
abbrev pub between : (Key × Plain) × (Key × Plain) → Option Shape
between p = both_of range (integer_of p.0.1) (integer_of p.1.1)

abbrev pub range_in : List (Key × Plain) → Option Shape
range_in es = and_then (pair es) between

abbrev pub range_of : Plain → Option Shape
range_of v = and_then (elements v) range_in

-- an object with the one member `int`, `list`, `table`, `map`, `set`, `obj` or `or`; behind its value stand the shape, the
-- named shapes and the choices that the value is read as
abbrev pub alone : Key → Plain → Option Shape → Option Names → Option Choices → Option Shape
alone k v s ns cs =
    if is_name k (codes "int") then range_of v else (
    if is_name k (codes "list") then option_map (every kind.List) s else (
    if is_name k (codes "table") then option_map (every kind.Obj) s else (
    if is_name k (codes "map") then option_map (every kind.Map) s else (
    if is_name k (codes "set") then option_map members (simple_of v) else (
    if is_name k (codes "obj") then option_map (λ must. object must no_name) ns else (
    if is_name k (codes "or") then option_map either cs else None))))))

-- some name stands in both
abbrev pub share_name : Names → Checks → Bool
share_name no_name ns = false
share_name (named m s ms) ns = if is_some (find key_cmp (key.Text m) ns) then true else share_name ms ns

-- required and allowed names; none stands in both
abbrev pub with_allowed : Option Names → Option Names → Option Shape
with_allowed (Some must) (Some may) = if share_name must (checks may) then None else Some (object must may)
with_allowed _ _ = None

-- an object with the two members `obj` and `opt`
abbrev pub together : Key → Option Names → Key → Option Names → Option Shape
together j must k may = if is_name j (codes "obj") && is_name k (codes "opt") then with_allowed must may else None

-- a member of an object of shapes
abbrev pub named_of : Key → Option Shape → Option Names → Option Names
named_of (key.Text n) s ns = both_of (named n) s ns
named_of _ s ns = None

-- at least one
abbrev pub not_empty : Choices → Option Choices
not_empty no_choice = None
not_empty (choice s cs) = Some (choice s cs)

abbrev mutual
  -- the shape that a value is read as
  pub shape_of : Plain → Option Shape
  shape_of (prim k) = option_map one (simple_of (prim k))
  shape_of (node kind es) = shape_in kind es

  pub shape_in : Kind → Entries → Option Shape
  shape_in kind.Obj (entry k v none) = alone k v (shape_of v) (names_of v) (choices_of v)
  shape_in kind.Obj (entry j u (entry k v none)) = together j (names_of u) k (names_of v)
  shape_in _ _ = None

  -- an object of shapes
  pub names_of : Plain → Option Names
  names_of (prim k) = None
  names_of (node kind.Obj es) = names_in es
  names_of (node _ es) = None

  pub names_in : Entries → Option Names
  names_in none = Some no_name
  names_in (entry k v es) = named_of k (shape_of v) (names_in es)

  -- a list of shapes
  pub choices_of : Plain → Option Choices
  choices_of (prim k) = None
  choices_of (node kind.List es) = and_then (choices_in es) not_empty
  choices_of (node _ es) = None

  pub choices_in : Entries → Option Choices
  choices_in none = Some no_choice
  choices_in (entry k v es) = both_of choice (shape_of v) (choices_in es)

-- ---- paths, views and grants
-- a step is a primitive
abbrev pub step_of : Key × Plain → Option Key
step_of e = primitive e.1

abbrev pub path_of : Plain → Option (List Key)
path_of v = and_then (elements v) (all_read step_of)

-- a list of a text and two integers
abbrev pub counted : (Key × Plain) × (Key × Plain) × (Key × Plain) → Option Weigh
counted t = and_then (text_of t.0.1) (λ n. both_of (weigh.Int n) (integer_of t.1.1) (integer_of t.2.1))

abbrev pub counted_in : List (Key × Plain) → Option Weigh
counted_in es = and_then (triple es) counted

-- the member `true` or `int`
abbrev pub weigh_member : Key × Plain → Option Weigh
weigh_member e =
    if is_name e.0 (codes "true") then option_map weigh.True (text_of e.1) else (
    if is_name e.0 (codes "int") then and_then (elements e.1) counted_in else None)

-- an object with one of them alone
abbrev pub weigh_in : List (Key × Plain) → Option Weigh
weigh_in es = and_then (single es) weigh_member

abbrev pub weigh_word : List ℕ → Option Weigh
weigh_word s = if bytes_eq s (codes "count") then Some weigh.Count else (if bytes_eq s (codes "weight") then Some weigh.Weight else None)

-- a word, or an object
abbrev pub word_or_object : Option (List ℕ) → Plain → Option Weigh
word_or_object (Some s) v = weigh_word s
word_or_object None v = and_then (fields v) weigh_in

abbrev pub weigh_of : Plain → Option Weigh
weigh_of v = word_or_object (text_of v) v

abbrev pub view_made : List ℕ → List Key → Weigh → ViewRule
view_made n path w = record { name = n; path = path; weigh = w }

abbrev pub view_parts : List ℕ → (Key × Plain) × (Key × Plain) → Option ViewRule
view_parts n p = if is_name p.0.0 (codes "path") && is_name p.1.0 (codes "weigh") then both_of (view_made n) (path_of p.0.1) (weigh_of p.1.1) else None

-- a name with the two members `path` and `weigh`
abbrev pub view_rule : Key × Plain → Option ViewRule
view_rule e = and_then (key_text e.0) (λ n. and_then (and_then (fields e.1) pair) (view_parts n))

abbrev pub views_of : Plain → Option (List ViewRule)
views_of v = and_then (fields v) (all_read view_rule)

-- every name but `default`, which stands for no rule
abbrev pub rule_name : Plain → Option (List ℕ)
rule_name v = and_then (text_of v) (λ n. if bytes_eq n (codes "default") then None else Some n)

abbrev pub grant_made : Bool → List Key → List ℕ → GrantRule
grant_made allow path rule = record { rule = rule; allow = allow; path = path }

abbrev pub grant_parts : (Key × Plain) × (Key × Plain) × (Key × Plain) → Option GrantRule
grant_parts t =
    if is_name t.0.0 (codes "allow") && is_name t.1.0 (codes "path") && is_name t.2.0 (codes "rule") then
    and_then (truth_of t.0.1) (λ allow. both_of (grant_made allow) (path_of t.1.1) (rule_name t.2.1))
    else None

-- an object with the three members `allow`, `path` and `rule`
abbrev pub grant_rule : Key × Plain → Option GrantRule
grant_rule e = and_then (and_then (fields e.1) triple) grant_parts

-- a list of rules
abbrev pub grant_of : Plain → Option (List GrantRule)
grant_of v = and_then (elements v) (all_read grant_rule)

-- a grant has a name and a list of rules
abbrev pub Named : Type 0
Named = List ℕ × List GrantRule

abbrev pub grant_under : List ℕ → List GrantRule → Named
grant_under n rules = (n, rules)

abbrev pub named_grant : Key × Plain → Option Named
named_grant e = and_then (key_text e.0) (λ n. option_map (grant_under n) (grant_of e.1))

abbrev pub grants_of : Plain → Option (List Named)
grants_of v = and_then (fields v) (all_read named_grant)

-- ---- rules
pub record Ruled : Type 0 where
  pub guard : Shape
  pub views : List ViewRule
  pub grants : List Named

-- every value meets the guard, and there are no views and no grants
abbrev pub no_rules : Ruled
no_rules = record { guard = one simple.Any; views = []; grants = [] }

abbrev pub with_guard : Ruled → Option Shape → Option Ruled
with_guard r o = option_map (λ s. record { guard = s; views = r.views; grants = r.grants }) o

abbrev pub with_views : Ruled → Option (List ViewRule) → Option Ruled
with_views r o = option_map (λ vs. record { guard = r.guard; views = vs; grants = r.grants }) o

abbrev pub with_grants : Ruled → Option (List Named) → Option Ruled
with_grants r o = option_map (λ gs. record { guard = r.guard; views = r.views; grants = gs }) o

-- the rules with one member more: `guard`, `views` or `grants`
abbrev pub with_member : Ruled → Key × Plain → Option Ruled
with_member r e =
    if is_name e.0 (codes "guard") then with_guard r (shape_of e.1) else (
    if is_name e.0 (codes "views") then with_views r (views_of e.1) else (
    if is_name e.0 (codes "grants") then with_grants r (grants_of e.1) else None))

abbrev pub with_members : Ruled → List (Key × Plain) → Option Ruled
with_members r [] = Some r
with_members r (e ∷ es) = and_then (with_member r e) (λ q. with_members q es)

-- the rules that a value is read as: an object whose members are all optional
abbrev pub rules_of : Plain → Option Ruled
rules_of v = and_then (fields v) (with_members no_rules)
