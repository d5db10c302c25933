-- Worked examples.
use Rattle.std.specs.Prelude.{◌≡◌, ℕ, ℤ, pos, List, [], ◌∷◌, Bool, true, false, Option, Some, None, codes, refl}
use Rattle.value_model.specs.declared.key.Key.{Key}
use Rattle.value_model.specs.declared.key.Key.TheVariants as key
use Rattle.value_model.specs.declared.kind.Kind.TheVariants as kind
use Rattle.value_model.specs.Plain.{Plain, Entries, prim, node, none, entry}
use Rattle.guards_views_spec.specs.declared.Simple.TheVariants as simple
use Rattle.guards_views_spec.specs.declared.Weigh.TheVariants as weigh
use Rattle.guards_views_spec.specs.declared.GrantRule.{GrantRule}
use Rattle.guards_views_spec.specs.Shapes.{Shape, Names, one, range, every, object, either, no_name, named, choice, no_choice, broken}
use Rattle.guards_views_spec.specs.Reading.{shape_of}
use Rattle.guards_views_spec.specs.Views.{scratch, touched}
use Rattle.guards_views_spec.specs.Grants.{verdict}

abbrev text : List ℕ → Plain
text s = prim (key.Text s)

abbrev name : List ℕ → Key
name s = key.Text s

abbrev number : ℕ → Plain
number n = prim (key.Int (pos n))

-- {"n":NUMBER} with a required integer from 0 to 9
abbrev counter : Shape
counter = object (named (codes "n") (range (pos 0) (pos 9)) no_name) no_name

-- {"n":9} meets it
meets_counter : broken counter (node kind.Obj (entry (name (codes "n")) (number 9) none)) ≡ None
meets_counter = refl

-- {"n":10} breaks it at ["n"], {} too, and 1 breaks it at the root
past_counter : broken counter (node kind.Obj (entry (name (codes "n")) (number 10) none)) ≡ Some (name (codes "n") ∷ [])
past_counter = refl

missing_counter : broken counter (node kind.Obj none) ≡ Some (name (codes "n") ∷ [])
missing_counter = refl

no_object : broken counter (number 1) ≡ Some []
no_object = refl

-- {"n":1,"m":1} breaks it at ["m"], which is not allowed
not_allowed : broken counter (node kind.Obj (entry (name (codes "m")) (number 1) (entry (name (codes "n")) (number 1) none))) ≡ Some (name (codes "m") ∷ [])
not_allowed = refl

-- ["a",1] breaks a list of texts at [1]
second_element : broken (every kind.List (one simple.Text)) (node kind.List (entry key.Null (text (codes "a")) (entry key.Null (number 1) none))) ≡ Some (key.Int (pos 1) ∷ [])
second_element = refl

-- null is one of null and an integer
nothing_or_number : broken (either (choice (one simple.Null) (choice (one simple.Int) no_choice))) (prim key.Null) ≡ None
nothing_or_number = refl

-- {"list":"int"} is a shape, and {"or":[]} is none
list_of_numbers : shape_of (node kind.Obj (entry (name (codes "list")) (text (codes "int")) none)) ≡ Some (every kind.List (one simple.Int))
list_of_numbers = refl

no_choices : shape_of (node kind.Obj (entry (name (codes "or")) (node kind.List none) none)) ≡ None
no_choices = refl

-- two entries, of which one is done
abbrev todos : Plain
todos = node kind.List (entry key.Null (node kind.Obj (entry (name (codes "done")) (prim (key.Bool true)) none)) (entry key.Null (node kind.Obj (entry (name (codes "done")) (prim (key.Bool false)) none)) none))

one_done : scratch [] (weigh.True (codes "done")) todos ≡ 1
one_done = refl

two_of_them : scratch [] weigh.Count todos ≡ 2
two_of_them = refl

-- the first rule whose place holds the written one decides, and none denies
abbrev own : List GrantRule
own = (record { rule = codes "shut"; allow = false; path = name (codes "a") ∷ name (codes "x") ∷ [] }) ∷ (record { rule = codes "own"; allow = true; path = name (codes "a") ∷ [] }) ∷ []

allowed : verdict own (name (codes "a") ∷ name (codes "y") ∷ []) ≡ (true, codes "own")
allowed = refl

shut : verdict own (name (codes "a") ∷ name (codes "x") ∷ []) ≡ (false, codes "shut")
shut = refl

elsewhere : verdict own (name (codes "b") ∷ []) ≡ (false, codes "default")
elsewhere = refl
