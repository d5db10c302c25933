-- Worked examples.
use Rattle.std.specs.Prelude.{◌≡◌, ℕ, pos, List, [], ◌∷◌, true, false, Option, Some, None, Ok, codes, refl}
use Rattle.value_model.specs.declared.key.Key.{Key}
use Rattle.value_model.specs.declared.key.Key.TheVariants as key
use Rattle.value_model.specs.declared.kind.Kind.TheVariants as kind
use Rattle.value_model.specs.declared.op.Op.{Op}
use Rattle.value_model.specs.declared.op.Op.TheVariants.{Add, Replace, Remove}
use Rattle.value_model.specs.Places.{at}
use Rattle.value_model.specs.Plain.{Plain, Entries, prim, node, none, entry}
use Rattle.values.specs.declared.patch.Patch.{Patch}
use Rattle.patch_meaning.specs.Applying.{applied}
use Rattle.guards_views_spec.specs.declared.Weigh.TheVariants as weigh
use Rattle.guards_views_spec.specs.Views.{touched, updated, weights_of}
use Rattle.view_laws.specs.InPlace.{are_in_place}
use Rattle.view_laws.specs.Standing.{standing}

abbrev number : ℕ → Plain
number n = prim (key.Int (pos n))

abbrev numbers : List ℕ → Entries
numbers [] = none
numbers (n ∷ ns) = entry key.Null (number n) (numbers ns)

-- {"l":[..]}
abbrev with_list : List ℕ → Plain
with_list ns = node kind.Obj (entry (key.Text (codes "l")) (node kind.List (numbers ns)) none)

abbrev here : List Key
here = key.Text (codes "l") ∷ []

abbrev at_index : Op → ℕ → Option Plain → Patch
at_index op i v = record { op = op; path = key.Text (codes "l") ∷ key.Int (pos i) ∷ []; value = v }

-- from [7,8,9] to [7,5]: the second is set, and the third removed
abbrev shorter : List Patch
shorter = at_index Replace 1 (Some (number 5)) ∷ at_index Remove 2 None ∷ []

shorter_made : applied shorter (with_list (7 ∷ 8 ∷ 9 ∷ [])) ≡ Ok (with_list (7 ∷ 5 ∷ []))
shorter_made = refl

shorter_in_place : are_in_place shorter (with_list (7 ∷ 8 ∷ 9 ∷ [])) ≡ true
shorter_in_place = refl

shorter_touches : touched here shorter ≡ Some (key.Int (pos 1) ∷ key.Int (pos 2) ∷ [])
shorter_touches = refl

shorter_view : updated weigh.Count (standing here (with_list (7 ∷ 5 ∷ [])) (key.Int (pos 1) ∷ key.Int (pos 2) ∷ [])) (weights_of weigh.Count (at here (with_list (7 ∷ 8 ∷ 9 ∷ [])))) ≡ weights_of weigh.Count (at here (with_list (7 ∷ 5 ∷ [])))
shorter_view = refl

-- an element that is inserted in front moves every other, and so isn't in place
in_front : are_in_place (at_index Add 0 (Some (number 5)) ∷ []) (with_list (7 ∷ [])) ≡ false
in_front = refl
