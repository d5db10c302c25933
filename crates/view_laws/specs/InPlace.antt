-- Patches that change the entry at their last step and no other: the form in which a host makes them. A list's elements keep their
-- indexes, so what is added comes behind the last one and what is removed is the last one; a Set's last step is the member.
use Rattle.std.specs.Prelude.{ℕ, suc, ◌==◌, pos, Bool, true, false, ◌&&◌, List, [], ◌∷◌, length, Option, Some, None, Result, Ok, Err}
use Rattle.std.specs.Ordering.{eq_by_cmp}
use Rattle.value_model.specs.declared.key.Key.{Key}
use Rattle.value_model.specs.declared.key.Key.TheVariants.{Int}
use Rattle.value_model.specs.declared.kind.Kind.{Kind}
use Rattle.value_model.specs.declared.kind.Kind.TheVariants as kind
use Rattle.value_model.specs.declared.op.Op.{Op}
use Rattle.value_model.specs.declared.op.Op.TheVariants.{Add, Replace, Remove}
use Rattle.value_model.specs.declared.patch_why.PatchWhy.{PatchWhy}
use Rattle.value_model.specs.Order.{key_cmp}
use Rattle.value_model.specs.Places.{child}
use Rattle.value_model.specs.Plain.{Plain, prim, node, list_of}
use Rattle.values.specs.declared.patch.Patch.{Patch}
use Rattle.patch_meaning.specs.Applying.{patched}

-- an element that is set, one that is added behind the last, or the last one removed, in a list of this length
abbrev pub is_element : Op → Key → ℕ → Bool
is_element Add (Int (pos i)) n = i == n
is_element Replace (Int i) n = true
is_element Remove (Int (pos i)) n = suc i == n
is_element _ _ n = false

-- a value that is this key
abbrev pub is_member : Key → Option Plain → Bool
is_member k (Some (prim j)) = eq_by_cmp key_cmp j k
is_member k _ = false

-- an operation at a step of a container that changes the entry at the step and no other; in an object and a Map each is such a one
abbrev pub changes_entry : Op → Key → Option Plain → Plain → Bool
changes_entry op k v (node kind.List es) = is_element op k (length (list_of es))
changes_entry op k v (node kind.Set es) = is_member k v
changes_entry op k v _ = true

-- where something stands, the test holds
abbrev pub if_some : (Plain → Bool) → Option Plain → Bool
if_some f None = true
if_some f (Some v) = f v

-- the same of a patch, at the container that its path leads to; one of the whole changes it as a whole
abbrev pub in_place : Op → Option Plain → List Key → Plain → Bool
in_place op v [] x = true
in_place op v (k ∷ []) x = changes_entry op k v x
in_place op v (k ∷ l ∷ path) x = if_some (in_place op v (l ∷ path)) (child k x)

-- where it can be applied, the test holds of what it makes
abbrev pub if_ok : (Plain → Bool) → Result Plain PatchWhy → Bool
if_ok f (Ok x) = f x
if_ok f (Err w) = true

-- the same of patches that are applied one after another
abbrev pub are_in_place : List Patch → Plain → Bool
are_in_place [] x = true
are_in_place (p ∷ ps) x = in_place p.op p.value p.path x && if_ok (are_in_place ps) (patched p.op p.value p.path x)
