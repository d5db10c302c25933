-- The definitions at a list of entries: what one more entry adds, and that no child is larger: laws.
use Rattle.std.specs.Prelude.{◌≡◌, ℕ, ◌+◌, ◌<◌, ◌≤◌, max, List, [], ◌∷◌, ◌++◌, map, length, refl}
use Rattle.std.proofs.Common.{zero, suc, ap, arith, take, get_or}
use Rattle.std.proofs.lemmas.List.{map_more}
use Rattle.value_model.specs.declared.key.Key.{Key}
use Rattle.value_model.specs.declared.kind.Kind.{Kind}
use Rattle.value_model.specs.Plain.{Plain, Entries, prim, none, entry, entries, list_of, place_weight, weight, weights, values, values_in, depth, deepest}

pub list_of_entries : (es : List (Key × Plain)) → list_of (entries es) ≡ es
list_of_entries [] = refl
list_of_entries (e ∷ es) = ap (λ (ds : List (Key × Plain)). e ∷ ds) (list_of_entries es)

pub entries-list_of : (es : Entries) → entries (list_of es) ≡ es
entries-list_of none = refl
entries-list_of (entry k v es) = ap (entry k v) (entries-list_of es)

pub weights_push : (kind : Kind) (es : List (Key × Plain)) (e : Key × Plain) → weights kind (entries (es ++ e ∷ [])) ≡ weights kind (entries es) + (place_weight kind e.0 + weight e.1)
weights_push kind [] e = omega arith
weights_push kind (d ∷ es) e = omega (arith, weights_push kind es e)

pub values_push : (es : List (Key × Plain)) (e : Key × Plain) → values_in (entries (es ++ e ∷ [])) ≡ values_in (entries es) + values e.1
values_push [] e = omega arith
values_push (d ∷ es) e = omega (arith, values_push es e)

pub deepest_push : (es : List (Key × Plain)) (e : Key × Plain) → deepest (entries (es ++ e ∷ [])) ≡ max (deepest (entries es)) (depth e.1)
deepest_push [] e = omega arith
deepest_push (d ∷ es) e = omega (arith, deepest_push es e)

module _ {X : Type 0} (f : X → Key × Plain) where
  pub weights_more : (kind : Kind) (xs : List X) (i : ℕ) (d : X) → i < length xs → weights kind (entries (map f (take (i + 1) xs))) ≡ weights kind (entries (map f (take i xs))) + (place_weight kind (f (get_or xs i d)).0 + weight (f (get_or xs i d)).1)
  weights_more kind xs i d h = rw (map_more f xs i d h) (weights_push kind _ _)

  pub values_more : (xs : List X) (i : ℕ) (d : X) → i < length xs → values_in (entries (map f (take (i + 1) xs))) ≡ values_in (entries (map f (take i xs))) + values (f (get_or xs i d)).1
  values_more xs i d h = rw (map_more f xs i d h) (values_push _ _)

  pub deepest_more : (xs : List X) (i : ℕ) (d : X) → i < length xs → deepest (entries (map f (take (i + 1) xs))) ≡ max (deepest (entries (map f (take i xs)))) (depth (f (get_or xs i d)).1)
  deepest_more xs i d h = rw (map_more f xs i d h) (deepest_push _ _)

  pub child_le : (xs : List X) (i : ℕ) (d : X) → i < length xs → values (f (get_or xs i d)).1 ≤ values_in (entries (map f xs))
  child_le [] i d h = absurd (omega arith)
  child_le (x ∷ xs) zero d h = omega arith
  child_le (x ∷ xs) (suc i) d h = omega (arith, child_le xs i d (omega arith))

-- a Set's members are primitives
pub values_members : (ks : List Key) → values_in (entries (map (λ (k : Key). let e : Key × Plain = (k, prim k) in e) ks)) ≡ length ks
values_members [] = refl
values_members (k ∷ ks) = omega (arith, values_members ks)

pub deepest_members : (ks : List Key) → deepest (entries (map (λ (k : Key). let e : Key × Plain = (k, prim k) in e) ks)) ≡ 0
deepest_members [] = refl
deepest_members (k ∷ ks) = omega (arith, deepest_members ks)
