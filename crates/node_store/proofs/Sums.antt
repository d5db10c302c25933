-- What the cells of a table measure together: laws.
use Rattle.std.proofs.Common.{◌≡◌, ◌+◌, List, [], ◌∷◌, map, max, refl, ap, ◌∙◌, arith}
use Rattle.value_model.specs.declared.key.Key.{Key}
use Rattle.value_model.specs.declared.kind.Kind.{Kind}
use Rattle.value_model.specs.declared.kind.Kind.TheVariants as kind
use Rattle.value_model.specs.Plain as plain_value
use Rattle.numbered.specs.Tree as tree
use Rattle.numbered.specs.Tree.{Tree, plain, plains, child_weights, own_weight}
use Rattle.page_tables.specs.declared.cell.Cell.{Cell}
use Rattle.node_store.specs.Nodes.{cell_tree, branches, rows, built}
use Rattle.node_store.specs.Kept.{IsPaired}
use Rattle.node_store.proofs.Tables.{cells_of_rows, zip_keys}
use Rattle.node_store.specs.Sums.{own_weights, cell_weights, cell_values, deepest_cell, cell_containers, key_sum, keys_weight, place_weights}

weights_rows : (ts : List Tree) (of : Kind) (rs : List (Key × Cell)) → plain_value.weights of (plains (branches ts rs)) ≡ place_weights of (map (λ r. r.0) rs) + cell_weights ts (map (λ r. r.1) rs)
weights_rows ts of [] = refl
weights_rows ts of (r ∷ rs) = omega (arith, weights_rows ts of rs)

own_rows : (ts : List Tree) (of : Kind) (rs : List (Key × Cell)) → child_weights of (branches ts rs) ≡ place_weights of (map (λ r. r.0) rs) + own_weights ts (map (λ r. r.1) rs)
own_rows ts of [] = refl
own_rows ts of (r ∷ rs) = omega (arith, own_rows ts of rs)

values_rows : (ts : List Tree) (rs : List (Key × Cell)) → plain_value.values_in (plains (branches ts rs)) ≡ cell_values ts (map (λ r. r.1) rs)
values_rows ts [] = refl
values_rows ts (r ∷ rs) = omega (arith, values_rows ts rs)

deepest_rows : (ts : List Tree) (rs : List (Key × Cell)) → plain_value.deepest (plains (branches ts rs)) ≡ deepest_cell ts (map (λ r. r.1) rs)
deepest_rows ts [] = refl
deepest_rows ts (r ∷ rs) = ap (max (plain_value.depth (plain (cell_tree ts r.1)))) (deepest_rows ts rs)

containers_rows : (ts : List Tree) (rs : List (Key × Cell)) → tree.containers_in (branches ts rs) ≡ cell_containers ts (map (λ r. r.1) rs)
containers_rows ts [] = refl
containers_rows ts (r ∷ rs) = omega (arith, containers_rows ts rs)

obj_places : (ks : List Key) → place_weights kind.Obj ks ≡ key_sum ks
obj_places [] = refl
obj_places (k ∷ ks) = omega (arith, obj_places ks)

map_places : (ks : List Key) → place_weights kind.Map ks ≡ key_sum ks
map_places [] = refl
map_places (k ∷ ks) = omega (arith, map_places ks)

list_places : (ks : List Key) → place_weights kind.List ks ≡ 0
list_places [] = refl
list_places (k ∷ ks) = omega (arith, list_places ks)

set_places : (ks : List Key) → place_weights kind.Set ks ≡ 0
set_places [] = refl
set_places (k ∷ ks) = omega (arith, set_places ks)

places_rows : (of : Kind) (ks : List Key) (cs : List Cell) → IsPaired of ks cs → place_weights of (map (λ r. r.0) (rows of ks cs)) ≡ keys_weight of ks
places_rows kind.Obj ks cs p = ap (place_weights kind.Obj) (zip_keys ks cs p) ∙ obj_places ks
places_rows kind.Map ks cs p = ap (place_weights kind.Map) (zip_keys ks cs p) ∙ map_places ks
places_rows kind.List ks cs p = list_places _
places_rows kind.Set ks cs p = set_places _

module _ (ts : List Tree) (of : Kind) (ks : List Key) (cs : List Cell) (p : IsPaired of ks cs) where
  pub weight_built : plain_value.weight (plain (built ts of ks cs)) ≡ 1 + keys_weight of ks + cell_weights ts cs
  weight_built = omega (arith, weights_rows ts of (rows of ks cs), places_rows of ks cs p, ap (cell_weights ts) (cells_of_rows of ks cs p))

  pub own_built : own_weight (built ts of ks cs) ≡ 1 + keys_weight of ks + own_weights ts cs
  own_built = omega (arith, own_rows ts of (rows of ks cs), places_rows of ks cs p, ap (own_weights ts) (cells_of_rows of ks cs p))

  pub values_built : plain_value.values (plain (built ts of ks cs)) ≡ 1 + cell_values ts cs
  values_built = omega (arith, values_rows ts (rows of ks cs), ap (cell_values ts) (cells_of_rows of ks cs p))

  pub depth_built : plain_value.depth (plain (built ts of ks cs)) ≡ 1 + deepest_cell ts cs
  depth_built = omega (arith, deepest_rows ts (rows of ks cs), ap (deepest_cell ts) (cells_of_rows of ks cs p))

  pub containers_built : tree.containers (built ts of ks cs) ≡ 1 + cell_containers ts cs
  containers_built = omega (arith, containers_rows ts (rows of ks cs), ap (cell_containers ts) (cells_of_rows of ks cs p))
