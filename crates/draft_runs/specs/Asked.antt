-- What the conditions of calls ask, and what shows it.
use Rattle.std.proofs.Common.{◌≡◌, ℕ, ◌<◌, ◌≤◌, List, []}
use Rattle.std.specs.Prelude.{◌≢◌, not, Some}
use Rattle.value_model.specs.declared.key.Key.{Key}
use Rattle.value_model.specs.declared.kind.Kind.TheVariants as kind
use Rattle.run_heap.specs.declared.value.Rv.{Rv}
use Rattle.run_heap.specs.Heap.{Heap}
use Rattle.run_heap.specs.Operations.{kind_of, count}
use Rattle.run_heap.specs.Sound.{IsObject, IsContainer}
use Rattle.draft_core.specs.Writes.{MayStand}

-- an object, a Map or a Set, frozen or not
pub record IsKeyed (h : Heap) (v : Rv) : Type 0 where
  pub container : IsContainer h v
  pub keyed : kind_of h v ≢ Some kind.List

-- a container that has the i-th entry
pub record IsEntry (h : Heap) (v : Rv) (i : ℕ) : Type 0 where
  pub container : IsContainer h v
  pub in_range : i < count h v

-- an object, a Map or a Set that may be written
pub record IsKeyedObject (h : Heap) (v : Rv) : Type 0 where
  pub object : IsObject h v
  pub keyed : kind_of h v ≢ Some kind.List

-- a list that may be written, and has the items from `from` up to `to`
pub record HasItems (h : Heap) (v : Rv) (from to : ℕ) : Type 0 where
  pub object : IsObject h v
  pub list : kind_of h v ≡ Some kind.List
  pub ordered : from ≤ to
  pub in_range : to ≤ count h v

-- a value that may be set at a key of an object
pub record MaySet (h : Heap) (v : Rv) (k : Key) (value : Rv) : Type 0 where
  pub object : IsObject h v
  pub keyed : kind_of h v ≢ Some kind.List
  pub stands : MayStand h v k (Some value)
