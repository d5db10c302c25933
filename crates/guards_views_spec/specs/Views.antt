-- Views: what each entry of a container adds to a sum, and which entries a list of patches touches.
use Rattle.std.specs.Prelude.{ℕ, ◌+◌, List, [], ◌∷◌, Bool, true, false, ◌&&◌, ◌||◌, not, Option, Some, None, int_le, if◌then◌else◌}
use Rattle.std.specs.Ordering.{is_eq, eq_by_cmp}
use Rattle.std.specs.FinMap.Entries.{put, find, where_key, by_order}
use Rattle.value_model.specs.declared.key.Key.{Key}
use Rattle.value_model.specs.declared.key.Key.TheVariants as key
use Rattle.value_model.specs.declared.kind.Kind.{Kind}
use Rattle.value_model.specs.declared.kind.Kind.TheVariants as kind
use Rattle.value_model.specs.Order.{key_cmp}
use Rattle.value_model.specs.Places.{at, child}
use Rattle.value_model.specs.Plain.{Plain, Entries, prim, node, none, entry, list_of, weight}
use Rattle.values.specs.declared.patch.Patch.{Patch}
use Rattle.guards_views_spec.specs.declared.Weigh.{Weigh}
use Rattle.guards_views_spec.specs.declared.Weigh.TheVariants as weigh
use Rattle.guards_views_spec.specs.Shapes.{in_range, step_at}

-- a value that is true
abbrev pub is_true : Plain → Bool
is_true (prim (key.Bool true)) = true
is_true _ = false

abbrev pub one_where : Bool → ℕ
one_where true = 1
one_where false = 0

-- a value that passes the test stands there
abbrev pub some_passes : (Plain → Bool) → Option Plain → Bool
some_passes f None = false
some_passes f (Some v) = f v

-- what stands under a name of an object
abbrev pub field : List ℕ → Plain → Option Plain
field n (node kind.Obj es) = find key_cmp (key.Text n) (list_of es)
field n _ = None

-- what an entry adds
abbrev pub weighs : Weigh → Plain → ℕ
weighs weigh.Count v = 1
weighs weigh.Weight v = weight v
weighs (weigh.True n) v = one_where (some_passes is_true (field n v))
weighs (weigh.Int n lo hi) v = one_where (some_passes (in_range lo hi) (field n v))

-- what each entry adds, under its step; in a Set under the member
abbrev pub Weights : Type 0
Weights = List (Key × ℕ)

abbrev pub weights_in : Weigh → Kind → ℕ → Entries → Weights
weights_in w kind i none = []
weights_in w kind i (entry k v es) = (step_at kind i k, weighs w v) ∷ weights_in w kind (i + 1) es

-- a container's entries; a primitive and nothing have none
abbrev pub weights_of : Weigh → Option Plain → Weights
weights_of w None = []
weights_of w (Some (prim k)) = []
weights_of w (Some (node kind es)) = weights_in w kind 0 es

abbrev pub total : Weights → ℕ
total [] = 0
total (e ∷ es) = e.1 + total es

-- the view's value at a state, from nothing but the state
abbrev pub scratch : List Key → Weigh → Plain → ℕ
scratch path w v = total (weights_of w (at path v))

-- ---- bringing a view up to date
-- an entry is set, or taken out where nothing stands there any more
abbrev pub with_entry : Weigh → Key × Option Plain → Weights → Weights
with_entry w (k, None) es = where_key key_cmp (λ j. not (eq_by_cmp key_cmp k j)) es
with_entry w (k, Some v) es = put key_cmp k (weighs w v) es

abbrev pub updated : Weigh → List (Key × Option Plain) → Weights → Weights
updated w [] es = es
updated w (c ∷ cs) es = updated w cs (with_entry w c es)

-- ---- what patches touch
-- where a patch's path leads, seen from a view's container: to it or above it, to what is below an entry, or elsewhere
pub data Reach : Type 0 where
  above : Reach
  inside : Key → Reach
  aside : Reach

abbrev pub reach : List Key → List Key → Reach
reach path [] = above
reach [] (k ∷ ks) = inside k
reach (j ∷ path) (k ∷ ks) = if eq_by_cmp key_cmp j k then reach path ks else aside

-- ascending keys with one more
abbrev pub with_key : Key → List Key → List Key
with_key k [] = k ∷ []
with_key k (j ∷ ks) = by_order (key_cmp k j) (k ∷ j ∷ ks) (j ∷ ks) (j ∷ with_key k ks)

-- the keys so far and those that a patch touches; none where it touches the whole
abbrev pub with_reach : Reach → List Key → Option (List Key)
with_reach above ks = None
with_reach (inside k) ks = Some (with_key k ks)
with_reach aside ks = Some ks

abbrev pub touched_from : List Key → List Key → List Patch → Option (List Key)
touched_from path ks [] = Some ks
touched_from path ks (p ∷ ps) = elim (with_reach (reach path p.path) ks) [ None ↦ None | Some more ↦ touched_from path more ps ]

-- the entries of the container at a path that patches touch, by their ascending keys; none where they touch it as a whole
abbrev pub touched : List Key → List Patch → Option (List Key)
touched path ps = touched_from path [] ps
