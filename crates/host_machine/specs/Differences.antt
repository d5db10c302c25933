-- What a change of a flat state is answered with: the patches from the old table to the new one.
use Rattle.std.specs.Prelude.{ℕ, ◌+◌, Bool, true, false, ◌&&◌, List, [], ◌∷◌, ◌++◌, map, Option, Some, None, if◌then◌else◌}
use Rattle.std.specs.Ordering.{eq_by_cmp}
use Rattle.std.specs.FinMap.Entries.{find, put}
use Rattle.value_model.specs.declared.key.Key.{Key}
use Rattle.value_model.specs.declared.op.Op.{Op}
use Rattle.value_model.specs.declared.op.Op.TheVariants.{Add, Replace, Remove}
use Rattle.value_model.specs.Order.{key_cmp}
use Rattle.value_model.specs.Plain.{Plain, Table, prim, key_weight, weight}
use Rattle.values.specs.declared.patch.Patch.{Patch}

-- two primitives are the same by value; containers would be by their numbers, and a flat table has none
abbrev pub same : Plain → Plain → Bool
same (prim j) (prim k) = eq_by_cmp key_cmp j k
same _ _ = false

-- the same keys with the same values
abbrev pub same_table : Table → Table → Bool
same_table [] [] = true
same_table (d ∷ ds) (e ∷ es) = eq_by_cmp key_cmp d.0 e.0 && same d.1 e.1 && same_table ds es
same_table _ _ = false

-- the finite map with the entries of both, the second's where both have a key
abbrev pub union : Table → Table → Table
union es [] = es
union es (f ∷ fs) = union (put key_cmp f.0 f.1 es) fs

-- the keys of a table
abbrev pub keys : Table → List Key
keys es = map (λ e. e.0) es

-- the patch of one entry
abbrev pub patch : Op → Key → Option Plain → Patch
patch op k v = record { op = op; path = k ∷ []; value = v }

-- the patch of one entry, by what the old and the new table have there
abbrev pub change : Key → Option Plain → Option Plain → List Patch
change k None None = []
change k None (Some w) = patch Add k (Some w) ∷ []
change k (Some v) None = patch Remove k None ∷ []
change k (Some v) (Some w) = if same v w then [] else patch Replace k (Some w) ∷ []

-- the patches of these entries, one after another
abbrev pub changes : List Key → Table → Table → List Patch
changes [] old new = []
changes (k ∷ ks) old new = change k (find key_cmp k old) (find key_cmp k new) ++ changes ks old new

-- over the keys of both, ascending
unfoldable pub differences : Table → Table → List Patch
differences old new = changes (keys (union old new)) old new

-- what the keys of a path weigh
abbrev pub path_weight : List Key → ℕ
path_weight [] = 0
path_weight (k ∷ ks) = key_weight k + path_weight ks

-- what a value weighs, where there is one
abbrev pub value_weight : Option Plain → ℕ
value_weight None = 0
value_weight (Some v) = weight v

-- a patch weighs 1, its path's keys and its value
abbrev pub patch_weight : Patch → ℕ
patch_weight p = 1 + path_weight p.path + value_weight p.value

-- what patches weigh together
abbrev pub patches_weight : List Patch → ℕ
patches_weight [] = 0
patches_weight (p ∷ ps) = patch_weight p + patches_weight ps
