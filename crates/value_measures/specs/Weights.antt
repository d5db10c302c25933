-- What patches weigh.
use Rattle.std.specs.Prelude.{ℕ, ◌+◌, List, [], ◌∷◌, Option, Some, None}
use Rattle.value_model.specs.declared.key.Key.{Key}
use Rattle.value_model.specs.Plain.{Plain, key_weight, weight}
use Rattle.values.specs.declared.patch.Patch.{Patch}

-- what the steps of a path weigh
abbrev pub path_weight : List Key → ℕ
path_weight [] = 0
path_weight (k ∷ ks) = key_weight k + path_weight ks

-- what a value weighs, where there is one
abbrev pub value_weight : Option Plain → ℕ
value_weight None = 0
value_weight (Some v) = weight v

-- a patch weighs 1, its path and its value
abbrev pub patch_weight : Patch → ℕ
patch_weight p = 1 + path_weight p.path + value_weight p.value

-- patches together
abbrev pub patches_weight : List Patch → ℕ
patches_weight [] = 0
patches_weight (p ∷ ps) = patch_weight p + patches_weight ps
