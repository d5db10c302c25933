-- What changed entries weigh.
use Rattle.std.specs.Prelude.{ℕ, ◌+◌, List, [], ◌∷◌, Option, Some, None}
use Rattle.value_model.specs.declared.key.Key.{Key}
use Rattle.value_model.specs.Plain.{Plain, weight}

-- a value that stands somewhere
abbrev pub weight_of : Option Plain → ℕ
weight_of None = 0
weight_of (Some v) = weight v

-- the values that are set, together
abbrev pub added : List (Key × Option Plain) → ℕ
added [] = 0
added (c ∷ cs) = weight_of c.1 + added cs
