-- What the weights in code show.
use Rattle.std.specs.Prelude.{◌≡◌, ℕ, ◌≤◌, ◌^◌, List, map, IsTrue, not}
use Rattle.std.specs.Ordering.{eq_by_cmp}
use Rattle.std.specs.FinMap.Entries.{is_sorted, where_key}
use Rattle.value_model.specs.declared.key.Key.{Key}
use Rattle.value_model.specs.declared.key.Key.TheVariants.{Null}
use Rattle.value_model.specs.Order.{key_cmp}
use Rattle.value_model.specs.Plain.{Plain, prim}
use Rattle.guards_views_spec.specs.Views.{Weights, total}
use Rattle.derived_views.specs.declared.weights.Weight.{Weight}

-- what an entry adds, under its step
abbrev pub of_weight : Weight → Key × ℕ
of_weight w = (w.key, w.weight)

abbrev pub of_weights : List Weight → Weights
of_weights ws = map of_weight ws

-- an entry in a table; what it adds isn't looked at
abbrev pub placed : Weight → Key × Plain
placed w = (w.key, prim Null)

-- the steps ascend strictly, and the sum is kept
abbrev pub IsKept : List Weight → ℕ → Type 0
IsKept ws n = record { sorted : IsTrue (is_sorted key_cmp (of_weights ws)); sum : n ≡ total (of_weights ws); small : n ≤ 2 ^ 20 }

-- the weights without an entry
abbrev pub without : Key → Weights → Weights
without k es = where_key key_cmp (λ j. not (eq_by_cmp key_cmp k j)) es
