-- What is asked of a view's function, and of the values that it is called on.
use Rattle.std.specs.Prelude.{◌≡◌, ℕ, List, [], ◌∷◌, Option, Some, None}
use Rattle.std.specs.Borrow.{Bor}
use Rattle.std.specs.Fn.{Shared}
use Rattle.value_model.specs.declared.key.Key.{Key}
use Rattle.value_model.specs.Limits.{value_limit}
use Rattle.value_model.specs.Plain.{Plain, Entries, none, entry}
use Rattle.guards_views_spec.specs.declared.Weigh.{Weigh}
use Rattle.guards_views_spec.specs.Views.{weighs}

-- it may be called on every value within the limits, and answers what the value adds
pub record Measures {F : Type 0} (g : Shared F (Bor Plain × Unit {0}) ℕ) (f : F) (w : Weigh) : Type 0 where
  pub callable : (v : Bor Plain) → value_limit v.now ≡ None → g.pre f (v, tt)
  pub answers : (v : Bor Plain) (n : ℕ) → value_limit v.now ≡ None → g.post f (v, tt) n → n ≡ weighs w v.now

-- the value of each entry is within the limits
abbrev pub AllAccepted : Entries → Type 0
AllAccepted none = Unit {0}
AllAccepted (entry k v es) = (value_limit v ≡ None) × AllAccepted es

-- a value that stands somewhere is
abbrev pub AcceptedAt : Option Plain → Type 0
AcceptedAt None = Unit {0}
AcceptedAt (Some v) = value_limit v ≡ None

-- each value of a list of changes is
abbrev pub ChangesAccepted : List (Key × Option Plain) → Type 0
ChangesAccepted [] = Unit {0}
ChangesAccepted (c ∷ cs) = AcceptedAt c.1 × ChangesAccepted cs
