-- The order of names by their tokens, and what it gives.
use Rattle.std.specs.Prelude.{◌≡◌, ℕ, ◌+◌, ◌≤◌, List, [], ◌∷◌, Some}
use Rattle.script_names.specs.Slots.{declarations, place, slots}
use Rattle.js_slots.specs.Numbers.{slot_at}

-- the first numbers of these pairs ascend strictly, from this one on
abbrev pub Above : ℕ → List (ℕ × ℕ) → Type 0
Above k [] = Unit {0}
Above k (n ∷ ns) = (k ≤ n.0) × Above (n.0 + 1) ns

abbrev pub AllAscend : List (List (ℕ × ℕ)) → Type 0
AllAscend [] = Unit {0}
AllAscend (f ∷ fs) = Above 0 f × AllAscend fs

-- each of these names, which are among all of a reducer, finds the number of its declaration
abbrev pub Numbered : List (ℕ × ℕ) → List (ℕ × ℕ) → Type 0
Numbered all [] = Unit {0}
Numbered all (n ∷ ns) = (slot_at (slots all) n.0 ≡ Some (place (declarations all) n.1)) × Numbered all ns

abbrev pub AllNumbered : List (List (ℕ × ℕ)) → Type 0
AllNumbered [] = Unit {0}
AllNumbered (f ∷ fs) = Numbered f f × AllNumbered fs
