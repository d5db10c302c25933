-- The last patch that replaces the root, and what applying is by it.
use Rattle.std.specs.Prelude.{◌≡◌, ℕ, ◌+◌, ◌<◌, List, [], ◌∷◌, length, Option, Some, None, if◌then◌else◌}
use Rattle.std.proofs.Common.{suc, drop, get_or}
use Rattle.patch_meaning.specs.Applying.{applied_at, applied_from, from_root, is_root_replace}
use Rattle.value_model.specs.Plain.{Plain}
use Rattle.values.specs.declared.patch.Patch.{Patch}

-- a later one, or else this
abbrev pub later : Option ℕ → Option ℕ → Option ℕ
later (Some j) o = Some j
later None o = o

-- the position of the last one, where the first patch of the list has the position i
abbrev pub last_from : ℕ → List Patch → Option ℕ
last_from i [] = None
last_from i (p ∷ ps) = later (last_from (i + 1) ps) (if is_root_replace p then Some i else None)

-- the last one stands at n in the list
abbrev pub IsLast : ℕ → List Patch → Plain → ℕ → Patch → Type 0
IsLast i ps x j d = (n : ℕ) × (j ≡ i + n) × (n < length ps) × (applied_at i ps x ≡ from_root j (get_or ps n d).value (applied_from (j + 1) (drop (suc n) ps)))
