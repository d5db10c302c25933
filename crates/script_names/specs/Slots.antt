-- Numbers for the variables of a reducer: its declarations in the text's order, from 0; there are as many as
-- declarations. Which names are right does not depend on them.
use Rattle.std.specs.Prelude.{ℕ, ◌+◌, if◌then◌else◌, ◌==◌, List, [], ◌∷◌, map}

-- the declarations among names, which belong to themselves
abbrev pub declarations : List (ℕ × ℕ) → List ℕ
declarations [] = []
declarations (n ∷ ns) = if n.0 == n.1 then n.0 ∷ declarations ns else declarations ns

-- how many stand before this one
abbrev pub place : List ℕ → ℕ → ℕ
place [] d = 0
place (e ∷ es) d = if e == d then 0 else place es d + 1

-- each name with the number of its variable
abbrev pub slots : List (ℕ × ℕ) → List (ℕ × ℕ)
slots ns = map (λ (n : ℕ × ℕ). (n.0, place (declarations ns) n.1)) ns
