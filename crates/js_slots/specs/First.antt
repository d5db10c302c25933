-- The first of two answers.
use Rattle.std.specs.Prelude.{ℕ, Option, Some, None}

abbrev pub or_first : Option ℕ → Option ℕ → Option ℕ
or_first None o = o
or_first (Some k) o = Some k
