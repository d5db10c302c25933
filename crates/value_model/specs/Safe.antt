-- The integers of the language: those that a double tells apart (ECMA-262, Number.isSafeInteger).
use Rattle.std.specs.Prelude.{ℤ, pos, negsuc, ◌≤ℤ◌}

-- magnitude at most 2^53 - 1
abbrev pub IsSafe : ℤ → Type 0
IsSafe n = (negsuc 9007199254740990 ≤ℤ n) × (n ≤ℤ pos 9007199254740991)
