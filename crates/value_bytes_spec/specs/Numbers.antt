-- The bytes of a number that was read are those bytes, at every width, in the words of `byteorder`.
use Rattle.std.proofs.Common.{ℕ, zero, suc, ◌<◌, List, [], get_or}

abbrev pub IsBytes : List ℕ → Type 0
IsBytes bytes = (i : ℕ) → get_or bytes i 0 < 256
