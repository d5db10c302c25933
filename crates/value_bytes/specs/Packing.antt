-- The pair that bytes stand for.
use Rattle.std.specs.Prelude.{◌≡◌, ℕ, List, [], Option, Some, None}
use Rattle.values.specs.declared.patch.Pair.{Pair}
use Rattle.value_bytes_spec.specs.Reading.{pair_at}
use Rattle.value_bytes_spec.specs.Spelling.{pair_bytes, IsPair}

-- no patches, either way
abbrev pub no_change : Pair
no_change = record { forward = []; inverse = [] }

abbrev pub pair_read : Option (Pair × List ℕ) → Pair
pair_read None = no_change
pair_read (Some x) = x.0

-- the pair that the bytes spell at their front
abbrev pub pair_of : List ℕ → Pair
pair_of bytes = pair_read (pair_at bytes)

-- the bytes are the spellings of a pair, and no more
pub record IsPacked (bytes : List ℕ) : Type 0 where
  pub is : bytes ≡ pair_bytes (pair_of bytes)
  pub pair : IsPair (pair_of bytes)
