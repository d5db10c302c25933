-- What the spellings have in common: reading and writing agree, so no spelling begins another.
use Rattle.std.proofs.Common.{◌≡◌, ℕ, List, [], ◌++◌, Option, Some}
use Rattle.value_bytes_spec.specs.Numbers.{IsBytes}
use Rattle.value_bytes_spec.specs.Fields.{Takes}

-- read takes what spell writes of what is good, and nothing else
pub record IsFormat (A : Type 0) (spell : A → List ℕ) (good : A → Type 0) (read : List ℕ → Option (A × List ℕ)) : Type 0 where
  pub takes : (bytes : List ℕ) (x : A) (rest : List ℕ) → IsBytes bytes → read bytes ≡ Some (x, rest) → Takes bytes (spell x) rest × good x
  pub again : (x : A) (rest : List ℕ) → good x → read (spell x ++ rest) ≡ Some (x, rest)
