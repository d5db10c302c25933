-- A loop that reads entries, keys or patches: what was read so far, and what is still to be read.
use Rattle.std.specs.Prelude.{ℕ, ◌-◌, List, ◌++◌, length, Option, Some, slice_get, option_map}
use Rattle.value_model.specs.declared.key.Key.{Key}
use Rattle.value_model.specs.Plain.{Plain}
use Rattle.value_bytes_spec.specs.Reading.{◌>>=◌}

-- the key of the last entry, behind which the next one stands
abbrev pub last_key : List (Key × Plain) → Option Key
last_key es = option_map (λ (e : Key × Plain). e.0) (slice_get es (length es - 1))

-- what was read before, and what is still read
abbrev pub with_front : {A : Type 0} → List A → Option (List A × List ℕ) → Option (List A × List ℕ)
with_front front read = read >>= λ x. Some (front ++ x.0, x.1)
