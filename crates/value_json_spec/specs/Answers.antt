-- Steps of which each may answer a fault: the first fault is the answer of all.
use Rattle.std.specs.Prelude.{Result, Ok, Err}

-- the next step, where this one answered a value
abbrev pub and_then : {A B E : Type 0} → (A → Result B E) → Result A E → Result B E
and_then f (Ok a) = f a
and_then f (Err e) = Err e

-- what f makes of a value that was answered
abbrev pub result_map : {A B E : Type 0} → (A → B) → Result A E → Result B E
result_map f (Ok a) = Ok (f a)
result_map f (Err e) = Err e
