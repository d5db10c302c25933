-- What a reader in code answers, beside the reading of lists that it does.
use Rattle.std.specs.Prelude.{◌≡◌, Option, Some, None, Result, Ok, Err}
use Rattle.value_bytes.specs.declared.stop.Stop.{Stop}
use Rattle.value_bytes.specs.declared.stop.Stop.TheVariants.{NoSpelling, Memory}

abbrev pub Stops : {Y : Type 0} → Stop → Option Y → Type 0
Stops NoSpelling read = read ≡ None
Stops Memory read = Unit {0}

-- what was read, seen by view, is what the list reads as, unless memory ran out
abbrev pub Gives : {X Y : Type 0} → (X → Y) → Result X Stop → Option Y → Type 0
Gives view (Ok x) read = read ≡ Some (view x)
Gives view (Err e) read = Stops e read
