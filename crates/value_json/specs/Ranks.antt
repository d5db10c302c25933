-- A table of keys in order, as the values of its entries show it.
use Rattle.std.specs.Prelude.{List, map}
use Rattle.value_model.specs.declared.key.Key.{Key}
use Rattle.value_model.specs.Plain.{Plain, prim}
use Rattle.value_json.specs.declared.ranked.Ranked.{Ranked}

abbrev pub of_pair : Ranked × Plain → Key × Plain
of_pair e = (e.0.key, e.1)

abbrev pub of_pairs : List (Ranked × Plain) → List (Key × Plain)
of_pairs es = map of_pair es

abbrev pub of_mark : Ranked × Unit {0} → Key × Plain
of_mark e = (e.0.key, prim e.0.key)

abbrev pub of_marks : List (Ranked × Unit {0}) → List (Key × Plain)
of_marks es = map of_mark es
