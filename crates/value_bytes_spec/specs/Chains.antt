-- Keys that ascend from each to the next ascend altogether, and back.
use Rattle.std.proofs.Common.{zero, suc, Bool, true, List, [], ◌∷◌, Option, Some}
use Rattle.std.specs.Prelude.{◌&&◌}
use Rattle.value_model.specs.declared.key.Key.{Key}
use Rattle.value_model.specs.declared.kind.Kind.{Kind}
use Rattle.value_model.specs.Plain.{Plain}
use Rattle.value_bytes_spec.specs.Reading.{follows}

abbrev pub chain : Kind → Option Key → List (Key × Plain) → Bool
chain kind before [] = true
chain kind before (e ∷ es) = follows kind before e.0 && chain kind (Some e.0) es
