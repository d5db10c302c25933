-- The patches of the lower of two first keys.
use Rattle.std.specs.Prelude.{List, [], ◌∷◌, Some, None}
use Rattle.std.specs.declared.cmp.Ordering.{Ordering}
use Rattle.std.proofs.Common.{Less, Equal, Greater}
use Rattle.value_model.specs.declared.key.Key.{Key}
use Rattle.value_model.specs.declared.op.Op.TheVariants.{Add, Remove}
use Rattle.value_model.specs.Plain.{Plain}
use Rattle.values.specs.declared.patch.Patch.{Patch}
use Rattle.host_machine.specs.Differences.{patch, change}

abbrev pub first_patches : Ordering → Key × Plain → Key × Plain → List Patch
first_patches Less e f = patch Remove e.0 None ∷ []
first_patches Equal e f = change e.0 (Some e.1) (Some f.1)
first_patches Greater e f = patch Add f.0 (Some f.1) ∷ []
