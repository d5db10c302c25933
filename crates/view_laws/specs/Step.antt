-- What the law of views speaks of.
use Rattle.std.specs.Prelude.{◌≡◌, List, Some, Ok, IsTrue}
use Rattle.value_model.specs.declared.key.Key.{Key}
use Rattle.value_model.specs.Plain.{Plain}
use Rattle.value_model.specs.Well.{well}
use Rattle.values.specs.declared.patch.Patch.{Patch}
use Rattle.patch_meaning.specs.Applying.{applied}
use Rattle.guards_views_spec.specs.Views.{touched}
use Rattle.view_laws.specs.InPlace.{are_in_place}

-- patches that are in place make the new state of the old one, whose keys ascend, and touch these keys at a path
pub record Step (path : List Key) (patches : List Patch) (old new : Plain) (keys : List Key) : Type 0 where
  pub ascends : IsTrue (well old)
  pub placed : IsTrue (are_in_place patches old)
  pub makes : applied patches old ≡ Ok new
  pub touches : touched path patches ≡ Some keys
