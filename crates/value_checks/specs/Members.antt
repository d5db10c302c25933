-- Facts at the entries of a Set or an object that code holds.
use Rattle.std.specs.Prelude.{[]}
use Rattle.value_model.specs.declared.key.Key.{Key}
use Rattle.value_model.specs.declared.key.Key.TheVariants as key

abbrev pub IsText : Key → Type 0
IsText (key.Text s) = Unit {0}
IsText _ = ⊥
