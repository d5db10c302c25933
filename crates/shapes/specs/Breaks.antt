-- What a search for the first break finds.
use Rattle.std.specs.Prelude.{◌≡◌, ◌<◌, ℕ, List, [], ◌∷◌, true, Option, Some, None, is_some}
use Rattle.value_model.specs.declared.key.Key.{Key}
use Rattle.value_model.specs.declared.key.Key.TheVariants as key
use Rattle.value_model.specs.Plain.{Plain}
use Rattle.guards_views_spec.specs.Shapes.{Shape, Broken, shapes, broken, below}
use Rattle.shapes.specs.declared.meeting.Wrong.{Wrong}
use Rattle.shapes.specs.declared.meeting.Wrong.TheVariants as wrong

-- it is below this step, in a value that breaks the shape
abbrev pub BreaksAt : Shape → Key → Plain → Broken → Type 0
BreaksAt s k v o = record { at : o ≡ below k (broken s v); breaks : is_some (broken s v) ≡ true }

-- the same of an object, whose shapes inside are below a bound
abbrev pub IsWrong : ℕ → Option Wrong → Broken → Type 0
IsWrong n None o = o ≡ None
IsWrong n (Some (wrong.Name k)) o = o ≡ Some (key.Text k.now ∷ [])
IsWrong n (Some (wrong.Field s f)) o = BreaksAt s.now (key.Text f.now.key) f.now.value o × (shapes s.now < n)
