-- What a call that reads answers: what the value is read as, or `NotRules` exactly where it is not of the form; or want of memory.
use Rattle.std.specs.Prelude.{◌≡◌, ◌++◌, List, [], ◌∷◌, Option, Some, None, Result, Ok, Err}
use Rattle.std.specs.Option.{option_map}
use Rattle.guards_views_spec.specs.Shapes.{Shape, Names, Choices, named, choice}
use Rattle.guards_views.specs.declared.fault.RulesFault.{RulesFault}
use Rattle.guards_views.specs.declared.fault.RulesFault.TheVariants as fault

abbrev pub ReadsAs : {X Y : Type 0} → (X → Y) → Result X RulesFault → Option Y → Type 0
ReadsAs f (Ok x) o = o ≡ Some (f x)
ReadsAs f (Err fault.NotRules) o = o ≡ None
ReadsAs f (Err fault.Memory) o = Unit {0}

abbrev pub Reads : {X : Type 0} → Result X RulesFault → Option X → Type 0
Reads r o = ReadsAs (λ x. x) r o
