use Rattle.std.proofs.Common.{◌≡◌, ◌∙◌, ap, refl, Less, Equal, Greater, Ordering}
use Rattle.std.specs.Prelude.{not}
use Rattle.std.specs.Ordering.{is_eq, is_ne}
use Rattle.host_engine.proofs.pairs.is_other.Goals as goal

told_apart : (o : Ordering) → is_ne o ≡ not (is_eq o)
told_apart Less = refl
told_apart Equal = refl
told_apart Greater = refl

pub returns : goal.returns
returns c = c.is_ne.ensures ∙ ap is_ne c.compare_numbers.ensures ∙ told_apart _
