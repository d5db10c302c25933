use Rattle.std.proofs.Common.{◌≡◌, Option, Some, None, refl, ap, ◌∙◌, sym}
use Rattle.std.specs.Prelude.{is_some}
use Rattle.std.specs.Option.{option_map}
use Rattle.shapes.proofs.names.has_name.Goals as goal

there : {X Y : Type 0} (f : X → Y) (o : Option X) → is_some (option_map f o) ≡ is_some o
there f None = refl
there f (Some x) = refl

pub returns : goal.returns
returns c = c.is_some.ensures ∙ sym (there _ c.find_name.result) ∙ ap is_some c.find_name.ensures.found
