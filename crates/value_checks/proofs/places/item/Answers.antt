use Rattle.std.proofs.Common.{◌≡◌, List, [], ◌∷◌, map, refl, ap, arith}
use Rattle.std.proofs.lemmas.Grind.{elements}
use Rattle.value_model.specs.Plain.{Plain}
use Rattle.values.specs.Seen.{of_item}
use Rattle.value_checks.proofs.places.item.Goals as goal

shown_items : (vs : List Plain) → map (λ e. e.1) (map of_item vs) ≡ vs
shown_items [] = refl
shown_items (v ∷ vs) = ap (λ (ws : List Plain). v ∷ ws) (shown_items vs)

pub returns : goal.returns
returns c = rw (shown_items c.args.items.now) (grind (arith, elements))
