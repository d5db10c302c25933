use Rattle.std.proofs.Common.{◌≡◌, List, [], ◌∷◌, length, refl, None, ap, ◌∙◌}
use Rattle.serde_json.specs.View.{items_view}
use Rattle.serde_json.specs.declared.value.Value.{Value}
use Rattle.stream_run.specs.Built as spec
use Rattle.host_shell.proofs.built.only_item.Goals as goal

other_lengths : (vs : List Value) → (length vs ≡ 1 → ⊥) → None ≡ spec.only_item (items_view vs)
other_lengths [] h = refl
other_lengths (v ∷ []) h = absurd (h refl)
other_lengths (v ∷ w ∷ vs) h = refl

pub returns-else-items-eq1 : goal.returns-else-items-eq1
returns-else-items-eq1 c = rw (← c.in_ok-as_array.ensures) (other_lengths _ (λ e. c.if-items-eq1.false (ap length c.as_slice-items.ensures.value ∙ e)))
