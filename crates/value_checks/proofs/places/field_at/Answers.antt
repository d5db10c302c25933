use Rattle.std.proofs.Common.{sym, refl, ◌≡◌}
use Rattle.value_checks.proofs.places.field_at.Goals as goal
use Rattle.value_checks.specs.Members.{IsText}
use Rattle.value_checks.proofs.Members.{no_field, not_placed}
use Rattle.value_model.proofs.Search.{found_at}
use Rattle.value_model.specs.declared.key.Key.{Key}
use Rattle.value_model.specs.declared.key.Key.TheVariants as key
use Rattle.values.specs.Seen.{of_field}

pub returns-in-Ok : goal.returns-in-Ok
returns-in-Ok c =
    let place = c.in-Ok.ensures in
    rw c.in-Text.is (sym (found_at of_field (key.Text c.in-Text.name) c.args.fields.now c.in-Ok.i c.index-fields-i.result place.past place.in_range (place.same c.index-fields-i.result)))

pub returns-in-Err : goal.returns-in-Err
returns-in-Err c = rw c.in-Text.is (sym (not_placed of_field (key.Text c.in-Text.name) c.args.fields.now c.in-Err.field-0 c.in-Err.ensures c.requires))

other : (k : Key) → ((s : _) → k ≡ key.Text s → ⊥) → ¬ (IsText k)
other (key.Text s) h t = h s refl
other _ h t = t

pub returns-in_default : goal.returns-in_default
returns-in_default c = sym (no_field c.args.step.now c.args.fields.now (other c.args.step.now c.in_default.not-Text))
