use Rattle.std.proofs.Common.{sym, ap, ◌∙◌}
use Rattle.std.specs.Prelude.{is_some}
use Rattle.serde_json.specs.View.{view}
use Rattle.value_json.specs.Ranks.{of_pairs}
use Rattle.value_json.proofs.Steps.{new_key_done, new_key_twice, found_pairs}
use Rattle.value_json.proofs.walk.new_key.Goals as goal

pub returns-else-contains_key : goal.returns-else-contains_key
returns-else-contains_key c =
    new_key_done (view c.args.value.now) (of_pairs c.args.found.now.entries) c.in_ok-key_in.field-0 c.in_ok-key_in.ensures
    (sym (ap is_some (found_pairs (record { key = c.in_ok-key_in.field-0 }) c.args.found.now.entries)) ∙ sym c.contains_key.ensures ∙ c.if-contains_key.false)

pub returns-then-contains_key : goal.returns-then-contains_key
returns-then-contains_key c =
    new_key_twice (view c.args.value.now) (of_pairs c.args.found.now.entries) c.in_ok-key_in.field-0 c.in_ok-key_in.ensures
    (sym (ap is_some (found_pairs (record { key = c.in_ok-key_in.field-0 }) c.args.found.now.entries)) ∙ sym c.contains_key.ensures ∙ c.if-contains_key.true)
