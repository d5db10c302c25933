use Rattle.std.proofs.Common.{rules}
use Rattle.std.proofs.lemmas.Fn.{always_returns_same}
use Rattle.value_model.specs.Order.{key_cmp}
use Rattle.value_model.specs.declared.key.Key.TheVariants as key
use Rattle.value_model.specs.Search.{searched}
use Rattle.values.specs.Seen.{of_field}
use Rattle.values.specs.declared.val.Field.{Field}
use Rattle.value_checks.proofs.places.field_place.Goals as goal

pub returns : goal.returns
returns c =
    let facts = c.binary_search_by.ensures in
    let by_key = facts.position (λ (x : Field). key_cmp (of_field x).0 (key.Text c.args.name.now)) (always_returns_same _ _ _ (λ a r g called. (search rules, search rules))) in
    searched of_field (key.Text c.args.name.now) c.args.fields.now c.binary_search_by.result c.requires facts.bound by_key
