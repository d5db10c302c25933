use Rattle.std.proofs.Common.{rules}
use Rattle.std.proofs.lemmas.Fn.{always_returns_same}
use Rattle.value_model.specs.Order.{key_cmp}
use Rattle.value_model.specs.declared.key.Key.TheVariants as key
use Rattle.value_model.specs.Search.{searched}
use Rattle.shapes.specs.Seen.{placed}
use Rattle.shapes.specs.declared.shape.Named.{Named}
use Rattle.shapes.proofs.names.place.Goals as goal

pub returns : goal.returns
returns c =
    let facts = c.binary_search_by.ensures in
    let by_key = facts.position (λ (x : Named). key_cmp (placed x).0 (key.Text c.args.name.now)) (always_returns_same _ _ _ (λ a r g called. (search rules, search rules))) in
    searched placed (key.Text c.args.name.now) c.args.names.now c.binary_search_by.result c.requires facts.bound by_key
