use Rattle.std.proofs.Common.{rules}
use Rattle.std.proofs.lemmas.Fn.{always_returns_same}
use Rattle.value_model.specs.declared.key.Key.{Key}
use Rattle.value_model.specs.Order.{key_cmp}
use Rattle.value_model.specs.Search.{searched}
use Rattle.values.specs.Seen.{of_member}
use Rattle.derived_views.proofs.touched.place.Goals as goal

pub returns : goal.returns
returns c =
    let facts = c.binary_search_by.ensures in
    let by_key = facts.position (λ (x : Key). key_cmp (of_member x).0 c.args.key.now) (always_returns_same _ _ _ (λ a r g called. (search rules, search rules))) in
    searched of_member c.args.key.now c.args.keys.now c.binary_search_by.result c.requires facts.bound by_key
