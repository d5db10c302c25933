use Rattle.std.proofs.Common.{rules, ◌∙◌}
use Rattle.derived_views.proofs.Entries.{same_sorted}
use Rattle.std.proofs.lemmas.Fn.{always_returns_same}
use Rattle.value_model.specs.Order.{key_cmp}
use Rattle.value_model.specs.Search.{searched}
use Rattle.derived_views.specs.Seen.{placed}
use Rattle.derived_views.specs.declared.weights.Weight.{Weight}
use Rattle.derived_views.proofs.weights.place.Goals as goal

pub returns : goal.returns
returns c =
    let facts = c.binary_search_by.ensures in
    let by_key = facts.position (λ (x : Weight). key_cmp (placed x).0 c.args.key.now) (always_returns_same _ _ _ (λ a r g called. (search rules, search rules))) in
    searched placed c.args.key.now c.args.entries.now c.binary_search_by.result (same_sorted c.args.entries.now ∙ c.requires) facts.bound by_key
