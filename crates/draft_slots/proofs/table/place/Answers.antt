use Rattle.std.proofs.Common.{rules, ◌∙◌}
use Rattle.std.proofs.lemmas.Fn.{always_returns_same}
use Rattle.value_model.specs.declared.key.Key.{Key}
use Rattle.value_model.specs.Order.{key_cmp}
use Rattle.value_model.specs.Search.{searched}
use Rattle.run_heap.specs.declared.value.Rv.{Rv}
use Rattle.draft_slots.specs.Tables.{keyed}
use Rattle.draft_slots.proofs.Tables.{sorted_keyed}
use Rattle.draft_slots.proofs.table.place.Goals as goal

pub returns : goal.returns
returns c =
    let facts = c.binary_search_by.ensures in
    let by_key = facts.position (λ (e : Key × Rv). key_cmp (keyed e).0 c.args.key.now) (always_returns_same _ _ _ (λ a r g called. (search rules, search rules))) in
    searched keyed c.args.key.now c.args.entries.now c.binary_search_by.result (sorted_keyed c.args.entries.now ∙ c.requires) facts.bound by_key
