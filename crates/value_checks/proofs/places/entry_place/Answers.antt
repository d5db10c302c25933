use Rattle.std.proofs.Common.{rules}
use Rattle.std.proofs.lemmas.Fn.{always_returns_same}
use Rattle.value_model.specs.Order.{key_cmp}
use Rattle.value_model.specs.Search.{searched}
use Rattle.values.specs.Seen.{of_entry}
use Rattle.values.specs.declared.val.Entry.{Entry}
use Rattle.value_checks.proofs.places.entry_place.Goals as goal

pub returns : goal.returns
returns c =
    let facts = c.binary_search_by.ensures in
    let by_key = facts.position (λ (x : Entry). key_cmp (of_entry x).0 c.args.key.now) (always_returns_same _ _ _ (λ a r g called. (search rules, search rules))) in
    searched of_entry c.args.key.now c.args.entries.now c.binary_search_by.result c.requires facts.bound by_key
