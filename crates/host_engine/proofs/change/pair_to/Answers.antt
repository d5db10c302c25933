use Rattle.node_store.specs.Paged.{states}
use Rattle.std.proofs.Common.{◌∙◌, ap, List, map}
use Rattle.std.specs.FinMap.Entries.{is_sorted}
use Rattle.value_model.specs.Order.{key_cmp}
use Rattle.numbered.specs.Laws.{well_at}
use Rattle.numbered.specs.Store.{tree_at}
use Rattle.host_engine.specs.Kept.{of_field}
use Rattle.host_engine.specs.declared.fields.Field.{Field}
use Rattle.host_engine.proofs.FieldLaws.{table_sorted}
use Rattle.host_engine.proofs.change.pair_to.Goals as goal

pub pair_of-requires-clause-old_sorted : goal.pair_of-requires-clause-old_sorted
pair_of-requires-clause-old_sorted c =
    let ts = (states c.args.store.now) in
    let root = c.args.root in
    ap (λ (fs : List Field). is_sorted key_cmp (map of_field fs)) c.deref-2.ensures.value ∙ ap (is_sorted key_cmp) c.in_ok-old.ensures
    ∙ table_sorted (tree_at ts root) c.requires.state.flat (well_at ts root c.len-in_order.ensures.store c.requires.state.inside)
