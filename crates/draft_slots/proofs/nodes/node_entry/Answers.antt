use Rattle.node_store.specs.Paged.{states}
use Rattle.numbered.specs.Store.{tree_at}
use Rattle.numbered.specs.Tree.{branches_of}
use Rattle.std.proofs.Common.{subst, sym, List, ◌≡◌}
use Rattle.std.specs.Prelude.{slice_get, Some}
use Rattle.value_model.specs.declared.key.Key.{Key}
use Rattle.draft_slots.specs.Nodes.{node_table}
use Rattle.draft_slots.proofs.NodesLaws.{entry_from, table_keys}
use Rattle.draft_slots.proofs.nodes.node_entry.Goals as goal

pub returns : goal.returns
returns c =
    let t = tree_at (states c.args.store.now) c.args.id in
    let key = subst (λ (ks : List Key). slice_get ks c.args.i ≡ Some c.in_ok-key.key) (sym (table_keys c.args.given (branches_of t))) c.in_ok-key.ensures in
    entry_from (node_table c.args.given t) c.args.i c.in_ok-key.key c.in_ok-value.value key c.in_ok-value.ensures
