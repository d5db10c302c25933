use Rattle.node_store.specs.Paged.{states}
use Rattle.numbered.specs.Store.{tree_at}
use Rattle.node_store.specs.Nodes.{keys_of}
use Rattle.draft_slots.specs.Nodes.{node_table}
use Rattle.draft_slots.proofs.NodesLaws.{keyed_keys, sorted_node, position_match}
use Rattle.draft_slots.proofs.nodes.node_position.Goals as goal

pub returns : goal.returns
returns c =
    let ts = (states c.args.store.now) in
    let t = tree_at ts c.args.id in
    position_match c.args.key.now (node_table c.args.given t) (keys_of t) c.find.result (keyed_keys c.args.given t c.requires.keyed) (sorted_node ts c.args.id c.args.given c.requires.store c.requires.number c.requires.keyed) c.find.ensures
