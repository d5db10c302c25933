use Rattle.node_store.specs.Paged.{states}
use Rattle.std.proofs.Common.{sym}
use Rattle.draft_slots.proofs.NodesLaws.{null_key}
use Rattle.draft_slots.proofs.nodes.copy_key.Goals as goal

pub returns-in-List : goal.returns-in-List
returns-in-List c = null_key (states c.args.store.now) c.args.id c.args.i c.requires.store c.requires.number (sym c.in-List.ensures) c.requires.in_range
