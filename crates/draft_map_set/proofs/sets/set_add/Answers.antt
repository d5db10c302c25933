use Rattle.node_store.specs.Paged.{states}
use Rattle.draft_core.specs.Seen.{heap}
use Rattle.draft_map_set.proofs.Facts.{member_stands}
use Rattle.draft_map_set.proofs.sets.set_add.Goals as goal

pub set_key-requires-clause-stored : goal.set_key-requires-clause-stored
set_key-requires-clause-stored c = (tt, member_stands (heap (states c.args.store.now) c.args.scope.now) c.args.of.now c.args.member.now c.in_ok-copy-in-Prim.field-0 c.in-Prim.key c.in_ok-check_adding.ensures c.in-Prim.is c.in_ok-copy-in-Prim.ensures)
