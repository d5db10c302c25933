use Rattle.node_store.specs.Paged.{states}
use Rattle.draft_core.proofs.Keeping.{splice_keeps}
use Rattle.draft_core.proofs.Kept.{object_owned}
use Rattle.draft_core.specs.Seen.{heap}
use Rattle.draft_core.proofs.scope.Scope.splice_at.Goals as goal

pub change-requires-clause-table : goal.change-requires-clause-table
change-requires-clause-table c =
    let h = heap (states c.args.store.now) c.args.self.now in
    splice_keeps h c.args.of.now c.args.from c.args.to c.args.items.now c.requires.stands.sound (object_owned h c.args.of.now c.requires.object) c.requires.list c.requires.stored
