use Rattle.node_store.specs.Paged.{states}
use Rattle.draft_core.proofs.FreshLaws.{keys_literal}
use Rattle.draft_core.specs.Seen.{heap}
use Rattle.draft_core.proofs.scope.Scope.keys.Goals as goal

pub make-requires : goal.make-requires
make-requires c = keys_literal (heap (states c.args.store.now) c.args.self.now) c.args.of.now c.in_ok-table.table c.in_ok-table.ensures
