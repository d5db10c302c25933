use Rattle.node_store.specs.Paged.{states}
use Rattle.std.proofs.Common.{◌∙◌, sym, ap}
use Rattle.std.specs.Prelude.{is_some}
use Rattle.run_heap.specs.Operations.{table_of}
use Rattle.draft_core.specs.Seen.{heap}
use Rattle.draft_map_set.proofs.Facts.{has_position}
use Rattle.draft_map_set.proofs.entries.has.Goals as goal

pub returns-in-Some : goal.returns-in-Some
returns-in-Some c = sym (has_position c.args.key.now (table_of (heap (states c.args.store.now) c.args.scope.now) c.args.of.now) ∙ ap is_some (sym c.in-Some.ensures))

pub returns-in-None : goal.returns-in-None
returns-in-None c = sym (has_position c.args.key.now (table_of (heap (states c.args.store.now) c.args.scope.now) c.args.of.now) ∙ ap is_some (sym c.in-None.ensures))
