use Rattle.node_store.specs.Paged.{states}
use Rattle.draft_core.specs.Seen.{Stands}
use Rattle.bench.proofs.drafts.read_all.Given as goal

abbrev pub invariant-loop-i : goal.invariant-loop-i
invariant-loop-i l = Stands (states l.store) l.scope
