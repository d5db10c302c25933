use Rattle.std.proofs.Common.{sym, ◌∙◌}
use Rattle.numbered.specs.Store.{tree_at}
use Rattle.numbered.proofs.Laws.{first_place}
use Rattle.node_store.specs.Paged.{states}
use Rattle.node_store.proofs.store.Store.locate.Goals as goal

pub returns-clause-place : goal.returns-clause-place
returns-clause-place c = sym c.loop-left.invariant.place ∙ first_place c.loop-left.left (tree_at (states c.args.self.now) c.loop-left.id) c.loop-left-test.false c.loop-left.invariant.inside
