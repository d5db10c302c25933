use Rattle.node_store.specs.Paged.{states}
use Rattle.draft_core.proofs.Kept.{peek_is}
use Rattle.draft_core.proofs.scope.Scope.peek.Goals as goal

pub returns : goal.returns
returns c = peek_is (states c.args.store.now) c.args.self.now c.args.of.now c.in-Some.look c.args.i c.peek.result c.requires.stands c.requires.container c.in-Some.ensures.0 c.in-Some.ensures.1 c.in-Some.ensures.2 c.peek.ensures
