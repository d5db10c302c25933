use Rattle.node_store.specs.Paged.{states}
use Rattle.std.proofs.Common.{ap}
use Rattle.draft_core.proofs.Kept.{frozen_shown, frozen_number}
use Rattle.draft_core.specs.Tables.{own_table}
use Rattle.draft_core.proofs.scope.Scope.look.Goals as goal

pub returns-in-Frozen : goal.returns-in-Frozen
returns-in-Frozen c = (
  frozen_shown (states c.args.store.now) c.args.self.now c.args.of.now c.in-Frozen.id c.in-Frozen.is c.requires.owned,
  (c.requires.stands.store, frozen_number (states c.args.store.now) c.args.self.now c.args.of.now c.in-Frozen.id c.in-Frozen.is c.requires.owned, tt),
  ap (own_table c.args.self.now) c.in-Frozen.is,
)
