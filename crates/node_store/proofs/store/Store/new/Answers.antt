use Rattle.std.proofs.Common.{ap, List, []}
use Rattle.node_store.specs.declared.held.Held.{Held}
use Rattle.node_store.specs.Kept.{listed}
use Rattle.node_store.specs.Paged.{states, standing}
use Rattle.node_store.proofs.store.Store.new.Goals as goal

pub returns-clause-states : goal.returns-clause-states
unfolding states
returns-clause-states c = ap (λ (hs : List Held). standing c.new.result [] (listed hs)) c.new-2.ensures.items
