use Rattle.numbered.proofs.Laws.{numbered_state, of_number}
use Rattle.numbered.specs.Store.{tree_at}
use Rattle.node_store.proofs.laws.law_numbered_states.Goals as goal

pub returns : goal.returns
returns c ts id s n = numbered_state ts (tree_at ts id) s (of_number ts id s n)
