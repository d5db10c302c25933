use Rattle.node_store.proofs.Again.{node_again}
use Rattle.node_store.proofs.laws.law_states_are_nodes.Goals as goal

pub returns : goal.returns
returns c ts id s n = node_again ts id s n
