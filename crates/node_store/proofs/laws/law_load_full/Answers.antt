use Rattle.numbered.proofs.Laws.{load_full_together, used_loaded}
use Rattle.node_store.proofs.laws.law_load_full.Goals as goal

pub returns-clause-full : goal.returns-clause-full
returns-clause-full c ts v a b = load_full_together ts v a b

pub returns-clause-weight : goal.returns-clause-weight
returns-clause-weight c next kind es = used_loaded next kind es
