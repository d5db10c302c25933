use Rattle.value_model.proofs.Tables.{find_put_same, find_put_other}
use Rattle.value_model.proofs.laws.law_set_key.Goals as goal

pub returns-clause-here : goal.returns-clause-here
returns-clause-here c k w es = find_put_same k w es

pub returns-clause-others : goal.returns-clause-others
returns-clause-others c j k w es other = find_put_other j k w es other
