use Rattle.value_model.proofs.Tables.{find_without_same, find_without_other}
use Rattle.value_model.proofs.laws.law_unset_key.Goals as goal

pub returns-clause-here : goal.returns-clause-here
returns-clause-here c k es = find_without_same k es

pub returns-clause-others : goal.returns-clause-others
returns-clause-others c j k es other = find_without_other j k es other
