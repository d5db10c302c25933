use Rattle.numbered.proofs.Laws.{plain_numbered, numbers_follow}
use Rattle.node_store.proofs.laws.law_loading.Goals as goal

pub returns-clause-value : goal.returns-clause-value
returns-clause-value c next v = plain_numbered next v

pub returns-clause-numbers : goal.returns-clause-numbers
returns-clause-numbers c next v = numbers_follow next v
