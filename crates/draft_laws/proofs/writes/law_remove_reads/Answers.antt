use Rattle.draft_laws.proofs.ReadBackLaws.{remove_reads, remove_leaves}
use Rattle.draft_laws.proofs.writes.law_remove_reads.Goals as goal

pub returns-clause-here : goal.returns-clause-here
returns-clause-here c k h g of q = remove_reads k h g of tt q

pub returns-clause-others : goal.returns-clause-others
returns-clause-others c j k h g of q n = remove_leaves j k h g of tt q n
