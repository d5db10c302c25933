use Rattle.draft_laws.proofs.ReadBackLaws.{put_reads, put_leaves}
use Rattle.draft_laws.proofs.writes.law_put_reads.Goals as goal

pub returns-clause-here : goal.returns-clause-here
returns-clause-here c k v h g of q = put_reads k v h g of tt q

pub returns-clause-others : goal.returns-clause-others
returns-clause-others c j k v h g of q n = put_leaves j k v h g of tt q n
