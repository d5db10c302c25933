use Rattle.draft_laws.proofs.WriteLaws.{edit_written}
use Rattle.draft_laws.proofs.writes.law_accepted_writes.Goals as goal

pub returns-clause-written : goal.returns-clause-written
returns-clause-written c e h g of vs q = edit_written e h g tt of vs q
