use Rattle.draft_laws.proofs.PathLaws.{each_container}
use Rattle.draft_laws.proofs.reads.law_each_container.Goals as goal

pub returns : goal.returns
returns c h path t s e n = each_container h path t e n
