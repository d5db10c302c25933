use Rattle.patch_journal.proofs.Packs.{can_record}
use Rattle.patch_journal.proofs.pack.put_body.Goals as goal

pub returns-in_ok-put_pair-in-Made-clause-can : goal.returns-in_ok-put_pair-in-Made-clause-can
returns-in_ok-put_pair-in-Made-clause-can c = can_record c.args.format c.args.change.now c.in-Made.pair c.in-Made.by c.in-Made.is c.requires c.in_ok-put_pair-in-Made.ensures.can
