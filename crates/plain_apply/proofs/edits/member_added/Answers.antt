use Rattle.std.proofs.Common.{map}
use Rattle.value_model.specs.Plain.{prim}
use Rattle.value_model.proofs.Tables.{put_ascends}
use Rattle.values.specs.Seen.{of_member}
use Rattle.plain_apply.proofs.edits.member_added.Goals as goal

pub returns-clause-sorted : goal.returns-clause-sorted
returns-clause-sorted c = rw c.in_ok-put_member.ensures (put_ascends c.in_ok-key.key (prim c.in_ok-key.key) (map of_member c.args.members.items) c.requires)
