use Rattle.std.proofs.Common.{sym}
use Rattle.value_checks.proofs.Members.{members_reserved, members_well}
use Rattle.value_checks.proofs.keys.in_members.Goals as goal

pub returns-clause-reserved : goal.returns-clause-reserved
returns-clause-reserved c = sym (members_reserved c.args.members.now)

pub returns-clause-well : goal.returns-clause-well
returns-clause-well c = members_well c.args.members.now
