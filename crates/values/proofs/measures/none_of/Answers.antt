use Rattle.std.proofs.Common.{sym}
use Rattle.value_model.proofs.Steps.{deepest_members}
use Rattle.values.proofs.measures.none_of.Goals as goal

pub returns : goal.returns
returns c = sym (deepest_members c.args.members.now)
