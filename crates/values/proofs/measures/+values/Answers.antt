use Rattle.std.proofs.Common.{arith}
use Rattle.std.proofs.lemmas.Grind.{common_steps}
use Rattle.value_model.proofs.Steps.{values_members}
use Rattle.values.proofs.measures.+values.Goals as goal

pub values-returns-in-Set : goal.values-returns-in-Set
values-returns-in-Set t c = grind (arith, common_steps, values_members c.in-Set.members.items)
