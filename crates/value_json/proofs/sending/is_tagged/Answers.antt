use Rattle.std.proofs.Common.{arith}
use Rattle.std.proofs.lemmas.Grind.{common_steps}
use Rattle.value_json.proofs.Tags.{not_one}
use Rattle.value_json.proofs.sending.is_tagged.Goals as goal

pub returns-else-fields-eq1 : goal.returns-else-fields-eq1
returns-else-fields-eq1 c = rw (not_one c.args.fields.now c.if-fields-eq1.false) (grind (arith, common_steps))
