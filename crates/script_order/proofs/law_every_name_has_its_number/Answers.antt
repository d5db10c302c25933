use Rattle.script_order.proofs.Reducers.{names_numbered}
use Rattle.script_order.proofs.law_every_name_has_its_number.Goals as goal

pub returns : goal.returns
returns c = names_numbered
