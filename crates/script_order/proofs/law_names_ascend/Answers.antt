use Rattle.script_order.proofs.Reducers.{names_ascend}
use Rattle.script_order.proofs.law_names_ascend.Goals as goal

pub returns : goal.returns
returns c = names_ascend
