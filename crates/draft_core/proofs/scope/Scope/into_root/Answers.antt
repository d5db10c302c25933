use Rattle.std.proofs.Common.{sym}
use Rattle.draft_core.proofs.Ended.{root_left}
use Rattle.draft_core.proofs.scope.Scope.into_root.Goals as goal

pub returns : goal.returns
returns c = root_left c.args.self c.remove.result (sym c.remove.ensures.value)
