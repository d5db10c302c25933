use Rattle.draft_core.proofs.Kept.{draft_is}
use Rattle.draft_core.proofs.scope.Scope.is_draft.Goals as goal

pub returns-in-Obj : goal.returns-in-Obj
returns-in-Obj c = λ ts st. draft_is ts c.args.self.now c.args.v.now c.in-Obj.object st c.in-Obj.is
