use Rattle.draft_core.proofs.Kept.{owns_object}
use Rattle.draft_core.proofs.scope.Scope.owns.Goals as goal

pub returns-in-Obj : goal.returns-in-Obj
returns-in-Obj c = λ ts. owns_object ts c.args.self.now c.args.v.now c.in-Obj.object c.in-Obj.is
