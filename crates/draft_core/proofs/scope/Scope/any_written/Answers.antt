use Rattle.std.proofs.Common.{◌∙◌}
use Rattle.draft_core.proofs.Marks.{any_marks}
use Rattle.draft_core.proofs.scope.Scope.any_written.Goals as goal

pub returns : goal.returns
returns c = λ ts st. c.any_marked.ensures.marks ∙ any_marks ts c.args.self.now st c.any_marked.ensures.found
