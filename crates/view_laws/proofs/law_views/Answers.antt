use Rattle.std.proofs.Common.{ap}
use Rattle.guards_views_spec.specs.Views.{total}
use Rattle.view_laws.proofs.ViewLaws.{view_kept}
use Rattle.view_laws.proofs.law_views.Goals as goal

pub returns-clause-weights : goal.returns-clause-weights
returns-clause-weights c path w patches old new keys s = view_kept path w patches old new keys s

pub returns-clause-sum : goal.returns-clause-sum
returns-clause-sum c path w patches old new keys s = ap total (view_kept path w patches old new keys s)
