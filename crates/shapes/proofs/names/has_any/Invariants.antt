use Rattle.std.proofs.Common.{◌≡◌, drop}
use Rattle.guards_views_spec.specs.Reading.{share_name}
use Rattle.guards_views_spec.specs.Shapes.{checks}
use Rattle.shapes.specs.Seen.{of_names}
use Rattle.shapes.proofs.names.has_any.Given as goal

abbrev pub invariant-loop-n : goal.invariant-loop-n
invariant-loop-n l = share_name (of_names (drop l.n-index l.names)) (checks (of_names l.others)) ≡ share_name (of_names l.names) (checks (of_names l.others))
