use Rattle.std.proofs.Common.{◌≡◌, drop}
use Rattle.guards_views_spec.specs.Grants as spec
use Rattle.guards_views.proofs.grants.verdict_in.Given as goal

abbrev pub invariant-loop-r : goal.invariant-loop-r
invariant-loop-r l = spec.verdict (drop l.r-index l.rules) l.place ≡ spec.verdict l.rules l.place
