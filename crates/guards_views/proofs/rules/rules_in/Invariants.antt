use Rattle.std.proofs.Common.{◌≡◌, drop, map}
use Rattle.values.specs.Seen.{of_field}
use Rattle.guards_views_spec.specs.Reading as spec
use Rattle.guards_views.specs.Ruling.{ruled}
use Rattle.guards_views.proofs.rules.rules_in.Given as goal

abbrev pub invariant-loop-f : goal.invariant-loop-f
invariant-loop-f l = spec.with_members (ruled l.rules) (map of_field (drop l.f-index l.members)) ≡ spec.with_members spec.no_rules (map of_field l.members)
