use Rattle.std.proofs.Common.{◌≡◌, drop, map}
use Rattle.values.specs.Seen.{of_field, of_item}
use Rattle.guards_views_spec.specs.Reading as spec
use Rattle.guards_views.specs.Given.{of_grant}
use Rattle.guards_views.proofs.Ahead.{ahead}
use Rattle.guards_views.proofs.rules.views_in.Given as goal

abbrev pub invariant-loop-f : goal.invariant-loop-f
invariant-loop-f l = ahead l.out.items (spec.all_read spec.view_rule (map of_field (drop l.f-index l.members))) ≡ spec.all_read spec.view_rule (map of_field l.members)
