use Rattle.std.proofs.Common.{◌≡◌, drop, map}
use Rattle.values.specs.Seen.{of_field, of_item}
use Rattle.guards_views_spec.specs.Reading as spec
use Rattle.guards_views.specs.Given.{of_grant}
use Rattle.guards_views.proofs.Ahead.{ahead}
use Rattle.guards_views.proofs.rules.grants_in.Given as goal

abbrev pub invariant-loop-f : goal.invariant-loop-f
invariant-loop-f l = ahead (map of_grant l.out.items) (spec.all_read spec.named_grant (map of_field (drop l.f-index l.members))) ≡ spec.all_read spec.named_grant (map of_field l.members)
