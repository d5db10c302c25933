use Rattle.std.proofs.Common.{◌≡◌, drop, map}
use Rattle.values.specs.Seen.{of_field, of_item}
use Rattle.guards_views_spec.specs.Reading as spec
use Rattle.guards_views.specs.Given.{of_grant}
use Rattle.guards_views.proofs.Ahead.{ahead}
use Rattle.guards_views.proofs.view_reading.rules_in.Given as goal

abbrev pub invariant-loop-v : goal.invariant-loop-v
invariant-loop-v l = ahead l.out.items (spec.all_read spec.grant_rule (map of_item (drop l.v-index l.items))) ≡ spec.all_read spec.grant_rule (map of_item l.items)
