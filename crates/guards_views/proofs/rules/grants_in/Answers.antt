use Rattle.values.specs.Seen.{of_field}
use Rattle.guards_views_spec.specs.Reading.{named_grant}
use Rattle.guards_views.specs.Given.{of_grant}
use Rattle.guards_views.proofs.Ahead.{reads_step}
use Rattle.guards_views.proofs.rules.grants_in.Goals as goal

pub loop-f-preserved : goal.loop-f-preserved
loop-f-preserved c = rw c.in_ok-push-in-Ok.ensures.items (reads_step named_grant of_grant of_field c.args.members.now c.loop-f.f-index c.f-item.result c.loop-f.out.items c.in-Ok.grant _ c.loop-f-test.true c.f-item.is c.in-Ok.ensures c.loop-f.invariant)
