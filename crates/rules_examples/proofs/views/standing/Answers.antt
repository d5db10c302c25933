use Rattle.std.proofs.Common.{subst, sym}
use Rattle.derived_views.specs.Accepted.{ChangesAccepted}
use Rattle.rules_examples.proofs.Sums.{accepted_push}
use Rattle.rules_examples.proofs.views.standing.Goals as goal

pub loop-key-preserved : goal.loop-key-preserved
loop-key-preserved c = subst ChangesAccepted (sym c.in_ok-push.ensures.items) (accepted_push c.loop-key.changed.items (c.in_ok-copy.field-0, c.in_ok-value.value) c.loop-key.invariant c.in_ok-value.ensures)
