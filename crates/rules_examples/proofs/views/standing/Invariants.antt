use Rattle.derived_views.specs.Accepted.{ChangesAccepted}
use Rattle.rules_examples.proofs.views.standing.Given as goal

abbrev pub invariant-loop-key : goal.invariant-loop-key
invariant-loop-key l = ChangesAccepted l.changed.items
