use Rattle.std.proofs.Common.{◌≡◌, ◌+◌, ◌≤◌, ◌^◌, drop}
use Rattle.rules_examples.specs.Added.{added}
use Rattle.rules_examples.proofs.views.fits.Given as goal

abbrev pub invariant-loop-c : goal.invariant-loop-c
invariant-loop-c l = record {
  rest : l.sum + added (drop l.c-index l.changed) ≡ l.fn.before + added l.changed;
  small : l.sum ≤ 2 ^ 20;
}
