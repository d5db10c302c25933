use Rattle.std.proofs.Common.{◌≡◌, ◌≤◌, ◌+◌, ◌*◌, ◌++◌, List, ℕ, Option, length}
use Rattle.host_machine.specs.Machine.{Machine}
use Rattle.host_shell.specs.At.{IsAt}
use Rattle.host_shell.proofs.lines.feed.Given as goal

abbrev pub invariant-loop-at : goal.invariant-loop-at
invariant-loop-at g l = record {
  seen : List ℕ;
  joined : seen ++ l.rest ≡ l.piece;
  at : (first : Machine) (got : List ℕ) (before : Option (List ℕ)) → IsAt first got l.fn.host.machine l.initial.line before (g.O.Sink.taken l.initial.out) → IsAt first (got ++ seen) l.host.machine l.line before (g.O.Sink.taken l.out);
  turns : 2 * l.host.turns + l.line.size + length l.rest ≤ 2 * l.fn.host.turns + l.initial.line.size + length l.piece;
  later : g.O.Sink.faults l.initial.out ≤ g.O.Sink.faults l.out;
}

abbrev pub decreases-loop-at : goal.decreases-loop-at
decreases-loop-at g l = length l.rest
