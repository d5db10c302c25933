use Rattle.std.proofs.Common.{◌≡◌, ◌≤◌, ◌+◌, ◌*◌, ◌-◌, ◌^◌, List, ℕ, length}
use Rattle.std.specs.Io.KnownBytes.{Consumes}
use Rattle.host_shell.specs.At.{IsAt}
use Rattle.host_shell.proofs.lines.serve_lines.Given as goal

abbrev pub invariant-loop-count : goal.invariant-loop-count
invariant-loop-count g l = record {
  got : List ℕ;
  given : Consumes (g.C.Source.left l.initial.commands) (g.C.Source.left l.commands) got;
  size : length got ≡ l.total;
  at : IsAt l.fn.host.machine got l.host.machine l.line (g.O.Sink.taken l.initial.out) (g.O.Sink.taken l.out);
  turns : 2 * l.host.turns + l.line.size ≤ 2 * l.fn.host.turns + l.total;
  total : l.total ≤ 2 ^ 48;
  read : g.C.Source.faults l.initial.commands ≤ g.C.Source.faults l.commands;
  later : g.O.Sink.faults l.initial.out ≤ g.O.Sink.faults l.out;
}

abbrev pub decreases-loop-count : goal.decreases-loop-count
decreases-loop-count g l = 2 ^ 48 + 1 - l.total
