use Rattle.std.proofs.Common.{◌≡◌, ◌<◌, drop, length}
use Rattle.std.specs.Prelude.{IfSome}
use Rattle.plain_apply.specs.Last.{later, last_from}
use Rattle.plain_apply.proofs.apply.last_root.Given as goal

abbrev pub invariant-loop-i : goal.invariant-loop-i
invariant-loop-i l = record {
  last : later (last_from l.i (drop l.i l.list)) l.last ≡ last_from 0 l.list;
  within : IfSome l.last (λ k. k < length l.list);
}
