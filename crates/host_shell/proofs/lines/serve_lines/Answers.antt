use Rattle.std.proofs.Common.{◌≡◌, ◌≤◌, ◌<◌, ◌+◌, ◌-◌, ◌++◌, [], refl, arith, rules, length, take, drop}
use Rattle.std.proofs.KnownBytes.{Consumes-nil, Consumes-trans}
use Rattle.std.proofs.lemmas.List.{length-append, length-drop, length-take-le}
use Rattle.host_shell.proofs.AtLaws.{at_start}
use Rattle.host_shell.proofs.CarriedLaws.{lines_carry}
use Rattle.host_shell.proofs.ServeLaws.{ran_unread, ran_overrun, ran_halted}
use Rattle.host_shell.proofs.lines.serve_lines.Goals as goal

pub loop-count-init : goal.loop-count-init
loop-count-init g c = record {
  got = [];
  given = Consumes-nil (g.C.Source.left c.args.commands.now);
  size = refl;
  at = at_start c.args.host.machine c.new-line.result (g.O.Sink.taken c.args.out.now) c.new-line.ensures.line;
  turns = omega (arith, c.new-line.ensures.size);
  total = omega arith;
  read = search rules;
  later = search rules;
}

pub returns-in-Err-clause-ends : goal.returns-in-Err-clause-ends
returns-in-Err-clause-ends g c =
    let so_far = c.loop-count.invariant in
    let left = g.C.Source.left in
    let taken = g.O.Sink.taken in
    ran_unread c.args.host.machine (left c.args.commands.now) (left c.loop-count.commands) (left c.read_piece.new.commands) (taken c.args.out.now) (taken c.loop-count.out) so_far.got c.loop-count.host.machine c.loop-count.line
    so_far.given c.in-Err.ensures.bytes (omega (arith, so_far.size, so_far.total)) so_far.at

pub returns-then-total-count-gt-MAX_STREAM-clause-ends : goal.returns-then-total-count-gt-MAX_STREAM-clause-ends
returns-then-total-count-gt-MAX_STREAM-clause-ends g c =
    let so_far = c.loop-count.invariant in
    let left = g.C.Source.left in
    let taken = g.O.Sink.taken in
    let piece = c.read_piece.new.piece in
    let n = c.in-Ok.count in
    let within : n ≤ length piece = omega (arith, c.in-Ok.ensures.bound, c.room_after.ensures.most) in
    let some : 0 < n = omega arith in
    let front : length (take (n - 1) piece) ≡ n - 1 = length-take-le (n - 1) piece (omega arith) in
    let all : length (take n piece) ≡ n = length-take-le n piece within in
    let near : length (take (n - 1) piece) + length (drop (n - 1) (take n piece)) ≤ 65536 = omega (arith, front, all, length-drop (n - 1) (take n piece), c.in-Ok.ensures.bound, c.room_after.ensures.most) in
    ran_overrun c.feed_last.result c.args.host.machine (left c.args.commands.now) (left c.loop-count.commands) (left c.read_piece.new.commands) (taken c.args.out.now) (taken c.feed_last.new.out) so_far.got piece n
    so_far.given c.in-Ok.ensures.bytes.0 some within (omega (arith, so_far.size, c.room_after.ensures.limit, c.in-Ok.ensures.bound)) c.feed_last.ensures.usage c.feed_last.ensures.read
    (c.feed_last.ensures.fed c.args.host.machine so_far.got (drop (n - 1) (take n piece)) (taken c.args.out.now) near so_far.at)

pub returns-in-Err-feed-clause-ends : goal.returns-in-Err-feed-clause-ends
returns-in-Err-feed-clause-ends g c =
    let so_far = c.loop-count.invariant in
    let left = g.C.Source.left in
    let taken = g.O.Sink.taken in
    let piece = c.read_piece.new.piece in
    let n = c.in-Ok.count in
    let within : n ≤ length piece = omega (arith, c.in-Ok.ensures.bound, c.room_after.ensures.most) in
    let all : length (take n piece) ≡ n = length-take-le n piece within in
    ran_halted c.in-Err-feed.status c.args.host.machine (left c.args.commands.now) (left c.loop-count.commands) (left c.read_piece.new.commands) (taken c.args.out.now) (taken c.feed.new.out) so_far.got (take n piece)
    (g.O.Sink.faults c.loop-count.out) (g.O.Sink.faults c.feed.new.out) so_far.given c.in-Ok.ensures.bytes.0 (omega (arith, so_far.size, all)) c.in-Err-feed.ensures.err
    (c.in-Err-feed.ensures.fed c.args.host.machine so_far.got [] (taken c.args.out.now) (omega (arith, all, c.in-Ok.ensures.bound, c.room_after.ensures.most)) so_far.at)

pub loop-count-preserved : goal.loop-count-preserved
loop-count-preserved g c =
    let so_far = c.loop-count.invariant in
    let left = g.C.Source.left in
    let taken = g.O.Sink.taken in
    let piece = c.read_piece.new.piece in
    let n = c.in-Ok.count in
    let within : n ≤ length piece = omega (arith, c.in-Ok.ensures.bound, c.room_after.ensures.most) in
    let all : length (take n piece) ≡ n = length-take-le n piece within in
    record {
      got = so_far.got ++ take n piece;
      given = Consumes-trans (left c.args.commands.now) (left c.loop-count.commands) (left c.read_piece.new.commands) so_far.got (take n piece) so_far.given c.in-Ok.ensures.bytes.0;
      size = omega (arith, length-append so_far.got (take n piece), so_far.size, all);
      at = c.in-Ok-feed.ensures.fed c.args.host.machine so_far.got [] (taken c.args.out.now) (omega (arith, all, c.in-Ok.ensures.bound, c.room_after.ensures.most)) so_far.at;
      turns = omega (arith, so_far.turns, c.in-Ok-feed.ensures.turns, all);
      total = omega arith;
      read = search rules;
      later = search rules;
    }

pub returns-in-Err-clause-patches : goal.returns-in-Err-clause-patches
returns-in-Err-clause-patches g c = lines_carry c.args.host.machine c.turns-sound.ensures.sound

pub returns-then-count-eq0-clause-patches : goal.returns-then-count-eq0-clause-patches
returns-then-count-eq0-clause-patches g c = lines_carry c.args.host.machine c.turns-sound.ensures.sound

pub returns-then-total-count-gt-MAX_STREAM-clause-patches : goal.returns-then-total-count-gt-MAX_STREAM-clause-patches
returns-then-total-count-gt-MAX_STREAM-clause-patches g c = lines_carry c.args.host.machine c.turns-sound.ensures.sound

pub returns-in-Err-feed-clause-patches : goal.returns-in-Err-feed-clause-patches
returns-in-Err-feed-clause-patches g c = lines_carry c.args.host.machine c.turns-sound.ensures.sound
