use Rattle.std.proofs.Common.{◌++◌, [], ◌+◌, drop, length, arith, rules, ap, ◌≡◌}
use Rattle.host_shell.proofs.AtLaws.{at_chunk, halted_memory}
use Rattle.host_shell.proofs.FeedLaws.{line_of, joined_line, lf_length, near_rest, at_seen, at_all, halted_all, halted_rest}
use Rattle.host_shell.specs.declared.status.Status.TheVariants as status
use Rattle.host_shell.proofs.lines.feed.Goals as goal

pub loop-at-preserved : goal.loop-at-preserved
loop-at-preserved g c =
    let so_far = c.loop-at.invariant in
    let rest = c.loop-at.rest.now in
    let i = c.in-Some.at in
    let shorter : length c.skip-rest.result.now ≡ length (drop (i + 1) rest) = ap length c.skip-rest.ensures in
    record {
      seen = so_far.seen ++ line_of i rest;
      joined = rw c.skip-rest.ensures (joined_line so_far.seen rest c.args.piece.now i so_far.joined c.in-Some.ensures);
      at = λ first got before h. at_seen first got so_far.seen (line_of i rest) c.in-Ok.host.machine c.end_line.new.line before (g.O.Sink.taken c.end_line.new.out)
          (c.in-Ok.ensures.ended first (got ++ so_far.seen) [] before (omega arith) (so_far.at first got before h));
      turns = omega (arith, so_far.turns, lf_length rest i c.in-Some.ensures, c.in-Ok.ensures.turns, shorter);
      later = search rules;
    }

pub returns-in-Err-clause-fed : goal.returns-in-Err-clause-fed
returns-in-Err-clause-fed g c = λ first got more before near h left.
    let so_far = c.loop-at.invariant in
    let rest = c.loop-at.rest.now in
    let i = c.in-Some.at in
    halted_all first left got so_far.seen (line_of i rest) (drop (i + 1) rest) c.args.piece.now more c.in-Err.status before (g.O.Sink.taken c.end_line.new.out)
    (joined_line so_far.seen rest c.args.piece.now i so_far.joined c.in-Some.ensures)
    (c.in-Err.ensures.ended first (got ++ so_far.seen) (drop (i + 1) rest ++ more) before (near_rest so_far.seen rest c.args.piece.now more i so_far.joined c.in-Some.ensures near) (so_far.at first got before h) left)

pub returns-in-Ok-extend-clause-fed : goal.returns-in-Ok-extend-clause-fed
returns-in-Ok-extend-clause-fed g c = λ first got more before near h.
    let so_far = c.loop-at.invariant in
    let rest = c.loop-at.rest.now in
    let taken = g.O.Sink.taken c.loop-at.out in
    at_all first got so_far.seen rest c.args.piece.now c.loop-at.host.machine c.extend.new.self before taken so_far.joined
    (at_chunk first (got ++ so_far.seen) rest c.loop-at.host.machine c.loop-at.line c.extend.new.self before taken (so_far.at first got before h) c.in-None.ensures c.in-Ok-extend.ensures.line)

pub returns-in-Err-extend-clause-fed : goal.returns-in-Err-extend-clause-fed
returns-in-Err-extend-clause-fed g c = λ first got more before near h left.
    let so_far = c.loop-at.invariant in
    let rest = c.loop-at.rest.now in
    let taken = g.O.Sink.taken c.loop-at.out in
    halted_rest first left got so_far.seen rest c.args.piece.now more status.Memory before taken so_far.joined
    (halted_memory first left (got ++ so_far.seen) (rest ++ more) c.loop-at.host.machine c.loop-at.line before taken (so_far.at first got before h))
