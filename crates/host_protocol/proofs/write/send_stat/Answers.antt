use Rattle.std.proofs.Common.{subst}
use Rattle.std.proofs.lemmas.Result.{on_ok_weaker}
use Rattle.serde.specs.Event.{Logs, text}
use Rattle.host_protocol.proofs.write.send_stat.Goals as goal

pub returns : goal.returns
returns g c =
    let nodes = c.in_ok-member.ensures in
    let ok = c.in_ok-member-2.ensures in
    let said = subst (λ s. Logs ok.0 (g.S.Serializer.written c.member-2.new.out) (text s)) c.name.ensures ok.2 in
    let redo = c.in_ok-member-3.ensures in
    let seq = c.in_ok-member-4.ensures in
    let sessions = c.in_ok-member-5.ensures in
    let undo = c.in_ok-member-6.ensures in
    let used = c.in_ok-member-7.ensures in
    on_ok_weaker c.end_map.result (λ end. (_, c.in_ok-begin_map.ensures, (nodes.0, _, nodes.1, nodes.2, (ok.0, _, ok.1, said, (redo.0, _, redo.1, redo.2, (seq.0, _, seq.1, seq.2, (sessions.0, _, sessions.1, sessions.2, (undo.0, _, undo.1, undo.2, (used.0, _, used.1, used.2, end))))))))) c.end_map.ensures
