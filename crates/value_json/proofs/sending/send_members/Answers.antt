use Rattle.std.proofs.Common.{◌≡◌, [], drop, Some, sym, subst, arith}
use Rattle.std.proofs.lemmas.List.{drop_all}
use Rattle.std.proofs.lemmas.Result.{on_ok_weaker}
use Rattle.serde.specs.Event.{Logs, seq_begins}
use Rattle.serde_json.specs.Events.{SendsItems}
use Rattle.value_json.proofs.Lengths.{keys_len}
use Rattle.value_json_spec.specs.Printing.{keys_data}
use Rattle.values.specs.Seen.{of_members}
use Rattle.value_json.proofs.sending.send_members.Goals as goal

pub returns-clause-json : goal.returns-clause-json
returns-clause-json g c =
    let all = c.args.members.now in
    let first = g.S.Serializer.written c.begin_seq.new.self in
    let end = g.S.Serializer.written c.end_seq.new.self in
    let begun = subst (λ n. Logs (g.S.Serializer.written c.args.out.now) first (seq_begins (Some n))) (keys_len all) c.in_ok-begin_seq.ensures in
    let none : drop c.loop-k.k-index all ≡ [] = drop_all c.loop-k.k-index all (omega arith) in
    on_ok_weaker c.end_seq.result (λ e. (first, begun, c.loop-k.invariant.json end (subst (λ ks. SendsItems (keys_data (of_members ks)) (g.S.Serializer.written c.loop-k.out) end) (sym none) e))) c.end_seq.ensures
