use Rattle.std.proofs.Common.{◌≡◌, [], map, drop, Some, sym, subst, arith}
use Rattle.std.proofs.lemmas.List.{drop_all}
use Rattle.std.proofs.lemmas.Result.{on_ok_weaker}
use Rattle.serde.specs.Event.{Logs, seq_begins}
use Rattle.serde_json.specs.Events.{SendsItems}
use Rattle.serde_json.specs.View.{items_of}
use Rattle.value_json.proofs.Lengths.{mapped_len}
use Rattle.pointer_json.specs.Spelled.{spelled_data}
use Rattle.pointer_json.proofs.printing.send_list.Goals as goal

pub returns : goal.returns
returns g c =
    let all = c.args.list.now in
    let first = g.S.Serializer.written c.begin_seq.new.self in
    let end = g.S.Serializer.written c.end_seq.new.self in
    let begun = subst (λ n. Logs (g.S.Serializer.written c.args.out.now) first (seq_begins (Some n))) (mapped_len spelled_data all) c.in_ok-begin_seq.ensures in
    let none : drop c.loop-spelled.spelled-index all ≡ [] = drop_all c.loop-spelled.spelled-index all (omega arith) in
    on_ok_weaker c.end_seq.result (λ e. (first, begun, c.loop-spelled.invariant end (subst (λ ps. SendsItems (items_of (map spelled_data ps)) (g.S.Serializer.written c.loop-spelled.out) end) (sym none) e))) c.end_seq.ensures
