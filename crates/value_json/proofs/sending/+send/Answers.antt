use Rattle.std.proofs.Common.{◌≡◌, [], drop, Some, sym, subst, arith}
use Rattle.std.proofs.lemmas.List.{drop_all}
use Rattle.std.proofs.lemmas.Result.{on_ok_weaker}
use Rattle.serde.specs.Event.{Logs, seq_begins, map_begins}
use Rattle.serde_json.specs.Events.{SendsItems, SendsMembers}
use Rattle.value_json.proofs.Lengths.{fields_len, elements_len, pairs_len}
use Rattle.value_json_spec.specs.Printing.{fields_data, elements_data, pairs_data}
use Rattle.values.specs.Seen.{of_fields, of_entries, of_items}
use Rattle.value_json.proofs.sending.+send.Goals as goal

pub send_fields-returns-clause-json : goal.send_fields-returns-clause-json
send_fields-returns-clause-json g t c =
    let all = c.args.fields.now in
    let first = g.S.Serializer.written c.begin_map.new.self in
    let end = g.S.Serializer.written c.end_map.new.self in
    let begun = subst (λ n. Logs (g.S.Serializer.written c.args.out.now) first (map_begins (Some n))) (fields_len all) c.in_ok-begin_map.ensures in
    let none : drop c.loop-f.f-index all ≡ [] = drop_all c.loop-f.f-index all (omega arith) in
    on_ok_weaker c.end_map.result (λ e. (first, begun, c.loop-f.invariant.json end (subst (λ fs. SendsMembers (fields_data (of_fields fs)) (g.S.Serializer.written c.loop-f.out) end) (sym none) e))) c.end_map.ensures

pub send_items-returns-clause-json : goal.send_items-returns-clause-json
send_items-returns-clause-json g t c =
    let all = c.args.items.now in
    let first = g.S.Serializer.written c.begin_seq.new.self in
    let end = g.S.Serializer.written c.end_seq.new.self in
    let begun = subst (λ n. Logs (g.S.Serializer.written c.args.out.now) first (seq_begins (Some n))) (elements_len all) c.in_ok-begin_seq.ensures in
    let none : drop c.loop-v.v-index all ≡ [] = drop_all c.loop-v.v-index all (omega arith) in
    on_ok_weaker c.end_seq.result (λ e. (first, begun, c.loop-v.invariant.json end (subst (λ vs. SendsItems (elements_data (of_items vs)) (g.S.Serializer.written c.loop-v.out) end) (sym none) e))) c.end_seq.ensures

pub send_pairs-returns-clause-json : goal.send_pairs-returns-clause-json
send_pairs-returns-clause-json g t c =
    let all = c.args.entries.now in
    let first = g.S.Serializer.written c.begin_seq.new.self in
    let end = g.S.Serializer.written c.end_seq.new.self in
    let begun = subst (λ n. Logs (g.S.Serializer.written c.args.out.now) first (seq_begins (Some n))) (pairs_len all) c.in_ok-begin_seq.ensures in
    let none : drop c.loop-e.e-index all ≡ [] = drop_all c.loop-e.e-index all (omega arith) in
    on_ok_weaker c.end_seq.result (λ e. (first, begun, c.loop-e.invariant.json end (subst (λ es. SendsItems (pairs_data (of_entries es)) (g.S.Serializer.written c.loop-e.out) end) (sym none) e))) c.end_seq.ensures
