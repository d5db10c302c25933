use Rattle.node_store.specs.Paged.{states}
use Rattle.std.proofs.Common.{◌∙◌, arith}
use Rattle.numbered.specs.Store.{tree_at}
use Rattle.numbered.specs.Tree.{branches_of}
use Rattle.draft_slots.proofs.LookFacts.{one_more, all_there}
use Rattle.draft_slots.specs.Nodes.{node_table}
use Rattle.draft_slots.proofs.NodesLaws.{table_length}
use Rattle.draft_slots.proofs.nodes.node_entries.Goals as goal

pub loop-i-preserved : goal.loop-i-preserved
loop-i-preserved c = one_more c.loop-i.entries.items (node_table c.args.given (tree_at (states c.args.store.now) c.args.id)) c.loop-i.i c.in_ok-node_entry.field-0 c.push.new.self.items c.in_ok-node_entry.ensures c.loop-i.invariant c.in_ok-push.ensures.items

pub returns : goal.returns
returns c =
    let t = tree_at (states c.args.store.now) c.args.id in
    let long = table_length c.args.given (branches_of t) in
    let count = c.count-count.ensures in
    let end = c.loop-i-test.false in
    c.from_vec.ensures ∙ all_there c.loop-i.entries.items (node_table c.args.given t) c.loop-i.i (omega (arith, long, count, end)) c.loop-i.invariant
