use Rattle.node_store.specs.Paged.{states}
use Rattle.std.proofs.Common.{◌∙◌, arith}
use Rattle.run_heap.specs.declared.value.Rv.TheVariants.{Prim}
use Rattle.run_heap.specs.Operations.{listed, keys_of, rows_of, item}
use Rattle.draft_slots.specs.Looks.{looked}
use Rattle.draft_slots.proofs.LookFacts.{listed_at, listed_length, one_more, all_there}
use Rattle.draft_slots.proofs.look.Look.keys.Goals as goal

pub loop-i-preserved : goal.loop-i-preserved
loop-i-preserved c =
    let t = rows_of (looked (states c.args.store.now) c.args.self.now) in
    one_more c.loop-i.out.items (listed (keys_of t)) c.loop-i.i (item (Prim c.in_ok-key.key)) c.push.new.self.items (listed_at t c.loop-i.i c.in_ok-key.key c.in_ok-key.ensures) c.loop-i.invariant c.in_ok-push.ensures.items

pub returns : goal.returns
returns c =
    let t = rows_of (looked (states c.args.store.now) c.args.self.now) in
    let long = listed_length t in
    let count = c.count-count.ensures in
    let end = c.loop-i-test.false in
    c.from_vec.ensures ∙ all_there c.loop-i.out.items (listed (keys_of t)) c.loop-i.i (omega (arith, long, count, end)) c.loop-i.invariant
