use Rattle.std.proofs.Common.{◌+◌, ◌<◌, length, arith}
use Rattle.numbered.specs.Store.{tree_at}
use Rattle.node_store.proofs.Shown.{past_entry}
use Rattle.node_store.specs.Nodes.{cells_of}
use Rattle.node_store.specs.Paged.{states}
use Rattle.node_store.proofs.store.Store.entry_at.Goals as goal

pub overflow_add-i : goal.overflow_add-i
overflow_add-i c =
    let t = tree_at (states c.args.self.now) c.args.id in
    let more : c.loop-end.i + 1 < length (cells_of t) = past_entry t (c.loop-end.i + 1) c.args.n (let e = c.loop-end.invariant.end in let p = c.loop-end-test.true in omega (arith, e, p)) c.requires.inside in
    let count = c.held-held.ensures.held.count in
    let few = c.held-held.ensures.held.small_count in
    omega (arith, more, count, few)

pub places_at-end-requires-clause-in_range : goal.places_at-end-requires-clause-in_range
places_at-end-requires-clause-in_range c =
    let t = tree_at (states c.args.self.now) c.args.id in
    past_entry t (c.loop-end.i + 1) c.args.n (let e = c.loop-end.invariant.end in let p = c.loop-end-test.true in omega (arith, e, p)) c.requires.inside

pub loop-end-preserved : goal.loop-end-preserved
loop-end-preserved c =
    let t = tree_at (states c.args.self.now) c.args.id in
    let e = c.loop-end.invariant.end in
    let p = c.loop-end-test.true in
    let more : c.loop-end.i + 1 < length (cells_of t) = past_entry t (c.loop-end.i + 1) c.args.n (omega (arith, e, p)) c.requires.inside in
    let step = c.places_at-end.ensures.more in
    record {
      in_range = more;
      from = omega (arith, e, p);
      end = omega (arith, e, step);
    }
