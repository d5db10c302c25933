use Rattle.std.proofs.Common.{◌+◌, ◌-◌, ◌/◌, ◌∙◌, sym, arith}
use Rattle.numbered.specs.Store.{tree_at}
use Rattle.node_store.specs.Nodes.{keys_of}
use Rattle.node_store.specs.Paged.{states}
use Rattle.node_store.proofs.Ordered.{state_ascends, low_at, high_at, found_at, absent, keys_count, none_past}
use Rattle.node_store.proofs.store.Store.search.Goals as goal

pub loop-low-init : goal.loop-low-init
loop-low-init c =
    let t = tree_at (states c.args.self.now) c.args.id in
    let size = c.size-high.ensures.cells in
    let count = keys_count t in
    record {
      in_range = omega (arith, size);
      below = λ j a l g. absurd (omega (arith, l));
      above = λ j a l g. absurd (none_past (keys_of t) j a (omega (arith, l, size, count)) g);
    }

pub returns-in-Equal : goal.returns-in-Equal
returns-in-Equal c =
    let t = tree_at (states c.args.self.now) c.args.id in
    let up = state_ascends (states c.args.self.now) c.args.id c.size-high.ensures.store c.size-high.ensures.number c.requires.keyed in
    found_at (keys_of t) c.args.key.now up (c.loop-low.low + (c.loop-low.high - c.loop-low.low) / 2) c.key.result.now c.key.ensures (sym c.compare.ensures ∙ c.in-Equal.is)

pub loop-low-preserved-in-Less : goal.loop-low-preserved-in-Less
loop-low-preserved-in-Less c =
    let t = tree_at (states c.args.self.now) c.args.id in
    let up = state_ascends (states c.args.self.now) c.args.id c.size-high.ensures.store c.size-high.ensures.number c.requires.keyed in
    let mid = c.loop-low.low + (c.loop-low.high - c.loop-low.low) / 2 in
    record {
      in_range = c.loop-low.invariant.in_range;
      below = low_at (keys_of t) c.args.key.now up mid c.key.result.now c.key.ensures (sym c.compare.ensures ∙ c.in-Less.is);
      above = c.loop-low.invariant.above;
    }

pub loop-low-preserved : goal.loop-low-preserved
loop-low-preserved c =
    let t = tree_at (states c.args.self.now) c.args.id in
    let up = state_ascends (states c.args.self.now) c.args.id c.size-high.ensures.store c.size-high.ensures.number c.requires.keyed in
    let mid = c.loop-low.low + (c.loop-low.high - c.loop-low.low) / 2 in
    let most = c.loop-low.invariant.in_range in
    let turn = c.loop-low-test.true in
    record {
      in_range = omega (arith, most, turn);
      below = c.loop-low.invariant.below;
      above = high_at (keys_of t) c.args.key.now up mid c.key.result.now c.key.ensures (sym c.compare.ensures ∙ c.in-Greater.is);
    }

pub returns : goal.returns
returns c = absent (keys_of (tree_at (states c.args.self.now) c.args.id)) c.args.key.now c.loop-low.low c.loop-low.high (let t = c.loop-low-test.false in omega (arith, t)) c.loop-low.invariant.below c.loop-low.invariant.above
