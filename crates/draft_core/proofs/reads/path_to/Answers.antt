use Rattle.node_store.specs.Paged.{states}
use Rattle.std.proofs.Common.{◌∙◌, arith}
use Rattle.numbered.specs.Store.{tree_at}
use Rattle.run_heap.specs.Places.{path_to as path_of}
use Rattle.draft_core.proofs.Paths.{path_further, path_ends, inside_child}
use Rattle.draft_core.proofs.reads.path_to.Goals as goal

pub loop-left-preserved : goal.loop-left-preserved
loop-left-preserved c =
    let ts = (states c.args.store.now) in
    let t = tree_at ts c.loop-left.id in
    let v = tree_at ts c.child-id.result in
    let e = c.entry_at-i.ensures in
    let child = c.child-id.ensures.child in
    let one = c.loop-left-test.true in
    let inside = inside_child t v c.loop-left.left c.entry_at-i.result one child e.from e.to in
    let before = c.before-in-loop-left.ensures in
    record {
      number = c.child-id.ensures.number;
      inside = let from = e.from in omega (arith, inside, before, from);
      path = rw before (path_further t v (path_of c.args.n (tree_at ts c.args.root)) c.loop-left.steps.items c.push.new.self.items c.loop-left.left c.entry_at-i.result c.in_ok-step.field-0 one c.in_ok-step.ensures child e.from inside c.in_ok-push.ensures.items c.loop-left.invariant.path);
    }

pub returns : goal.returns
returns c =
    let ts = (states c.args.store.now) in
    c.from_vec.ensures ∙ path_ends (tree_at ts c.loop-left.id) (path_of c.args.n (tree_at ts c.args.root)) c.loop-left.steps.items c.loop-left.left c.loop-left-test.false c.loop-left.invariant.path
