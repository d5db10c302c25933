use Rattle.node_store.proofs.Added.{light_state, tallied_state}
use Rattle.node_store.specs.Paged.{states}
use Rattle.node_store.specs.Sums.{IsMeasured}
use Rattle.node_store.proofs.store.Store.measured.Goals as goal

pub measure-requires-clause-light : goal.measure-requires-clause-light
measure-requires-clause-light c =
    let n = c.args.node.now in
    rw (c.as_slice.ensures, c.as_slice-2.ensures) (light_state (states c.args.self.now) n.kind n.keys n.cells c.len-len.ensures.store n.fits c.requires.below c.requires.accepted)

pub returns : goal.returns
returns c =
    let n = c.args.node.now in
    let m : IsMeasured (states c.args.self.now) n.kind n.keys n.cells c.measure.result = rw (c.as_slice.ensures, c.as_slice-2.ensures) at c.measure.ensures in
    tallied_state (states c.args.self.now) n.kind n.keys n.cells c.measure.result n.fits m
