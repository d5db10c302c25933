use Rattle.std.proofs.Common.{arith}
use Rattle.node_store.proofs.Grown.{used_states, pages_used}
use Rattle.node_store.proofs.store.Store.pages.Goals as goal

pub returns-clause-few : goal.returns-clause-few
returns-clause-few c =
    let ps = c.self.inside.pages in
    let hs = c.self.inside.nodes.items in
    let most = pages_used ps hs c.self.invariant.sound c.self.invariant.named in
    let used = used_states ps hs c.self.inside.used c.self.invariant.used in
    let light = c.self.invariant.light in
    let count = c.len.ensures in
    omega (arith, most, used, light, count)
