use Rattle.std.proofs.Common.{arith}
use Rattle.numbered.specs.Tree.{branches_of}
use Rattle.numbered.specs.Store.{tree_at}
use Rattle.numbered.proofs.Laws.{before_le}
use Rattle.node_store.proofs.Shown.{inside_le}
use Rattle.node_store.specs.Paged.{states}
use Rattle.node_store.proofs.store.Store.before.Goals as goal

pub overflow_add-total : goal.overflow_add-total
overflow_add-total c =
    let t = tree_at (states c.args.self.now) c.args.id in
    let so_far = c.loop-k.invariant in
    let most = before_le c.loop-k.k (branches_of t) in
    let inside = inside_le t in
    let small = c.held-held.ensures.held.small_containers in
    let one = c.places_at-total.ensures.small in
    omega (arith, so_far, most, inside, small, one)
