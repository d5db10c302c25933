use Rattle.node_store.specs.Paged.{states}
use Rattle.std.proofs.Common.{◌<◌, ℕ, subst}
use Rattle.numbered.specs.Store.{tree_at}
use Rattle.draft_slots.proofs.LookFacts.{count_node}
use Rattle.draft_slots.proofs.look.Look.value.Goals as goal

pub node_value-requires-clause-in_range : goal.node_value-requires-clause-in_range
node_value-requires-clause-in_range c =
    let inside = rw c.in-Node.is at c.requires.in_range in
    subst (λ (n : ℕ). c.args.i < n) (count_node c.in-Node.given (tree_at (states c.args.store.now) c.in-Node.id)) inside
