use Rattle.node_store.specs.Paged.{states}
use Rattle.std.proofs.Common.{◌≡◌, ◌∙◌, ◌<◌, ℕ, ap, subst, get_or}
use Rattle.numbered.specs.Store.{tree_at}
use Rattle.run_heap.specs.Operations.{Rows, value_at}
use Rattle.run_heap.specs.Values.{same}
use Rattle.draft_slots.proofs.LookFacts.{count_node}
use Rattle.draft_slots.proofs.NodesLaws.{value_in, some_is}
use Rattle.draft_slots.proofs.look.Look.same.Goals as goal

pub node_same-requires-clause-in_range : goal.node_same-requires-clause-in_range
node_same-requires-clause-in_range c =
    let inside = rw c.in-Node.is at c.requires.in_range in
    subst (λ (n : ℕ). c.args.i < n) (count_node c.in-Node.given (tree_at (states c.args.store.now) c.in-Node.id)) inside

pub returns-in-Own : goal.returns-in-Own
returns-in-Own c =
    let inside = rw c.in-Own.is at c.requires.in_range in
    let t = c.in-Own.content.now.table in
    let d = c.index-as_slice-i.result in
    rw c.in-Own.is (some_is (value_at c.args.i t) (get_or t c.args.i d).1 (λ v. c.same.result ≡ same v c.args.item.now) (value_in t c.args.i d inside) (c.same.ensures ∙ ap (λ (u : Rows). same (get_or u c.args.i d).1 c.args.item.now) c.as_slice.ensures))
