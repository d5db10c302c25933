use Rattle.node_store.specs.Paged.{states}
use Rattle.std.proofs.Common.{◌≡◌, ◌∙◌, ◌<◌, ℕ, sym, ap, subst, List}
use Rattle.std.specs.Prelude.{slice_get, Some, IfOk}
use Rattle.value_model.specs.declared.key.Key.{Key}
use Rattle.numbered.specs.Store.{tree_at}
use Rattle.numbered.specs.Tree.{branches_of}
use Rattle.run_heap.specs.Operations.{keys_of}
use Rattle.draft_slots.proofs.LookFacts.{count_node, rows_node}
use Rattle.draft_slots.proofs.NodesLaws.{table_keys}
use Rattle.draft_slots.proofs.look.Look.copy_key.Goals as goal

pub copy_key-requires-clause-in_range : goal.copy_key-requires-clause-in_range
copy_key-requires-clause-in_range c =
    let inside = rw c.in-Node.is at c.requires.in_range in
    subst (λ (n : ℕ). c.args.i < n) (count_node c.in-Node.field-1 (tree_at (states c.args.store.now) c.in-Node.id)) inside

pub returns-in-Node : goal.returns-in-Node
returns-in-Node c =
    let t = tree_at (states c.args.store.now) c.in-Node.id in
    let same = ap keys_of (rows_node c.in-Node.field-1 t) ∙ table_keys c.in-Node.field-1 (branches_of t) in
    rw c.in-Node.is (subst (λ (ks : List Key). IfOk c.copy_key.result (λ k. slice_get ks c.args.i ≡ Some k)) (sym same) c.copy_key.ensures)
