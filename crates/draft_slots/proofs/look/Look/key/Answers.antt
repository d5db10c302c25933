use Rattle.node_store.specs.Paged.{states}
use Rattle.std.proofs.Common.{◌∙◌, ◌<◌, ℕ, sym, ap, subst, List, get_or}
use Rattle.std.specs.Prelude.{slice_get, Some, Option}
use Rattle.value_model.specs.declared.key.Key.{Key}
use Rattle.numbered.specs.Store.{tree_at}
use Rattle.run_heap.specs.Operations as spec
use Rattle.run_heap.specs.Operations.{Rows}
use Rattle.draft_slots.proofs.LookFacts.{count_node, kind_node, rows_node}
use Rattle.draft_slots.proofs.NodesLaws.{keyed_keys, key_in}
use Rattle.draft_slots.proofs.look.Look.key.Goals as goal

pub key-requires-clause-in_range : goal.key-requires-clause-in_range
key-requires-clause-in_range c =
    let inside = rw c.in-Node.is at c.requires.in_range in
    subst (λ (n : ℕ). c.args.i < n) (count_node c.in-Node.field-1 (tree_at (states c.args.store.now) c.in-Node.id)) inside

pub returns-in-Own : goal.returns-in-Own
returns-in-Own c =
    let inside = rw c.in-Own.is at c.requires.in_range in
    rw c.in-Own.is (key_in c.in-Own.content.now.table c.args.i c.index-as_slice-i.result inside ∙ ap (λ (t : Rows). let o : Option Key = Some (get_or t c.args.i c.index-as_slice-i.result).0 in o) (sym c.as_slice.ensures))

pub returns-in-Node : goal.returns-in-Node
returns-in-Node c =
    let t = tree_at (states c.args.store.now) c.in-Node.id in
    let g = c.in-Node.field-1 in
    let other = rw c.in-Node.is at c.requires.keyed in
    rw c.in-Node.is (ap (λ (ks : List Key). slice_get ks c.args.i) (ap spec.keys_of (rows_node g t) ∙ sym (keyed_keys g t (λ q. other (kind_node g t ∙ q)))) ∙ c.key.ensures)
