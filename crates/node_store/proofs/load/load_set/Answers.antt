use Rattle.std.proofs.Common.{◌≡◌, ◌∙◌, map, ap, sym, subst, refl}
use Rattle.std.specs.Prelude.{Err}
use Rattle.std.proofs.lemmas.Result.{err_from_is_err_and}
use Rattle.value_model.specs.declared.kind.Kind.TheVariants as kind
use Rattle.values.specs.Seen.{of_members}
use Rattle.page_tables.specs.declared.cell.Cell.TheVariants as cell
use Rattle.node_store.proofs.Loads.{root_accepted, root_loaded, root_refused, not_full, set_below, set_loaded, set_node}
use Rattle.node_store.specs.Nodes.{rows, is_node, CellsBelow}
use Rattle.node_store.specs.Paged.{Paged, states, IsLonger}
use Rattle.node_store.proofs.Grown.{longer_refl}
use Rattle.node_store.proofs.load.load_set.Goals as goal

pub invariant_of-add : goal.invariant_of-add
invariant_of-add c =
    let ks = c.args.members.now.items in
    let keys : c.from_vec-keys.result ≡ ks = c.from_vec-keys.ensures ∙ c.in_ok-copy_keys.ensures in
    let cells : c.from_vec-cells.result ≡ map (λ k. cell.Prim k) ks = c.from_vec-cells.ensures ∙ c.in_ok-member_cells.ensures in
    record { fits = (λ i. is_node kind.Set (keys i) (cells i)) ∙ set_node ks c.requires.sorted }

pub add-requires-clause-below : goal.add-requires-clause-below
add-requires-clause-below c =
    let ks = c.args.members.now.items in
    let keys : c.from_vec-keys.result ≡ ks = c.from_vec-keys.ensures ∙ c.in_ok-copy_keys.ensures in
    let cells : c.from_vec-cells.result ≡ map (λ k. cell.Prim k) ks = c.from_vec-cells.ensures ∙ c.in_ok-member_cells.ensures in
    subst (CellsBelow (states c.args.store.now)) (sym cells) (set_below (states c.args.store.now) ks)

pub add-requires-clause-accepted : goal.add-requires-clause-accepted
add-requires-clause-accepted c =
    let ks = c.args.members.now.items in
    let keys : c.from_vec-keys.result ≡ ks = c.from_vec-keys.ensures ∙ c.in_ok-copy_keys.ensures in
    let cells : c.from_vec-cells.result ≡ map (λ k. cell.Prim k) ks = c.from_vec-cells.ensures ∙ c.in_ok-member_cells.ensures in
    root_accepted (states c.args.store.now) (states c.args.store.now) kind.Set (of_members ks) (rows kind.Set ks (map (λ k. cell.Prim k) ks)) kind.Set c.from_vec-keys.result c.from_vec-cells.result (set_loaded (states c.args.store.now) ks) refl (λ i. rows kind.Set (keys i) (cells i)) c.requires.accepted

pub returns-in_err-id-clause-done : goal.returns-in_err-id-clause-done
returns-in_err-id-clause-done c =
    let ks = c.args.members.now.items in
    let keys : c.from_vec-keys.result ≡ ks = c.from_vec-keys.ensures ∙ c.in_ok-copy_keys.ensures in
    let cells : c.from_vec-cells.result ≡ map (λ k. cell.Prim k) ks = c.from_vec-cells.ensures ∙ c.in_ok-member_cells.ensures in
    let p = err_from_is_err_and c.from_residual-in_err-id.result c.from_residual-in_err-id.ensures.1 in
    rw (p.1, p.2) (root_refused (states c.args.store.now) (states c.args.store.now) kind.Set (of_members ks) (rows kind.Set ks (map (λ k. cell.Prim k) ks)) kind.Set c.from_vec-keys.result c.from_vec-cells.result (set_loaded (states c.args.store.now) ks) refl (λ i. rows kind.Set (keys i) (cells i)) (states c.add.new.self) c.in_err-id.field-0.0 (ap (λ (s : Paged). states s) c.in_err-id.ensures.stands) (λ g. c.in_err-id.ensures.only (ap Err g)))

pub returns-clause-done : goal.returns-clause-done
returns-clause-done c =
    let ks = c.args.members.now.items in
    let keys : c.from_vec-keys.result ≡ ks = c.from_vec-keys.ensures ∙ c.in_ok-copy_keys.ensures in
    let cells : c.from_vec-cells.result ≡ map (λ k. cell.Prim k) ks = c.from_vec-cells.ensures ∙ c.in_ok-member_cells.ensures in
    let done = c.in_ok-id.ensures in
    root_loaded (states c.args.store.now) (states c.args.store.now) kind.Set (of_members ks) (rows kind.Set ks (map (λ k. cell.Prim k) ks)) kind.Set c.from_vec-keys.result c.from_vec-cells.result (set_loaded (states c.args.store.now) ks) refl (λ i. rows kind.Set (keys i) (cells i)) (states c.add.new.self) c.in_ok-id.id (not_full _ c.in_ok-id.id done.full) done.ok.0 done.ok.1

pub returns-in_err-id-clause-longer : goal.returns-in_err-id-clause-longer
returns-in_err-id-clause-longer c = subst (λ (s : Paged). IsLonger c.args.store.now s) (sym c.in_err-id.ensures.stands) (longer_refl c.args.store.now)
