use Rattle.node_store.specs.Paged.{states}
use Rattle.std.proofs.Common.{◌≡◌, ◌∷◌, [], false}
use Rattle.std.specs.Prelude.{Some, IsTrue}
use Rattle.value_model.specs.Search.{left_true, right_true}
use Rattle.host_machine.specs.Flat.{is_flat_path, is_flat_value}
use Rattle.host_engine.specs.Drafts.{root_in}
use Rattle.host_engine.specs.Edits.{is_number}
use Rattle.host_engine.specs.Kept.{number_of}
use Rattle.host_engine.proofs.EditLaws.{edits_set, edits_unset, text_step}
use Rattle.host_engine.proofs.edits.edit.Goals as goal

pub returns-in-Some-number_in-clause-edits : goal.returns-in-Some-number_in-clause-edits
returns-in-Some-number_in-clause-edits c =
    let ts = (states c.args.store.now) in
    let p = c.args.patch.now in
    let k = c.in-Some.key.now in
    let n = c.in-Some-number_in.number in
    let step : p.path ≡ k ∷ [] = c.in-Some.ensures in
    let number : p.value ≡ Some (number_of n) = c.in-Some-number_in.ensures in
    let path : IsTrue (is_flat_path p.path) = left_true (is_flat_path p.path) (is_flat_value p.op p.value) c.requires.patch in
    let flat : IsTrue (is_flat_value p.op p.value) = right_true (is_flat_path p.path) (is_flat_value p.op p.value) c.requires.patch in
    rw (step, number) (edits_set p.op n k (root_in ts c.args.scope.now) (root_in ts c.set_entry.new.scope) c.set_entry.result (text_step k (rw step at path)) (rw number at flat) c.set_entry.ensures.edits)

pub returns-in-None-clause-edits : goal.returns-in-None-clause-edits
returns-in-None-clause-edits c =
    let ts = (states c.args.store.now) in
    let p = c.args.patch.now in
    let k = c.in-Some.key.now in
    let step : p.path ≡ k ∷ [] = c.in-Some.ensures in
    let nothing : is_number p.value ≡ false = c.in-None.ensures in
    let flat : IsTrue (is_flat_value p.op p.value) = right_true (is_flat_path p.path) (is_flat_value p.op p.value) c.requires.patch in
    rw step (edits_unset p.op p.value k (root_in ts c.args.scope.now) (root_in ts c.unset_entry.new.scope) c.unset_entry.result flat nothing c.unset_entry.ensures.edits)
