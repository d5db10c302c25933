-- An edit of the root draft is the patch on the state.
use Rattle.std.proofs.Common.{◌≡◌, ℤ, [], ◌∷◌, ap, refl, false}
use Rattle.std.specs.Prelude.{IsTrue, Option, Some, None, Result, Ok, Err}
use Rattle.value_model.specs.declared.key.Key.{Key}
use Rattle.value_model.specs.declared.key.Key.TheVariants as key
use Rattle.value_model.specs.declared.kind.Kind.TheVariants as kind
use Rattle.value_model.specs.declared.op.Op.{Op}
use Rattle.value_model.specs.declared.op.Op.TheVariants as op
use Rattle.value_model.specs.Plain.{Plain}
use Rattle.value_model.proofs.Steps.{list_of_entries}
use Rattle.patch_meaning.specs.Applying.{as_node, edited, in_object}
use Rattle.host_machine.specs.Flat.{is_flat_path, is_flat_value, is_text_key}
use Rattle.run_heap.specs.declared.content.Content.{Content}
use Rattle.host_engine.specs.Drafts.{entries_in}
use Rattle.host_engine.specs.Edits.{Edits, EditsState, is_number}
use Rattle.host_engine.specs.Kept.{number_of}
use Rattle.host_engine.specs.declared.edits.EditFault.{EditFault}
use Rattle.host_engine.specs.declared.edits.EditFault.TheVariants as fault

-- the step of a path of one text
pub text_step : (k : Key) → IsTrue (is_flat_path (k ∷ [])) → IsTrue (is_text_key k)
text_step (key.Text s) h = refl
text_step key.Null h = absurd (cc)
text_step (key.Bool b) h = absurd (cc)
text_step (key.Int n) h = absurd (cc)

edits_node : (o : Op) (v : Option Plain) (k : Key) (old new : Option Content) (r : Result (Unit {0}) EditFault) → Edits old new (edited kind.Obj o k v (entries_in old)) r → EditsState old new o v (k ∷ []) r
edits_node o v k old new (Ok u) h = rw (list_of_entries (entries_in old), list_of_entries (entries_in new)) (ap (as_node kind.Obj) h.0, h.1)
edits_node o v k old new (Err (fault.Refused why)) h = rw (list_of_entries (entries_in old)) (ap (as_node kind.Obj) h)
edits_node o v k old new (Err fault.Memory) h = tt

-- a flat patch with a number sets it
pub edits_set : (o : Op) (n : ℤ) (k : Key) (old new : Option Content) (r : Result (Unit {0}) EditFault) → IsTrue (is_text_key k) → IsTrue (is_flat_value o (Some (number_of n)))
    → Edits old new (in_object op.Add k (Some (number_of n)) (entries_in old)) r → EditsState old new o (Some (number_of n)) (k ∷ []) r
edits_set op.Add n (key.Text s) old new r t f h = edits_node op.Add (Some (number_of n)) (key.Text s) old new r h
edits_set op.Replace n (key.Text s) old new r t f h = edits_node op.Replace (Some (number_of n)) (key.Text s) old new r h
edits_set op.Remove n (key.Text s) old new r t f h = absurd (cc)
edits_set o n _ old new r t f h = absurd (cc)

-- and one without a number removes the entry
pub edits_unset : (o : Op) (v : Option Plain) (k : Key) (old new : Option Content) (r : Result (Unit {0}) EditFault) → IsTrue (is_flat_value o v) → is_number v ≡ false
    → Edits old new (in_object op.Remove k None (entries_in old)) r → EditsState old new o v (k ∷ []) r
edits_unset op.Add None k old new r f e h = absurd (cc)
edits_unset op.Add (Some v) k old new r f e h = absurd (cc)
edits_unset op.Replace None k old new r f e h = absurd (cc)
edits_unset op.Replace (Some v) k old new r f e h = absurd (cc)
edits_unset op.Remove None k old new r f e h = edits_node op.Remove None k old new r h
edits_unset op.Remove (Some v) k old new r f e h = absurd (cc)
