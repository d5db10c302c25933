-- The step at a list of flat patches: they are applied from the first one on.
use Rattle.std.proofs.Common.{◌≡◌, List, [], ◌∷◌, ap, refl, sym, ◌∙◌, Bool, false}
use Rattle.std.specs.Prelude.{IsTrue, Result, Err}
use Rattle.value_model.specs.declared.key.Key.{Key}
use Rattle.value_model.specs.declared.op.Op.{Op}
use Rattle.value_model.specs.declared.op.Op.TheVariants as op
use Rattle.value_model.specs.Plain.{Plain}
use Rattle.value_model.specs.Search.{left_true, right_true}
use Rattle.values.specs.declared.patch.Patch.{Patch}
use Rattle.patch_meaning.specs.Applying.{Fault, is_root, has_root_replace, applied, applied_from}
use Rattle.host_machine.specs.Flat.{is_flat_path, is_flat_value, is_flat_patch, are_flat}
use Rattle.host_machine.specs.Machine.{Machine, value, apply_step, judged, writes}

flat_path : (p : Patch) (ps : List Patch) → IsTrue (are_flat (p ∷ ps)) → IsTrue (is_flat_path p.path)
flat_path p ps h = left_true (is_flat_path p.path) (is_flat_value p.op p.value) (left_true (is_flat_patch p) (are_flat ps) h)

flat_rest : (p : Patch) (ps : List Patch) → IsTrue (are_flat (p ∷ ps)) → IsTrue (are_flat ps)
flat_rest p ps h = right_true (is_flat_patch p) (are_flat ps) h

no_root : (o : Op) (path : List Key) → IsTrue (is_flat_path path) → is_root o path ≡ false
no_root op.Add path h = refl
no_root op.Remove path h = refl
no_root op.Replace [] h = absurd (cc)
no_root op.Replace (k ∷ ks) h = refl

no_roots : (ps : List Patch) → IsTrue (are_flat ps) → has_root_replace ps ≡ false
no_roots [] h = refl
no_roots (p ∷ ps) h = rw (no_root p.op p.path (flat_path p ps h)) (no_roots ps (flat_rest p ps h))

pub applied_flat : (ps : List Patch) (x : Plain) → IsTrue (are_flat ps) → applied ps x ≡ applied_from 0 ps x
applied_flat [] x h = refl
applied_flat (p ∷ ps) x h = rw (no_roots ps (flat_rest p ps h), no_root p.op p.path (flat_path p ps h)) refl

pub step_judged : (m : Machine) (ps : List Patch) (x : Plain) (wrote : Bool) (r : Result Plain Fault) → value m ≡ x → IsTrue (are_flat ps) → applied_from 0 ps x ≡ r → writes ps x ≡ wrote
    → judged m wrote r ≡ apply_step m ps
unfolding apply_step
step_judged m ps x wrote r e h a w =
    sym ((λ i. judged m (writes ps (e i)) (applied ps (e i))) ∙ ap (λ (s : Result Plain Fault). judged m (writes ps x) s) (applied_flat ps x h ∙ a) ∙ ap (λ (b : Bool). judged m b r) w)

-- patches that are refused are so whether or not one before wrote
pub step_refused : (m : Machine) (ps : List Patch) (x : Plain) (f : Fault) → value m ≡ x → IsTrue (are_flat ps) → applied_from 0 ps x ≡ Err f → judged m false (Err f) ≡ apply_step m ps
step_refused m ps x f e h a = step_judged m ps x (writes ps x) (Err f) e h a refl
