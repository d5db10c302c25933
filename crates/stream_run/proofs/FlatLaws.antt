-- Patches that are flat as JSON data are flat patches.
use Rattle.std.proofs.Common.{◌≡◌, ℕ, ℤ, List, [], ◌∷◌, refl, subst, true, false, Bool, cond}
use Rattle.std.specs.Prelude.{IsTrue, ◌&&◌, Option, Some, None, is_some, option_and_then, Result, Ok, Err, codes, unwrap_or}
use Rattle.std.proofs.lemmas.Bool.{and_from}
use Rattle.serde_json.specs.Data.{Data, null, boolean, number, string, array, object, Items, no_items, item}
use Rattle.serde_json.specs.Find.{get, as_array, as_number, as_str}
use Rattle.value_model.specs.declared.key.Key.{Key}
use Rattle.value_model.specs.declared.key.Key.TheVariants as key
use Rattle.value_model.specs.declared.op.Op.{Op}
use Rattle.value_model.specs.declared.op.Op.TheVariants as op
use Rattle.value_model.specs.declared.limit.Limit.{Limit}
use Rattle.value_model.specs.Plain.{Plain, prim}
use Rattle.value_model.specs.Search.{left_true, right_true}
use Rattle.values.specs.declared.patch.Patch.{Patch}
use Rattle.value_json_spec.specs.Answers.{and_then, result_map}
use Rattle.value_json_spec.specs.declared.why.JsonWhy.{JsonWhy}
use Rattle.value_json_spec.specs.declared.why.JsonWhy.TheVariants as why
use Rattle.value_json_spec.specs.Patches.{steps_if, walked_if, patch_of, patch_walked, all_limited, list_if, patches_from, are_patches, op_in, first_limit}
use Rattle.value_json_spec.specs.Reading.{text_from, key_from, safe_from, walked, all_from, limited_by}
use Rattle.host_machine.specs.Flat.{is_integer, is_flat_path, is_flat_value, is_flat_patch, are_flat}
use Rattle.host_protocol_spec.specs.Forms.{text_in}
use Rattle.stream_run.specs.Built.{only_item, has_name_path, has_flat_value, is_flat_patch_data, are_flat_items, are_flat_if}

abbrev Answer : Type 0 → Type 0
Answer X = Result X JsonWhy

-- ---- the path
one_text : (r : Answer (List ℕ)) (ks : List Key) → and_then (λ (k : Key). result_map (λ (js : List Key). k ∷ js) (Ok [])) (result_map key.Text r) ≡ Ok ks → IsTrue (is_flat_path ks)
one_text (Ok s) ks e = let same : key.Text s ∷ [] ≡ ks = cc in subst (λ (js : List Key). IsTrue (is_flat_path js)) same refl
one_text (Err w) ks e = absurd (cc)

step_flat : (d : Data) (ks : List Key) → all_from key_from (item d no_items) ≡ Ok ks → is_some (as_str d) ≡ true → IsTrue (is_flat_path ks)
step_flat (string s) ks e h = one_text (text_from s) ks e
step_flat null ks e h = absurd (cc)
step_flat (boolean b) ks e h = absurd (cc)
step_flat (number n) ks e h = absurd (cc)
step_flat (array ds) ks e h = absurd (cc)
step_flat (object ms) ks e h = absurd (cc)

path_flat : (o : Option Data) (ks : List Key) → steps_if o ≡ Ok ks → is_some (text_in (option_and_then only_item (option_and_then as_array o))) ≡ true → IsTrue (is_flat_path ks)
path_flat None ks e h = absurd (cc)
path_flat (Some (array no_items)) ks e h = absurd (cc)
path_flat (Some (array (item d no_items))) ks e h = step_flat d ks e h
path_flat (Some (array (item d (item c ds)))) ks e h = absurd (cc)
path_flat (Some null) ks e h = absurd (cc)
path_flat (Some (boolean b)) ks e h = absurd (cc)
path_flat (Some (number n)) ks e h = absurd (cc)
path_flat (Some (string s)) ks e h = absurd (cc)
path_flat (Some (object ms)) ks e h = absurd (cc)

-- ---- the value
number_at : (r : Answer ℤ) (v : Plain) → result_map prim (result_map key.Int r) ≡ Ok v → IsTrue (is_integer v)
number_at (Ok z) v e = let same : prim (key.Int z) ≡ v = cc in subst (λ (w : Plain). IsTrue (is_integer w)) same refl
number_at (Err w) v e = absurd (cc)

walked_number : (d : Data) (v : Plain) → walked d ≡ Ok v → is_some (as_number d) ≡ true → IsTrue (is_integer v)
walked_number (number n) v e h = number_at (safe_from n) v e
walked_number null v e h = absurd (cc)
walked_number (boolean b) v e h = absurd (cc)
walked_number (string s) v e h = absurd (cc)
walked_number (array ds) v e h = absurd (cc)
walked_number (object ms) v e h = absurd (cc)

some_value : (o : Op) (r : Answer Plain) (v : Option Plain) → result_map Some r ≡ Ok v → ((w : Plain) → r ≡ Ok w → IsTrue (is_flat_value o (Some w))) → IsTrue (is_flat_value o v)
some_value o (Ok w) v e h = let same : Some w ≡ v = cc in subst (λ (x : Option Plain). IsTrue (is_flat_value o x)) same (h w refl)
some_value o (Err w) v e h = absurd (cc)

value_flat : (o : Op) (d : Option Data) (v : Option Plain) → walked_if d ≡ Ok v → has_flat_value (Some o) d ≡ true → IsTrue (is_flat_value o v)
value_flat op.Remove None v e h = let same : None ≡ v = cc in subst (λ (x : Option Plain). IsTrue (is_flat_value op.Remove x)) same refl
value_flat op.Remove (Some d) v e h = absurd (cc)
value_flat op.Add None v e h = absurd (cc)
value_flat op.Add (Some d) v e h = some_value op.Add (walked d) v e (λ w q. walked_number d w q h)
value_flat op.Replace None v e h = absurd (cc)
value_flat op.Replace (Some d) v e h = some_value op.Replace (walked d) v e (λ w q. walked_number d w q h)

op_value : (o : Option Op) (d : Option Data) (v : Option Plain) → walked_if d ≡ Ok v → has_flat_value o d ≡ true → IsTrue (is_flat_value (unwrap_or o op.Add) v)
op_value None d v e h = absurd (cc)
op_value (Some o) d v e h = value_flat o d v e h

-- ---- a patch, and a list of patches
parts_flat : (o : Op) (rk : Answer (List Key)) (rv : Answer (Option Plain)) (p : Patch) → and_then (λ (path : List Key). result_map (patch_of o path) rv) rk ≡ Ok p
    → ((ks : List Key) → rk ≡ Ok ks → IsTrue (is_flat_path ks)) → ((v : Option Plain) → rv ≡ Ok v → IsTrue (is_flat_value o v)) → IsTrue (is_flat_patch p)
parts_flat o (Ok ks) (Ok v) p e h g = let same : patch_of o ks v ≡ p = cc in subst (λ (q : Patch). IsTrue (is_flat_patch q)) same (and_from _ _ (h ks refl) (g v refl))
parts_flat o (Ok ks) (Err w) p e h g = absurd (cc)
parts_flat o (Err w) rv p e h g = absurd (cc)

patch_flat : (d : Data) (p : Patch) → patch_walked d ≡ Ok p → is_flat_patch_data d ≡ true → IsTrue (is_flat_patch p)
patch_flat d p e h =
    let value = has_flat_value (op_in d) (get (codes "value") d) in
    parts_flat (unwrap_or (op_in d) op.Add) (steps_if (get (codes "path") d)) (walked_if (get (codes "value") d)) p e
    (λ ks q. path_flat (get (codes "path") d) ks q (left_true (has_name_path d) value h))
    (λ v q. op_value (op_in d) (get (codes "value") d) v q (right_true (has_name_path d) value h))

items_at : (rp : Answer Patch) (rs : Answer (List Patch)) (ps : List Patch) → and_then (λ (p : Patch). result_map (λ (qs : List Patch). p ∷ qs) rs) rp ≡ Ok ps
    → ((p : Patch) → rp ≡ Ok p → IsTrue (is_flat_patch p)) → ((qs : List Patch) → rs ≡ Ok qs → IsTrue (are_flat qs)) → IsTrue (are_flat ps)
items_at (Ok p) (Ok qs) ps e h g = let same : p ∷ qs ≡ ps = cc in subst (λ (rs : List Patch). IsTrue (are_flat rs)) same (and_from _ _ (h p refl) (g qs refl))
items_at (Ok p) (Err w) ps e h g = absurd (cc)
items_at (Err w) rs ps e h g = absurd (cc)

items_flat : (ds : Items) (ps : List Patch) → all_from patch_walked ds ≡ Ok ps → are_flat_items ds ≡ true → IsTrue (are_flat ps)
items_flat no_items ps e h = let same : [] ≡ ps = cc in subst (λ (qs : List Patch). IsTrue (are_flat qs)) same refl
items_flat (item d ds) ps e h =
    items_at (patch_walked d) (all_from patch_walked ds) ps e (λ p q. patch_flat d p q (left_true (is_flat_patch_data d) (are_flat_items ds) h))
    (λ qs q. items_flat ds qs q (right_true (is_flat_patch_data d) (are_flat_items ds) h))

limited_flat : (r : Answer (List Patch)) (ps : List Patch) → and_then all_limited r ≡ Ok ps → ((qs : List Patch) → r ≡ Ok qs → IsTrue (are_flat qs)) → IsTrue (are_flat ps)
limited_flat (Ok qs) ps e h = subst (λ (rs : List Patch). IsTrue (are_flat rs)) (within qs ps (first_limit qs) e) (h qs refl)
  where
    within : (qs ps : List Patch) (o : Option Limit) → limited_by qs o ≡ Ok ps → qs ≡ ps
    within qs ps None e = cc
    within qs ps (Some l) e = absurd (cc)
limited_flat (Err w) ps e h = absurd (cc)

list_flat : (b : Bool) (ds : Items) (ps : List Patch) → cond b (and_then all_limited (all_from patch_walked ds)) (Err why.NotPatches) ≡ Ok ps → are_flat_items ds ≡ true → IsTrue (are_flat ps)
list_flat true ds ps e h = limited_flat (all_from patch_walked ds) ps e (λ qs q. items_flat ds qs q h)
list_flat false ds ps e h = absurd (cc)

array_flat : (o : Option Items) (ps : List Patch) → list_if o ≡ Ok ps → are_flat_if o ≡ true → IsTrue (are_flat ps)
array_flat None ps e h = absurd (cc)
array_flat (Some ds) ps e h = list_flat (are_patches ds) ds ps e h

pub patches_flat : (d : Data) (ps : List Patch) → patches_from d ≡ Ok ps → are_flat_if (as_array d) ≡ true → IsTrue (are_flat ps)
unfolding patches_from
patches_flat d ps e h = array_flat (as_array d) ps e h
