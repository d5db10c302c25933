-- What is printed holds no float.
use Rattle.std.proofs.Common.{◌≡◌, ℤ, pos, negsuc, List, [], ◌∷◌, map, Bool, true, false, cond, Option, Some, None, refl}
use Rattle.serde_json.specs.Data.{Data, Members, object}
use Rattle.serde_json.specs.Find.{of_integer, is_float}
use Rattle.serde_json.specs.View.{items_of}
use Rattle.serde_json.specs.Written.{has_float, items_have_float, members_have_float}
use Rattle.value_model.specs.declared.key.Key.{Key}
use Rattle.value_model.specs.declared.key.Key.TheVariants as key
use Rattle.value_model.specs.declared.kind.Kind.TheVariants as kind
use Rattle.value_model.specs.Plain.{Plain, Entries, prim, node, none, entry}
use Rattle.values.specs.declared.patch.Patch.{Patch}
use Rattle.value_json_spec.specs.Patches.{value_member, path_data, patch_data, patches_data}
use Rattle.value_json_spec.specs.Printing.{key_data, is_tagged, object_data, keys_data, val_data, fields_data, elements_data, pairs_data}

integer : (z : ℤ) → is_float (of_integer z) ≡ false
integer (pos n) = refl
integer (negsuc n) = refl

pub key_no_float : (k : Key) → has_float (key_data k) ≡ false
key_no_float key.Null = refl
key_no_float (key.Bool b) = refl
key_no_float (key.Int z) = integer z
key_no_float (key.Text s) = refl

keys : (es : Entries) → items_have_float (keys_data es) ≡ false
keys none = refl
keys (entry k v es) = rw (key_no_float k, keys es)

tagged : (b : Bool) (d e : Data) → has_float d ≡ false → has_float e ≡ false → has_float (cond b d e) ≡ false
tagged true d e p q = p
tagged false d e p q = q

-- an object whose members have none
members : (ms : Members) → members_have_float ms ≡ false → has_float (object_data ms) ≡ false
members ms h = tagged (is_tagged ms) _ (object ms) (rw h) h

mutual
  pub val_no_float : (v : Plain) → has_float (val_data v) ≡ false
  val_no_float (prim k) = key_no_float k
  val_no_float (node kind.Obj es) = members (fields_data es) (fields es)
  val_no_float (node kind.List es) = elements es
  val_no_float (node kind.Map es) = rw (pairs es)
  val_no_float (node kind.Set es) = rw (keys es)

  fields : (es : Entries) → members_have_float (fields_data es) ≡ false
  fields none = refl
  fields (entry k v es) = rw (val_no_float v, fields es)

  elements : (es : Entries) → items_have_float (elements_data es) ≡ false
  elements none = refl
  elements (entry k v es) = rw (val_no_float v, elements es)

  pairs : (es : Entries) → items_have_float (pairs_data es) ≡ false
  pairs none = refl
  pairs (entry k v es) = rw (key_no_float k, val_no_float v, pairs es)

steps : (ks : List Key) → items_have_float (items_of (map key_data ks)) ≡ false
steps [] = refl
steps (k ∷ ks) = rw (key_no_float k, steps ks)

pub path_no_float : (ks : List Key) → has_float (path_data ks) ≡ false
unfolding path_data
path_no_float ks = steps ks

value : (o : Option Plain) → members_have_float (value_member o) ≡ false
value None = refl
value (Some v) = rw (val_no_float v)

pub patch_no_float : (p : Patch) → has_float (patch_data p) ≡ false
unfolding patch_data
patch_no_float p = rw (path_no_float p.path, value p.value)

listed : (ps : List Patch) → items_have_float (items_of (map patch_data ps)) ≡ false
listed [] = refl
listed (p ∷ ps) = rw (patch_no_float p, listed ps)

pub patches_no_float : (ps : List Patch) → has_float (patches_data ps) ≡ false
unfolding patches_data
patches_no_float ps = listed ps
