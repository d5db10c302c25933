-- The patches that a host makes of a flat state are in place: each is one of an entry of the object.
use Rattle.std.specs.Prelude.{◌≡◌, Bool, true, false, List, [], ◌∷◌, ◌++◌, Option, Some, None, Result, Ok, Err, IsTrue, if◌then◌else◌, refl}
use Rattle.std.specs.FinMap.Entries.{find}
use Rattle.value_model.specs.declared.key.Key.{Key}
use Rattle.value_model.specs.declared.kind.Kind.TheVariants as kind
use Rattle.value_model.specs.declared.op.Op.{Op}
use Rattle.value_model.specs.declared.op.Op.TheVariants.{Add, Replace, Remove}
use Rattle.value_model.specs.declared.patch_why.PatchWhy.{PatchWhy}
use Rattle.value_model.specs.Order.{key_cmp}
use Rattle.value_model.specs.Plain.{Plain, Entries, Table, node, entries, list_of}
use Rattle.values.specs.declared.patch.Patch.{Patch}
use Rattle.patch_meaning.specs.Applying.{as_node, in_object}
use Rattle.host_machine.specs.Differences.{same, union, keys, patch, change, changes, differences}
use Rattle.view_laws.specs.InPlace.{if_ok, are_in_place}

-- patches of entries, at whatever object they are applied
abbrev InPlaces : List Patch → Type 0
InPlaces ps = (es : Entries) → are_in_place ps (node kind.Obj es) ≡ true

edited_again : (ps : List Patch) → InPlaces ps → (r : Result Table PatchWhy) → if_ok (are_in_place ps) (as_node kind.Obj r) ≡ true
edited_again ps h (Ok es) = h (entries es)
edited_again ps h (Err w) = refl

one_more : (op : Op) (k : Key) (v : Option Plain) (ps : List Patch) → InPlaces ps → InPlaces (patch op k v ∷ ps)
one_more op k v ps h es = edited_again ps h (in_object op k v (list_of es))

replaced : (b : Bool) (k : Key) (w : Plain) (ps : List Patch) → InPlaces ps → InPlaces ((if b then [] else patch Replace k (Some w) ∷ []) ++ ps)
replaced true k w ps h = h
replaced false k w ps h = one_more Replace k (Some w) ps h

changed : (k : Key) (v w : Option Plain) (ps : List Patch) → InPlaces ps → InPlaces (change k v w ++ ps)
changed k None None ps h = h
changed k None (Some w) ps h = one_more Add k (Some w) ps h
changed k (Some v) None ps h = one_more Remove k None ps h
changed k (Some v) (Some w) ps h = replaced (same v w) k w ps h

all_changed : (ks : List Key) (old new : Table) → InPlaces (changes ks old new)
all_changed [] old new = λ es. refl
all_changed (k ∷ ks) old new = changed k (find key_cmp k old) (find key_cmp k new) (changes ks old new) (all_changed ks old new)

pub differences_in_place : (old new : Table) (es : Entries) → IsTrue (are_in_place (differences old new) (node kind.Obj es))
unfolding differences
differences_in_place old new es = all_changed (keys (union old new)) old new es
