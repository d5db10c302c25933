-- How many parts are sent.
use Rattle.std.proofs.Common.{◌≡◌, suc, List, [], ◌∷◌, length, map, refl, ap}
use Rattle.serde_json.specs.Data.{Data}
use Rattle.serde_json.specs.Events.{items_len, members_len}
use Rattle.serde_json.specs.View.{items_of}
use Rattle.value_model.specs.declared.key.Key.{Key}
use Rattle.value_model.specs.Plain.{Plain}
use Rattle.value_json_spec.specs.Printing.{fields_data, elements_data, pairs_data, keys_data}
use Rattle.values.specs.declared.val.Entry.{Entry}
use Rattle.values.specs.declared.val.Field.{Field}
use Rattle.values.specs.Seen.{of_fields, of_entries, of_items, of_members}

pub fields_len : (fs : List Field) → length fs ≡ members_len (fields_data (of_fields fs))
fields_len [] = refl
fields_len (f ∷ fs) = ap suc (fields_len fs)

pub elements_len : (vs : List Plain) → length vs ≡ items_len (elements_data (of_items vs))
elements_len [] = refl
elements_len (v ∷ vs) = ap suc (elements_len vs)

pub pairs_len : (es : List Entry) → length es ≡ items_len (pairs_data (of_entries es))
pairs_len [] = refl
pairs_len (e ∷ es) = ap suc (pairs_len es)

pub keys_len : (ks : List Key) → length ks ≡ items_len (keys_data (of_members ks))
keys_len [] = refl
keys_len (k ∷ ks) = ap suc (keys_len ks)

pub mapped_len : {X : Type 0} (f : X → Data) (xs : List X) → length xs ≡ items_len (items_of (map f xs))
mapped_len f [] = refl
mapped_len f (x ∷ xs) = ap suc (mapped_len f xs)
