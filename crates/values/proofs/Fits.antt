-- The keys of a value in code fit its kind: laws.
use Rattle.std.specs.Prelude.{◌≡◌, List, [], ◌∷◌, true, refl}
use Rattle.std.proofs.lemmas.Cmp.{tied_itself}
use Rattle.value_model.specs.declared.key.Key.{Key}
use Rattle.value_model.specs.declared.kind.Kind.TheVariants as kind
use Rattle.value_model.specs.Order.{key_total}
use Rattle.value_model.specs.Plain.{Plain}
use Rattle.values.specs.declared.val.Entry.{Entry}
use Rattle.values.specs.declared.val.Field.{Field}
use Rattle.values.specs.Seen.{of_fields, of_entries, of_items, of_members}
use Rattle.value_model.specs.Well.{all_fit}

-- the keys of an object are texts
pub fields_fit : (fs : List Field) → all_fit kind.Obj (of_fields fs) ≡ true
fields_fit [] = refl
fields_fit (f ∷ fs) = fields_fit fs

-- the keys of a list are null
pub items_fit : (vs : List Plain) → all_fit kind.List (of_items vs) ≡ true
items_fit [] = refl
items_fit (v ∷ vs) = items_fit vs

-- the keys of a Map may be any
pub entries_fit : (es : List Entry) → all_fit kind.Map (of_entries es) ≡ true
entries_fit [] = refl
entries_fit (e ∷ es) = entries_fit es

-- the members of a Set are their own keys
pub members_fit : (ks : List Key) → all_fit kind.Set (of_members ks) ≡ true
members_fit [] = refl
members_fit (k ∷ ks) = rw (tied_itself key_total k) (members_fit ks)
