-- When an object reads as a tag.
use Rattle.std.proofs.Common.{◌≡◌, length, List, [], ◌∷◌, false, refl}
use Rattle.value_json_spec.specs.Printing.{fields_data, is_tagged}
use Rattle.values.specs.Seen.{of_fields}
use Rattle.values.specs.declared.val.Field.{Field}

-- a number of fields other than one is no tag
pub not_one : (fs : List Field) → (length fs ≡ 1 → ⊥) → is_tagged (fields_data (of_fields fs)) ≡ false
not_one [] h = refl
not_one (f ∷ []) h = absurd (h refl)
not_one (f ∷ g ∷ fs) h = refl
