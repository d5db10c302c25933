-- Facts at the entries of a Set or an object that code holds: laws.
use Rattle.std.specs.Prelude.{◌≡◌, ℕ, Err, List, [], ◌∷◌, true, false, map, None, IsTrue, refl}
use Rattle.std.specs.FinMap.Entries.{find, is_sorted}
use Rattle.value_model.specs.Limits.{any_reserved_key}
use Rattle.value_model.specs.Order.{key_cmp}
use Rattle.value_model.specs.Plain.{Plain}
use Rattle.value_model.specs.Search.{IsPlace}
use Rattle.value_model.proofs.Search.{absent_at}
use Rattle.value_model.specs.Well.{all_well}
use Rattle.value_model.specs.declared.key.Key.{Key}
use Rattle.value_model.specs.declared.key.Key.TheVariants as key
use Rattle.value_model.specs.declared.kind.Kind.TheVariants as kind
use Rattle.values.specs.Seen.{of_members, of_field}
use Rattle.values.specs.declared.val.Field.{Field}
use Rattle.value_checks.specs.Members.{IsText}

pub members_reserved : (ks : List Key) → any_reserved_key kind.Set (of_members ks) ≡ false
members_reserved [] = refl
members_reserved (k ∷ ks) = members_reserved ks

pub members_well : (ks : List Key) → all_well (of_members ks) ≡ true
members_well [] = refl
members_well (k ∷ ks) = members_well ks

-- an object has no entry under a key that is no text
pub no_field : (k : Key) → (fs : List Field) → ¬ (IsText k) → find key_cmp k (map of_field fs) ≡ None
no_field key.Null [] h = refl
no_field key.Null (f ∷ fs) h = no_field key.Null fs h
no_field (key.Bool false) [] h = refl
no_field (key.Bool false) (f ∷ fs) h = no_field (key.Bool false) fs h
no_field (key.Bool true) [] h = refl
no_field (key.Bool true) (f ∷ fs) h = no_field (key.Bool true) fs h
no_field (key.Int n) [] h = refl
no_field (key.Int n) (f ∷ fs) h = no_field (key.Int n) fs h
no_field (key.Text s) fs h = absurd (h tt)

-- where a key would go, it isn't
pub not_placed : {X : Type 0} (f : X → Key × Plain) (k : Key) (xs : List X) (i : ℕ) → IsPlace f k xs (Err i) → IsTrue (is_sorted key_cmp (map f xs)) → find key_cmp k (map f xs) ≡ None
not_placed f k [] i h s = refl
not_placed f k (x ∷ xs) i h s = absent_at f k (x ∷ xs) i x h.past h.in_range (h.above x) s
