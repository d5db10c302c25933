-- A table without the entry of a key that it doesn't have is the same: laws.
use Rattle.std.specs.Prelude.{◌≡◌, ℕ, Err, List, [], ◌∷◌, map, Bool, true, false, not, Option, Some, None, IsTrue, refl}
use Rattle.std.proofs.Common.{ap, cond}
use Rattle.std.specs.FinMap.Entries.{find, is_sorted}
use Rattle.std.specs.Ordering.{eq_by_cmp}
use Rattle.value_checks.proofs.Members.{not_placed}
use Rattle.value_model.specs.Order.{key_cmp}
use Rattle.value_model.specs.Places.{without_key}
use Rattle.value_model.specs.Plain.{Plain, Table}
use Rattle.value_model.specs.Search.{IsPlace}
use Rattle.value_model.specs.declared.key.Key.{Key}

keep : (b : Bool) (e : Key × Plain) (es rest : Table) (o : Option Plain) → cond b (Some e.1) o ≡ None → (o ≡ None → rest ≡ es) → cond (not b) (e ∷ rest) rest ≡ e ∷ es
keep true e es rest o h same = absurd (cc)
keep false e es rest o h same = ap (λ (ds : Table). e ∷ ds) (same h)

pub none_without : (k : Key) (es : Table) → find key_cmp k es ≡ None → without_key k es ≡ es
none_without k [] h = refl
none_without k (e ∷ es) h = keep (eq_by_cmp key_cmp k e.0) e es (without_key k es) (find key_cmp k es) h (none_without k es)

pub without_absent : {X : Type 0} (f : X → Key × Plain) (k : Key) (xs : List X) (i : ℕ) → IsPlace f k xs (Err i) → IsTrue (is_sorted key_cmp (map f xs)) → without_key k (map f xs) ≡ map f xs
without_absent f k xs i h s = none_without k (map f xs) (not_placed f k xs i h s)
