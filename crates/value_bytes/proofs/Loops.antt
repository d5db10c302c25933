-- Reading entries one after the other, as a loop does.
use Rattle.std.proofs.Common.{◌≡◌, ℕ, suc, ◌-◌, ◌+◌, ◌≤◌, ◌<◌, true, false, List, [], ◌∷◌, ◌++◌, length, Option, Some, None, slice_get, refl, sym, ap, ◌∙◌, append_assoc, arith}
use Rattle.std.proofs.lemmas.List.{append-nil, length-append}
use Rattle.value_model.specs.declared.key.Key.{Key}
use Rattle.value_model.specs.declared.key.Key.TheVariants.{Null}
use Rattle.value_model.specs.declared.kind.Kind.{Kind}
use Rattle.value_model.specs.declared.kind.Kind.TheVariants as kind
use Rattle.value_model.specs.Plain.{Plain, prim}
use Rattle.value_bytes_spec.specs.Reading.{◌>>=◌, key_at, entry_at, follows, entries_at, prim_at, value_within, nested_at}
use Rattle.value_bytes.specs.declared.stop.Stop.{Stop}
use Rattle.value_bytes.specs.declared.stop.Stop.TheVariants.{NoSpelling, Memory}
use Rattle.value_bytes.specs.Gives.{Stops}
use Rattle.value_bytes.specs.Runs.{last_key, with_front}

get_last : (es : List (Key × Plain)) (e : Key × Plain) → slice_get (es ++ e ∷ []) (length es) ≡ Some e
get_last [] e = refl
get_last (d ∷ es) e = get_last es e

last_key_push : (es : List (Key × Plain)) (e : Key × Plain) → last_key (es ++ e ∷ []) ≡ Some e.0
last_key_push es e =
    let n : length (es ++ e ∷ []) - 1 ≡ length es = omega (arith, length-append es (e ∷ [])) in
    rw (n, get_last es e) refl

regroup : {A : Type 0} (front : List A) (e : A) (read : Option (List A × List ℕ)) → with_front front (read >>= λ x. Some (e ∷ x.0, x.1)) ≡ with_front (front ++ e ∷ []) read
regroup front e (Some x) = ap (λ (es : List _). Some (es, x.1)) (simp append_assoc)
regroup front e None = refl

pub goes_on : (kind : Kind) (inner : List ℕ → Option (Plain × List ℕ)) (front : List (Key × Plain)) (count i : ℕ) (bytes : List ℕ) (e : Key × Plain) (after : List ℕ) (total : Option (List (Key × Plain) × List ℕ))
    → i < count → entry_at kind inner bytes ≡ Some (e, after) → follows kind (last_key front) e.0 ≡ true
    → with_front front (entries_at kind inner (count - i) (last_key front) bytes) ≡ total
    → with_front (front ++ e ∷ []) (entries_at kind inner (count - (i + 1)) (last_key (front ++ e ∷ [])) after) ≡ total
unfolding entries_at
goes_on kind inner front count i bytes e after total lt h f so_far =
    let k : count - i ≡ suc (count - (i + 1)) = omega arith in
    let one : with_front front (entries_at kind inner (count - i) (last_key front) bytes) ≡ with_front (front ++ e ∷ []) (entries_at kind inner (count - (i + 1)) (Some e.0) after) = rw (k, h, f) (regroup front e (entries_at kind inner (count - (i + 1)) (Some e.0) after)) in
    rw (last_key_push front e) (sym one ∙ so_far)

-- an entry that may not stand there
pub refused : (kind : Kind) (inner : List ℕ → Option (Plain × List ℕ)) (front : List (Key × Plain)) (count i : ℕ) (bytes : List ℕ) (e : Key × Plain) (after : List ℕ) (total : Option (List (Key × Plain) × List ℕ))
    → i < count → entry_at kind inner bytes ≡ Some (e, after) → follows kind (last_key front) e.0 ≡ false
    → with_front front (entries_at kind inner (count - i) (last_key front) bytes) ≡ total → total ≡ None
unfolding entries_at
refused kind inner front count i bytes e after total lt h f so_far =
    let k : count - i ≡ suc (count - (i + 1)) = omega arith in
    let one : with_front front (entries_at kind inner (count - i) (last_key front) bytes) ≡ None = rw (k, h, f) refl in
    sym so_far ∙ one

pub ends : (stop : Stop) (kind : Kind) (inner : List ℕ → Option (Plain × List ℕ)) (front : List (Key × Plain)) (count i : ℕ) (bytes : List ℕ) (total : Option (List (Key × Plain) × List ℕ))
    → i < count → Stops stop (entry_at kind inner bytes)
    → with_front front (entries_at kind inner (count - i) (last_key front) bytes) ≡ total → Stops stop total
unfolding entries_at
ends Memory kind inner front count i bytes total lt h so_far = tt
ends NoSpelling kind inner front count i bytes total lt h so_far =
    let k : count - i ≡ suc (count - (i + 1)) = omega arith in
    let one : with_front front (entries_at kind inner (count - i) (last_key front) bytes) ≡ None = rw (k, h) refl in
    sym so_far ∙ one

pub is_done : (kind : Kind) (inner : List ℕ → Option (Plain × List ℕ)) (front : List (Key × Plain)) (count i : ℕ) (bytes : List ℕ) (total : Option (List (Key × Plain) × List ℕ))
    → count ≤ i → with_front front (entries_at kind inner (count - i) (last_key front) bytes) ≡ total → total ≡ Some (front, bytes)
unfolding entries_at
is_done kind inner front count i bytes total le so_far =
    let k : count - i ≡ 0 = omega arith in
    let one : with_front front (entries_at kind inner (count - i) (last_key front) bytes) ≡ Some (front, bytes) = rw k (ap (λ (es : List (Key × Plain)). Some (es, bytes)) (append-nil front)) in
    sym so_far ∙ one

-- ---- entries that are no more than a value or a key

pub item_read : (inner : List ℕ → Option (Plain × List ℕ)) (bytes : List ℕ) (v : Plain) (after : List ℕ) → inner bytes ≡ Some (v, after) → entry_at kind.List inner bytes ≡ Some ((Null, v), after)
unfolding entry_at
item_read inner bytes v after h = rw h refl

pub item_stops : (stop : Stop) (inner : List ℕ → Option (Plain × List ℕ)) (bytes : List ℕ) → Stops stop (inner bytes) → Stops stop (entry_at kind.List inner bytes)
unfolding entry_at
item_stops Memory inner bytes h = tt
item_stops NoSpelling inner bytes h = rw h refl

pub member_read : (inner : List ℕ → Option (Plain × List ℕ)) (bytes : List ℕ) (k : Key) (after : List ℕ) → key_at bytes ≡ Some (k, after) → entry_at kind.Set inner bytes ≡ Some ((k, prim k), after)
unfolding entry_at
member_read inner bytes k after h = rw h refl

pub member_stops : (stop : Stop) (inner : List ℕ → Option (Plain × List ℕ)) (bytes : List ℕ) → Stops stop (key_at bytes) → Stops stop (entry_at kind.Set inner bytes)
unfolding entry_at
member_stops Memory inner bytes h = tt
member_stops NoSpelling inner bytes h = rw h refl

-- ---- the levels that are left

pub no_level : (n : ℕ) → n ≡ 0 → (bytes : List ℕ) → nested_at n bytes ≡ prim_at bytes
unfolding nested_at
no_level n h bytes = rw h refl

pub a_level : (n : ℕ) → 0 < n → (bytes : List ℕ) → nested_at n bytes ≡ value_within (nested_at (n - 1)) bytes
unfolding nested_at
a_level n h bytes = let k : n ≡ suc (n - 1) = omega arith in ap (λ (m : ℕ). nested_at m bytes) k
