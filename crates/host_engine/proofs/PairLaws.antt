-- Patches pushed one after another, up to the differences of two tables.
use Rattle.std.proofs.Common.{◌≡◌, ◌<◌, ◌≤◌, ◌+◌, ℕ, zero, suc, List, [], ◌∷◌, ◌++◌, map, refl, sym, ap, ◌∙◌, drop, length, get_or, add-one, append_assoc, append-nil, arith, Less, Equal, Greater, ◌⊎◌, inl, inr}
use Rattle.std.specs.Prelude.{IsTrue, Some, None}
use Rattle.std.proofs.Math.Seq.{drop-cons}
use Rattle.std.specs.FinMap.Entries.{is_sorted}
use Rattle.value_model.specs.declared.op.Op.TheVariants.{Add, Remove}
use Rattle.value_model.specs.Order.{key_cmp}
use Rattle.value_model.specs.Plain.{Table as TableOf}
use Rattle.value_model.specs.Search.{right_true}
use Rattle.values.specs.declared.patch.Patch.{Patch}
use Rattle.host_machine.specs.Differences.{patch, differences}
use Rattle.host_machine.proofs.DifferenceLaws.{differences-none, differences-removed, differences-added, differences-less, differences-greater, differences-equal}
use Rattle.host_engine.specs.Kept.{of_field}
use Rattle.host_engine.specs.Pairs.{first_patches}
use Rattle.host_engine.specs.declared.fields.Field.{Field}

abbrev pub Sorted : TableOf → Type 0
Sorted es = IsTrue (is_sorted key_cmp es)

-- the fields from an index on
abbrev pub from : ℕ → List Field → TableOf
from i xs = map of_field (drop i xs)

pub from_next : (xs : List Field) (i : ℕ) (x : Field) → i < length xs → x ≡ get_or xs i x → from i xs ≡ of_field x ∷ from (i + 1) xs
from_next xs i x h e = rw (add-one, drop-cons xs i x) (ap (λ (y : Field). of_field y ∷ from (suc i) xs) (sym e))

pub sorted_next : (xs : List Field) (i : ℕ) (x : Field) → i < length xs → x ≡ get_or xs i x → Sorted (from i xs) → Sorted (from (i + 1) xs)
sorted_next xs i x h e s = right_true _ _ (rw (from_next xs i x h e) at s)

-- the first patches are pushed, and the rest is left
pushed : (done one now rest whole all : List Patch) → now ≡ done ++ one → whole ≡ one ++ rest → done ++ whole ≡ all → now ++ rest ≡ all
pushed done one now rest whole all n w h = ap (λ (ps : List Patch). ps ++ rest) n ∙ append_assoc done one rest ∙ ap (λ (ps : List Patch). done ++ ps) (sym w) ∙ h

pub removed_next : (xs : List Field) (i : ℕ) (x : Field) (done now all : List Patch) → i < length xs → x ≡ get_or xs i x → Sorted (from i xs)
    → done ++ differences (from i xs) [] ≡ all → now ≡ done ++ patch Remove (of_field x).0 None ∷ [] → now ++ differences (from (i + 1) xs) [] ≡ all
removed_next xs i x done now all h e s p n =
    let next = from_next xs i x h e in
    pushed done (patch Remove (of_field x).0 None ∷ []) now (differences (from (i + 1) xs) []) (differences (from i xs) []) all n
    (ap (λ (es : TableOf). differences es []) next ∙ differences-removed (of_field x) (from (i + 1) xs) (rw next at s)) p

pub added_next : (xs : List Field) (i : ℕ) (x : Field) (done now all : List Patch) → i < length xs → x ≡ get_or xs i x → Sorted (from i xs)
    → done ++ differences [] (from i xs) ≡ all → now ≡ done ++ patch Add (of_field x).0 (Some (of_field x).1) ∷ [] → now ++ differences [] (from (i + 1) xs) ≡ all
added_next xs i x done now all h e s p n =
    let next = from_next xs i x h e in
    pushed done (patch Add (of_field x).0 (Some (of_field x).1) ∷ []) now (differences [] (from (i + 1) xs)) (differences [] (from i xs)) all n
    (ap (λ (es : TableOf). differences [] es) next ∙ differences-added (of_field x) (from (i + 1) xs) (rw next at s)) p

-- at the end nothing is left
from_end : (xs : List Field) (i : ℕ) → length xs ≤ i → from i xs ≡ []
from_end [] zero h = refl
from_end [] (suc i) h = refl
from_end (x ∷ xs) zero h = absurd (omega arith)
from_end (x ∷ xs) (suc i) h = from_end xs i (omega arith)

pub removed_end : (xs : List Field) (i : ℕ) (done all : List Patch) → length xs ≤ i → done ++ differences (from i xs) [] ≡ all → done ≡ all
removed_end xs i done all h p = sym (append-nil done) ∙ ap (λ (ps : List Patch). done ++ ps) (sym (ap (λ (es : TableOf). differences es []) (from_end xs i h) ∙ differences-none)) ∙ p

pub added_end : (xs : List Field) (i : ℕ) (done all : List Patch) → length xs ≤ i → done ++ differences [] (from i xs) ≡ all → done ≡ all
added_end xs i done all h p = sym (append-nil done) ∙ ap (λ (ps : List Patch). done ++ ps) (sym (ap (λ (es : TableOf). differences [] es) (from_end xs i h) ∙ differences-none)) ∙ p

-- both at a field: its first patches, by the order of the names
pub merged_less : (xs ys : List Field) (i j : ℕ) (x y : Field) (done now all : List Patch) → i < length xs → j < length ys → x ≡ get_or xs i x → y ≡ get_or ys j y
    → Sorted (from i xs) → Sorted (from j ys) → done ++ differences (from i xs) (from j ys) ≡ all → key_cmp (of_field x).0 (of_field y).0 ≡ Less
    → now ≡ done ++ first_patches Less (of_field x) (of_field y) → now ++ differences (from (i + 1) xs) (from j ys) ≡ all
merged_less xs ys i j x y done now all h k e f s t p o n =
    let next = from_next xs i x h e in
    let other = from_next ys j y k f in
    pushed done (first_patches Less (of_field x) (of_field y)) now (differences (from (i + 1) xs) (from j ys)) (differences (from i xs) (from j ys)) all n
    (rw (next, other) (differences-less (of_field x) (of_field y) (from (i + 1) xs) (from (j + 1) ys) (rw next at s) (rw other at t) o)) p

pub merged_greater : (xs ys : List Field) (i j : ℕ) (x y : Field) (done now all : List Patch) → i < length xs → j < length ys → x ≡ get_or xs i x → y ≡ get_or ys j y
    → Sorted (from i xs) → Sorted (from j ys) → done ++ differences (from i xs) (from j ys) ≡ all → key_cmp (of_field x).0 (of_field y).0 ≡ Greater
    → now ≡ done ++ first_patches Greater (of_field x) (of_field y) → now ++ differences (from i xs) (from (j + 1) ys) ≡ all
merged_greater xs ys i j x y done now all h k e f s t p o n =
    let next = from_next xs i x h e in
    let other = from_next ys j y k f in
    pushed done (first_patches Greater (of_field x) (of_field y)) now (differences (from i xs) (from (j + 1) ys)) (differences (from i xs) (from j ys)) all n
    (rw (next, other) (differences-greater (of_field x) (of_field y) (from (i + 1) xs) (from (j + 1) ys) (rw next at s) (rw other at t) o)) p

pub merged_equal : (xs ys : List Field) (i j : ℕ) (x y : Field) (done now all : List Patch) → i < length xs → j < length ys → x ≡ get_or xs i x → y ≡ get_or ys j y
    → Sorted (from i xs) → Sorted (from j ys) → done ++ differences (from i xs) (from j ys) ≡ all → key_cmp (of_field x).0 (of_field y).0 ≡ Equal
    → now ≡ done ++ first_patches Equal (of_field x) (of_field y) → now ++ differences (from (i + 1) xs) (from (j + 1) ys) ≡ all
merged_equal xs ys i j x y done now all h k e f s t p o n =
    let next = from_next xs i x h e in
    let other = from_next ys j y k f in
    pushed done (first_patches Equal (of_field x) (of_field y)) now (differences (from (i + 1) xs) (from (j + 1) ys)) (differences (from i xs) (from j ys)) all n
    (rw (next, other) (differences-equal (of_field x) (of_field y) (from (i + 1) xs) (from (j + 1) ys) (rw next at s) (rw other at t) o)) p

-- one of the two has come to its end: what is left of the other is removed or added
ended : (es fs : TableOf) → (es ≡ []) ⊎ (fs ≡ []) → differences es fs ≡ differences es [] ++ differences [] fs
ended es fs (inl p) = rw (p, differences-none) refl
ended es fs (inr p) = rw (p, differences-none) (sym (append-nil (differences es [])))

pub merged_end : (xs ys : List Field) (i j : ℕ) (done removed now : List Patch) (all : List Patch) → (length xs ≤ i) ⊎ (length ys ≤ j) → done ++ differences (from i xs) (from j ys) ≡ all
    → removed ≡ done ++ differences (from i xs) [] → now ≡ removed ++ differences [] (from j ys) → now ≡ all
merged_end xs ys i j done removed now all at_end p r n =
    let left : (from i xs ≡ []) ⊎ (from j ys ≡ []) = elim at_end [ inl h ↦ inl (from_end xs i h) | inr h ↦ inr (from_end ys j h) ] in
    n ∙ ap (λ (ps : List Patch). ps ++ differences [] (from j ys)) r ∙ append_assoc done (differences (from i xs) []) (differences [] (from j ys))
    ∙ ap (λ (ps : List Patch). done ++ ps) (sym (ended (from i xs) (from j ys) left)) ∙ p
