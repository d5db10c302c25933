-- A list's edits, seen as a table of entries with the key null: laws.
use Rattle.std.specs.Prelude.{◌≡◌, ℕ, ◌+◌, ◌<◌, List, [], ◌∷◌, ◌++◌, map, length, refl}
use Rattle.std.proofs.Common.{zero, suc, ap, arith, take, drop, set, add-one}
use Rattle.std.specs.List.{insert, remove}
use Rattle.value_model.specs.Plain.{Plain, Table}
use Rattle.values.specs.Seen.{of_item}

pub length_items : (vs : List Plain) → length (map of_item vs) ≡ length vs
length_items [] = refl
length_items (v ∷ vs) = ap suc (length_items vs)

pub append_items : (vs : List Plain) (w : Plain) → map of_item (vs ++ w ∷ []) ≡ map of_item vs ++ of_item w ∷ []
append_items [] w = refl
append_items (v ∷ vs) w = ap (λ (es : Table). of_item v ∷ es) (append_items vs w)

pub insert_items : (vs : List Plain) (i : ℕ) (w : Plain) → map of_item (insert vs i w) ≡ insert (map of_item vs) i (of_item w)
insert_items [] zero w = refl
insert_items [] (suc i) w = refl
insert_items (v ∷ vs) zero w = refl
insert_items (v ∷ vs) (suc i) w = ap (λ (es : Table). of_item v ∷ es) (insert_items vs i w)

pub remove_items : (vs : List Plain) (i : ℕ) → map of_item (remove vs i) ≡ remove (map of_item vs) i
remove_items [] zero = refl
remove_items [] (suc i) = refl
remove_items (v ∷ vs) zero = refl
remove_items (v ∷ vs) (suc i) = ap (λ (es : Table). of_item v ∷ es) (remove_items vs i)

pub take_items : (vs : List Plain) (i : ℕ) → map of_item (take i vs) ≡ take i (map of_item vs)
take_items [] zero = refl
take_items [] (suc i) = refl
take_items (v ∷ vs) zero = refl
take_items (v ∷ vs) (suc i) = ap (λ (es : Table). of_item v ∷ es) (take_items vs i)

pub map_set_items : (vs : List Plain) (i : ℕ) (w : Plain) → map of_item (set vs i w) ≡ set (map of_item vs) i (of_item w)
map_set_items [] zero w = refl
map_set_items [] (suc i) w = refl
map_set_items (v ∷ vs) zero w = refl
map_set_items (v ∷ vs) (suc i) w = ap (λ (es : Table). of_item v ∷ es) (map_set_items vs i w)

set_suc : (vs : List Plain) (i : ℕ) (w : Plain) → i < length vs → map of_item (set vs i w) ≡ take i (map of_item vs) ++ of_item w ∷ drop (suc i) (map of_item vs)
set_suc [] i w h = absurd (omega arith)
set_suc (v ∷ vs) zero w h = refl
set_suc (v ∷ vs) (suc i) w h = ap (λ (es : Table). of_item v ∷ es) (set_suc vs i w (omega arith))

pub set_items : (vs : List Plain) (i : ℕ) (w : Plain) → i < length vs → map of_item (set vs i w) ≡ take i (map of_item vs) ++ of_item w ∷ drop (i + 1) (map of_item vs)
set_items vs i w h = rw add-one (set_suc vs i w h)

push_suc : (vs : List Plain) (w : Plain) → map of_item (vs ++ w ∷ []) ≡ take (length vs) (map of_item vs) ++ of_item w ∷ drop (suc (length vs)) (map of_item vs)
push_suc [] w = refl
push_suc (v ∷ vs) w = ap (λ (es : Table). of_item v ∷ es) (push_suc vs w)

pub push_items : (vs : List Plain) (i : ℕ) (w : Plain) → i ≡ length vs → map of_item (vs ++ w ∷ []) ≡ take i (map of_item vs) ++ of_item w ∷ drop (i + 1) (map of_item vs)
push_items vs i w h = rw (h, add-one) (push_suc vs w)
