-- When a table is the same as before.
use Rattle.std.proofs.Common.{◌≡◌, ◌≢◌, ℕ, zero, suc, ◌<◌, List, [], ◌∷◌, length, map, ap, refl, sym, ◌∙◌, subst, Bool, true, false, arith, get_or, set, None, Less, Equal, Greater, Ordering}
use Rattle.std.specs.Prelude.{IsTrue, ◌&&◌}
use Rattle.std.specs.FinMap.Entries.{find, is_sorted, same_entries}
use Rattle.std.proofs.lemmas.Cmp.{tied_itself}
use Rattle.std.proofs.lemmas.Bool.{and_right}
use lib.Dec.{T}
use Rattle.value_model.specs.declared.key.Key.{Key}
use Rattle.value_model.specs.Order.{key_cmp, key_total, key_exact}
use Rattle.value_model.specs.Places.{without_key}
use Rattle.value_model.specs.Plain.{Plain, Table}
use Rattle.value_model.proofs.Tables.{is_eq-same, find_without_same, find_without_other, without_ascends}
use Rattle.host_machine.specs.Differences.{same, same_table}

-- each value is a primitive, so that it is the same as itself
abbrev pub HasPrimitives : Table → Type 0
HasPrimitives [] = Unit {0}
HasPrimitives (e ∷ es) = (same e.1 e.1 ≡ true) × HasPrimitives es

both : (a b : Bool) → a ≡ true → (a && b) ≡ b
both true b h = refl
both false b h = absurd (cc)

and_true : (a : Bool) → (a && true) ≡ a
and_true true = refl
and_true false = refl

pub same_self : (es : Table) → HasPrimitives es → same_table es es ≡ true
same_self [] h = refl
same_self (e ∷ es) h = rw (is_eq-same e.0, h.0) (same_self es h.1)

-- tables of two lengths aren't the same
pub other_length : (ds es : Table) → length ds ≢ length es → same_table ds es ≡ false
other_length [] [] h = absurd (h refl)
other_length [] (e ∷ es) h = refl
other_length (d ∷ ds) [] h = refl
other_length (d ∷ ds) (e ∷ es) h = and_right _ _ (other_length ds es (λ p. h (ap suc p)))

-- where one value was set, the tables are the same exactly where it is
pub same_set : {X : Type 0} (f : X → Key × Plain) (xs : List X) (i : ℕ) (d x : X) → HasPrimitives (map f xs) → i < length xs → (f x).0 ≡ (f (get_or xs i d)).0 → same_table (map f xs) (map f (set xs i x)) ≡ same (f (get_or xs i d)).1 (f x).1
same_set f [] i d x h l e = absurd (omega arith)
same_set f (y ∷ xs) zero d x h l e = rw (e, is_eq-same (f y).0, same_self (map f xs) h.1) (and_true (same (f y).1 (f x).1))
same_set f (y ∷ xs) (suc i) d x h l e = rw (is_eq-same (f y).0, h.0) (same_set f xs i d x h.1 (omega arith) e)

tied : (k : Key) → key_cmp k k ≡ Equal
tied k = tied_itself key_total k

less_not_equal : (j k : Key) → key_cmp j k ≡ Less → j ≢ k
less_not_equal j k p e = let h : key_cmp k k ≡ Less = subst (λ (q : Key). key_cmp q k ≡ Less) e p in let t = tied k in cc

greater_not_equal : (j k : Key) → key_cmp j k ≡ Greater → j ≢ k
greater_not_equal j k p e = let h : key_cmp k k ≡ Greater = subst (λ (q : Key). key_cmp q k ≡ Greater) e p in let t = tied k in cc

-- an entry that isn't there needs no removing
without_find : (j k : Key) (es : Table) (o : Ordering) → key_cmp j k ≡ o → find key_cmp k es ≡ None → find key_cmp j (without_key k es) ≡ find key_cmp j es
without_find j k es Less p h = find_without_other j k es (λ e. less_not_equal j k p e)
without_find j k es Equal p h = subst (λ (q : Key). find key_cmp q (without_key k es) ≡ find key_cmp q es) (sym (key_exact j k p)) (find_without_same k es ∙ sym h)
without_find j k es Greater p h = find_without_other j k es (λ e. greater_not_equal j k p e)

pub without_absent : (k : Key) (es : Table) → IsTrue (is_sorted key_cmp es) → find key_cmp k es ≡ None → without_key k es ≡ es
without_absent k es s h = same_entries key_cmp key_total key_exact (without_key k es) es (subst T (sym (without_ascends k es s)) tt) (subst T (sym s) tt) (λ j. without_find j k es (key_cmp j k) refl h)
