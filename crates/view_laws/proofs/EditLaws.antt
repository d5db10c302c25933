-- What an operation at a step leaves: every other entry, and the order of the keys.
use Rattle.std.specs.Prelude.{◌≡◌, ◌≢◌, ℕ, ◌+◌, ◌≤◌, ◌==◌, pos, negsuc, Bool, true, false, List, [], ◌∷◌, ◌++◌, map, length, Option, Some, None, Result, Ok, IsTrue, slice_get, nat_lt, nat_le, refl}
use Rattle.std.proofs.Common.{zero, suc, ap, subst, arith, take, drop, add-one, Less, Equal, Greater}
use Rattle.std.specs.List.{insert, remove}
use Rattle.std.specs.Ordering.{eq_by_cmp, is_eq}
use Rattle.std.proofs.lemmas.Bool.{eqb-true, ltb-false}
use Rattle.std.specs.declared.cmp.Ordering.{Ordering}
use Rattle.value_model.specs.declared.key.Key.{Key}
use Rattle.value_model.specs.declared.key.Key.TheVariants as key
use Rattle.value_model.specs.declared.kind.Kind.{Kind}
use Rattle.value_model.specs.declared.kind.Kind.TheVariants as kind
use Rattle.value_model.specs.declared.op.Op.{Op}
use Rattle.value_model.specs.declared.op.Op.TheVariants.{Add, Replace, Remove}
use Rattle.value_model.specs.declared.patch_why.PatchWhy.{PatchWhy}
use Rattle.value_model.specs.declared.patch_why.PatchWhy.TheVariants as why
use Rattle.value_model.specs.Limits.{is_long_key, is_reserved_text}
use Rattle.value_model.specs.Order.{key_cmp, key_exact}
use Rattle.value_model.specs.Places.{without_key, ascends_at, child_at}
use Rattle.value_model.specs.Plain.{Plain, Entries, Table, prim, node, list_of}
use Rattle.value_model.proofs.Tables.{is_eq-same, find_put_other, find_without_other, put_ascends, without_ascends}
use Rattle.patch_meaning.specs.Applying.{unless, with_value, put_entry, in_object, in_map, in_set, element, insert_at, set_at, take_out, in_list, edited}
use Rattle.view_laws.specs.InPlace.{is_element, is_member, changes_entry}
use Rattle.view_laws.specs.Standing.{entry_in}

-- ---- what is known where a test lets a patch pass
pub passed : {X : Type 0} (b : Bool) (w : PatchWhy) (r : Result X PatchWhy) (x : X) → unless b w r ≡ Ok x → r ≡ Ok x
passed true w r x h = absurd (cc)
passed false w r x h = h

pub passed_test : {X : Type 0} (b : Bool) (w : PatchWhy) (r : Result X PatchWhy) (x : X) → unless b w r ≡ Ok x → b ≡ false
passed_test true w r x h = absurd (cc)
passed_test false w r x h = refl

pub ok_is : {X : Type 0} (x y : X) → (let r : Result X PatchWhy = Ok x in r ≡ Ok y) → x ≡ y
ok_is x y h = cc

valued : (v : Option Plain) (f : Plain → Result Table PatchWhy) (es : Table) → with_value v f ≡ Ok es → (w : Plain) × (v ≡ Some w) × (f w ≡ Ok es)
valued None f es h = absurd (cc)
valued (Some w) f es h = (w, refl, h)

same_from_test : (o : Ordering) → is_eq o ≡ true → o ≡ Equal
same_from_test Less h = absurd (cc)
same_from_test Equal h = refl
same_from_test Greater h = absurd (cc)

pub same_key : (j k : Key) → eq_by_cmp key_cmp j k ≡ true → j ≡ k
same_key j k h = key_exact j k (same_from_test _ h)

pub other_key : (j k : Key) → eq_by_cmp key_cmp j k ≡ false → j ≢ k
other_key j k h e = let same : eq_by_cmp key_cmp j k ≡ true = subst (λ (q : Key). eq_by_cmp key_cmp j q ≡ true) e (is_eq-same j) in absurd (cc)

-- ---- a container's table after an operation at a key: every other entry is as it was, and the keys ascend as before
pub record Stays (kind : Kind) (j : Key) (old new : Table) : Type 0 where
  pub others : (k : Key) → k ≢ j → entry_in kind k new ≡ entry_in kind k old
  pub ascends : IsTrue (ascends_at kind old) → IsTrue (ascends_at kind new)

pub stays_same : (kind : Kind) (j : Key) (old new mid : Table) → mid ≡ new → Stays kind j old mid → Stays kind j old new
stays_same kind j old new mid e s = subst (Stays kind j old) e s

put_obj : (j : Key) (w : Plain) (es : Table) → Stays kind.Obj j es (put_entry j w es)
put_obj j w es = record { others = λ k n. find_put_other k j w es n; ascends = λ h. put_ascends j w es h }

put_map : (j : Key) (w : Plain) (es : Table) → Stays kind.Map j es (put_entry j w es)
put_map j w es = record { others = λ k n. find_put_other k j w es n; ascends = λ h. put_ascends j w es h }

put_set : (j : Key) (w : Plain) (es : Table) → Stays kind.Set j es (put_entry j w es)
put_set j w es = record { others = λ k n. find_put_other k j w es n; ascends = λ h. put_ascends j w es h }

cut_obj : (j : Key) (es : Table) → Stays kind.Obj j es (without_key j es)
cut_obj j es = record { others = λ k n. find_without_other k j es n; ascends = λ h. without_ascends j es h }

cut_map : (j : Key) (es : Table) → Stays kind.Map j es (without_key j es)
cut_map j es = record { others = λ k n. find_without_other k j es n; ascends = λ h. without_ascends j es h }

cut_set : (j : Key) (es : Table) → Stays kind.Set j es (without_key j es)
cut_set j es = record { others = λ k n. find_without_other k j es n; ascends = λ h. without_ascends j es h }

-- ---- objects
written_obj : (s : List ℕ) (v : Option Plain) (es new : Table)
    → unless (is_reserved_text s) why.ReservedKey (unless (is_long_key (key.Text s)) why.KeyTooLong (with_value v (λ w. Ok (put_entry (key.Text s) w es)))) ≡ Ok new → Stays kind.Obj (key.Text s) es new
written_obj s v es new h =
    let a = passed (is_reserved_text s) _ _ _ h in
    let b = passed (is_long_key (key.Text s)) _ _ _ a in
    let c = valued v _ new b in
    stays_same kind.Obj _ es new _ (ok_is _ _ c.2) (put_obj (key.Text s) c.0 es)

removed_obj : (s : List ℕ) (es new : Table) → unless (is_reserved_text s) why.ReservedKey (Ok (without_key (key.Text s) es)) ≡ Ok new → Stays kind.Obj (key.Text s) es new
removed_obj s es new h = stays_same kind.Obj _ es new _ (ok_is _ _ (passed (is_reserved_text s) _ _ _ h)) (cut_obj (key.Text s) es)

object_stays : (op : Op) (j : Key) (v : Option Plain) (es new : Table) → in_object op j v es ≡ Ok new → Stays kind.Obj j es new
object_stays Remove (key.Text s) v es new h = removed_obj s es new h
object_stays Add (key.Text s) v es new h = written_obj s v es new h
object_stays Replace (key.Text s) v es new h = written_obj s v es new h
object_stays Add key.Null v es new h = absurd (cc)
object_stays Add (key.Bool b) v es new h = absurd (cc)
object_stays Add (key.Int n) v es new h = absurd (cc)
object_stays Replace key.Null v es new h = absurd (cc)
object_stays Replace (key.Bool b) v es new h = absurd (cc)
object_stays Replace (key.Int n) v es new h = absurd (cc)
object_stays Remove key.Null v es new h = absurd (cc)
object_stays Remove (key.Bool b) v es new h = absurd (cc)
object_stays Remove (key.Int n) v es new h = absurd (cc)

-- ---- Maps
written_map : (k : Key) (v : Option Plain) (es new : Table) → unless (is_long_key k) why.KeyTooLong (with_value v (λ w. Ok (put_entry k w es))) ≡ Ok new → Stays kind.Map k es new
written_map k v es new h =
    let b = passed (is_long_key k) _ _ _ h in
    let c = valued v _ new b in
    stays_same kind.Map _ es new _ (ok_is _ _ c.2) (put_map k c.0 es)

map_stays : (op : Op) (j : Key) (v : Option Plain) (es new : Table) → in_map op j v es ≡ Ok new → Stays kind.Map j es new
map_stays Remove j v es new h = stays_same kind.Map _ es new _ (ok_is _ _ h) (cut_map j es)
map_stays Add j v es new h = written_map j v es new h
map_stays Replace j v es new h = written_map j v es new h

-- ---- Sets: the step is the member
set_stays : (op : Op) (j : Key) (v : Option Plain) (es new : Table) → is_member j v ≡ true → in_set op v es ≡ Ok new → Stays kind.Set j es new
set_stays Add j (Some (prim k)) es new m h =
    let a = passed (is_long_key k) _ _ _ h in
    subst (λ (q : Key). Stays kind.Set q es new) (same_key k j m) (stays_same kind.Set _ es new _ (ok_is _ _ a) (put_set k (prim k) es))
set_stays Remove j (Some (prim k)) es new m h =
    subst (λ (q : Key). Stays kind.Set q es new) (same_key k j m) (stays_same kind.Set _ es new _ (ok_is _ _ h) (cut_set k es))
set_stays Replace j (Some (prim k)) es new m h = absurd (cc)
set_stays op j (Some (node kind fs)) es new m h = absurd (cc)
set_stays op j None es new m h = absurd (cc)

-- ---- lists: the elements at other indexes stay there
abbrev pub element_at : ℕ → Table → Option Plain
element_at n es = slice_get (map (λ (e : Key × Plain). e.1) es) n

at_new : (es : Table) (i n : ℕ) (x : Key × Plain) → i ≡ length es → n ≢ i → element_at n (insert es i x) ≡ element_at n es
at_new [] zero zero x h d = absurd (d refl)
at_new [] zero (suc n) x h d = refl
at_new [] (suc i) n x h d = absurd (omega arith)
at_new (e ∷ es) zero n x h d = absurd (omega arith)
at_new (e ∷ es) (suc i) zero x h d = refl
at_new (e ∷ es) (suc i) (suc n) x h d = at_new es i n x (omega arith) (λ q. d (ap suc q))

at_set_suc : (es : Table) (i n : ℕ) (x : Key × Plain) → i ≤ length es → n ≢ i → element_at n (take i es ++ x ∷ drop (suc i) es) ≡ element_at n es
at_set_suc [] zero zero x h d = absurd (d refl)
at_set_suc [] zero (suc n) x h d = refl
at_set_suc [] (suc i) n x h d = absurd (omega arith)
at_set_suc (e ∷ es) zero zero x h d = absurd (d refl)
at_set_suc (e ∷ es) zero (suc n) x h d = refl
at_set_suc (e ∷ es) (suc i) zero x h d = refl
at_set_suc (e ∷ es) (suc i) (suc n) x h d = at_set_suc es i n x (omega arith) (λ q. d (ap suc q))

at_set : (es : Table) (i n : ℕ) (x : Key × Plain) → i ≤ length es → n ≢ i → element_at n (take i es ++ x ∷ drop (i + 1) es) ≡ element_at n es
at_set es i n x h d = rw add-one (at_set_suc es i n x h d)

at_cut : (es : Table) (i n : ℕ) → suc i ≡ length es → n ≢ i → element_at n (remove es i) ≡ element_at n es
at_cut [] i n h d = absurd (omega arith)
at_cut (e ∷ []) zero zero h d = absurd (d refl)
at_cut (e ∷ []) zero (suc n) h d = refl
at_cut (e ∷ f ∷ es) zero n h d = absurd (omega arith)
at_cut (e ∷ es) (suc i) zero h d = refl
at_cut (e ∷ es) (suc i) (suc n) h d = at_cut es i n (omega arith) (λ q. d (ap suc q))

-- a list's entries are its elements
pub elements : (i : ℕ) (old new : Table) → ((n : ℕ) → n ≢ i → element_at n new ≡ element_at n old) → (k : Key) → k ≢ key.Int (pos i) → child_at kind.List k new ≡ child_at kind.List k old
elements i old new h key.Null d = refl
elements i old new h (key.Bool b) d = refl
elements i old new h (key.Int (pos n)) d = h n (λ q. d (ap (λ m. key.Int (pos m)) q))
elements i old new h (key.Int (negsuc n)) d = refl
elements i old new h (key.Text s) d = refl

of_list : (i : ℕ) (old new : Table) → ((n : ℕ) → n ≢ i → element_at n new ≡ element_at n old) → Stays kind.List (key.Int (pos i)) old new
of_list i old new h = record { others = λ k d. elements i old new h k d; ascends = λ t. refl }

list_add : (i : ℕ) (v : Option Plain) (es new : Table) → (i == length es) ≡ true → insert_at (pos i) v es ≡ Ok new → Stays kind.List (key.Int (pos i)) es new
list_add i v es new m h =
    let last : i ≡ length es = eqb-true _ _ m in
    let c = valued v _ new (passed (nat_lt (length es) i) _ _ _ h) in
    stays_same kind.List _ es new _ (ok_is _ _ c.2) (of_list i es _ (λ n d. at_new es i n (element c.0) last d))

list_set : (i : ℕ) (v : Option Plain) (es new : Table) → set_at (pos i) v es ≡ Ok new → Stays kind.List (key.Int (pos i)) es new
list_set i v es new h =
    let here : i ≤ length es = ltb-false _ _ (passed_test (nat_lt (length es) i) _ _ _ h) in
    let c = valued v _ new (passed (nat_lt (length es) i) _ _ _ h) in
    stays_same kind.List _ es new _ (ok_is _ _ c.2) (of_list i es _ (λ n d. at_set es i n (element c.0) here d))

list_cut : (i : ℕ) (es new : Table) → (suc i == length es) ≡ true → take_out (pos i) es ≡ Ok new → Stays kind.List (key.Int (pos i)) es new
list_cut i es new m h =
    let last : suc i ≡ length es = eqb-true _ _ m in
    stays_same kind.List _ es new _ (ok_is _ _ (passed (nat_le (length es) i) _ _ _ h)) (of_list i es _ (λ n d. at_cut es i n last d))

list_stays : (op : Op) (j : Key) (v : Option Plain) (es new : Table) → is_element op j (length es) ≡ true → in_list op j v es ≡ Ok new → Stays kind.List j es new
list_stays Add (key.Int (pos i)) v es new m h = list_add i v es new m h
list_stays Replace (key.Int (pos i)) v es new m h = list_set i v es new h
list_stays Replace (key.Int (negsuc i)) v es new m h = absurd (cc)
list_stays Remove (key.Int (pos i)) v es new m h = list_cut i es new m h
list_stays Add key.Null v es new m h = absurd (cc)
list_stays Add (key.Bool b) v es new m h = absurd (cc)
list_stays Add (key.Int (negsuc i)) v es new m h = absurd (cc)
list_stays Add (key.Text s) v es new m h = absurd (cc)
list_stays Replace key.Null v es new m h = absurd (cc)
list_stays Replace (key.Bool b) v es new m h = absurd (cc)
list_stays Replace (key.Text s) v es new m h = absurd (cc)
list_stays Remove key.Null v es new m h = absurd (cc)
list_stays Remove (key.Bool b) v es new m h = absurd (cc)
list_stays Remove (key.Int (negsuc i)) v es new m h = absurd (cc)
list_stays Remove (key.Text s) v es new m h = absurd (cc)

-- ---- any container
pub edited_stays : (kind : Kind) (op : Op) (j : Key) (v : Option Plain) (es : Entries) (new : Table) → changes_entry op j v (node kind es) ≡ true → edited kind op j v (list_of es) ≡ Ok new → Stays kind j (list_of es) new
edited_stays kind.Obj op j v es new m h = object_stays op j v (list_of es) new h
edited_stays kind.List op j v es new m h = list_stays op j v (list_of es) new m h
edited_stays kind.Map op j v es new m h = map_stays op j v (list_of es) new h
edited_stays kind.Set op j v es new m h = set_stays op j v (list_of es) new m h
