-- The differences of two sound states carry the one to the other.
use Rattle.std.proofs.Common.{◌≡◌, ◌≢◌, ℕ, ◌+◌, List, [], ◌∷◌, ◌++◌, map, ap, refl, sym, ◌∙◌, subst, Bool, true, false, cond, Option, Some, None, Result, Ok, Err, Less, Equal, Greater, Ordering, ◌⊎◌, inl, inr, append-nil}
use Rattle.std.specs.Prelude.{IsTrue, ◌&&◌, ◌||◌, not}
use Rattle.std.specs.Ordering.{is_eq, eq_by_cmp}
use Rattle.std.specs.FinMap.Entries.{find, put, is_sorted, find-put, same_entries}
use Rattle.std.proofs.lemmas.Cmp.{tied_itself}
use lib.Dec.{T}
use Rattle.value_model.specs.declared.key.Key.{Key}
use Rattle.value_model.specs.declared.key.Key.TheVariants as key
use Rattle.value_model.specs.declared.kind.Kind.TheVariants as kind
use Rattle.value_model.specs.declared.op.Op.{Op}
use Rattle.value_model.specs.declared.op.Op.TheVariants as op
use Rattle.value_model.specs.declared.patch_why.PatchWhy.{PatchWhy}
use Rattle.value_model.specs.Limits.{is_long_key, is_reserved_key, is_reserved_text}
use Rattle.value_model.specs.Order.{key_cmp, key_total, key_exact}
use Rattle.value_model.specs.Places.{without_key}
use Rattle.value_model.specs.Plain.{Plain, Table, prim, node, entries, list_of}
use Rattle.value_model.specs.Search.{left_true, right_true}
use Rattle.value_model.proofs.Steps.{list_of_entries, entries-list_of}
use Rattle.value_model.proofs.Tables.{is_eq-other, find_put_same, find_put_other, find_without_same, find_without_other, put_ascends, without_ascends}
use Rattle.values.specs.declared.patch.Patch.{Patch}
use Rattle.patch_meaning.specs.Applying.{Fault, applied, applied_from, applied_at, fault_at, edited, in_object, as_node, patched, is_root_replace, has_root_replace}
use Rattle.host_machine.specs.Carries.{IsSound}
use Rattle.host_machine.specs.Differences.{same, union, keys, patch, change, changes, differences}
use Rattle.host_machine.specs.Flat.{is_integer, is_text_key, is_field_key, is_flat_table, is_flat}
use Rattle.host_machine.specs.Machine.{table_of}

abbrev state : Table → Plain
state es = node kind.Obj (entries es)

abbrev Sorted : Table → Type 0
Sorted es = IsTrue (is_sorted key_cmp es)

abbrev Flat : Table → Type 0
Flat es = IsTrue (is_flat_table es)

-- ---- what a flat table has at a key
record IsFieldOf (k : Key) (v : Plain) : Type 0 where
  at_key : IsTrue (is_field_key k)
  integer : IsTrue (is_integer v)

flat_first : (e : Key × Plain) (es : Table) → Flat (e ∷ es) → IsFieldOf e.0 e.1
flat_first e es h =
    let both = left_true (is_field_key e.0 && is_integer e.1) (is_flat_table es) h in
    record { at_key = left_true (is_field_key e.0) (is_integer e.1) both; integer = right_true (is_field_key e.0) (is_integer e.1) both }

flat_rest : (e : Key × Plain) (es : Table) → Flat (e ∷ es) → Flat es
flat_rest e es h = right_true (is_field_key e.0 && is_integer e.1) (is_flat_table es) h

field_at : (k : Key) (e : Key × Plain) (es : Table) (v : Plain) (o : Ordering) → key_cmp k e.0 ≡ o → Flat (e ∷ es) → cond (is_eq o) (Some e.1) (find key_cmp k es) ≡ Some v
    → (find key_cmp k es ≡ Some v → IsFieldOf k v) → IsFieldOf k v
field_at k e es v Less p h q rest = rest q
field_at k e es v Greater p h q rest = rest q
field_at k e es v Equal p h q rest =
    let value : e.1 ≡ v = cc in
    let first = flat_first e es h in
    record {
      at_key = subst (λ (j : Key). IsTrue (is_field_key j)) (sym (key_exact k e.0 p)) first.at_key;
      integer = subst (λ (w : Plain). IsTrue (is_integer w)) value first.integer;
    }

field_of : (k : Key) (es : Table) (v : Plain) → Flat es → find key_cmp k es ≡ Some v → IsFieldOf k v
field_of k [] v h q = absurd (cc)
field_of k (e ∷ es) v h q = field_at k e es v (key_cmp k e.0) refl h q (field_of k es v (flat_rest e es h))

-- ---- one patch at a field key
text_key : (k : Key) → IsTrue (is_field_key k) → record { reserved : is_reserved_key k ≡ false; long : is_long_key k ≡ false; text : IsTrue (is_text_key k) }
text_key k h =
    let first = left_true (is_text_key k && not (is_reserved_key k)) (not (is_long_key k)) h in
    record {
      reserved = not_true (is_reserved_key k) (right_true (is_text_key k) (not (is_reserved_key k)) first);
      long = not_true (is_long_key k) (right_true (is_text_key k && not (is_reserved_key k)) (not (is_long_key k)) h);
      text = left_true (is_text_key k) (not (is_reserved_key k)) first;
    }
  where
    not_true : (b : Bool) → IsTrue (not b) → b ≡ false
    not_true true h = absurd (cc)
    not_true false h = refl

set_field : (o : Op) (k : Key) (w : Plain) (t : Table) → o ≢ op.Remove → IsTrue (is_field_key k) → edited kind.Obj o k (Some w) t ≡ Ok (put key_cmp k w t)
set_field op.Remove k w t n h = absurd (n refl)
set_field op.Add (key.Text s) w t n h = let facts = text_key (key.Text s) h in rw (facts.reserved, facts.long) refl
set_field op.Add key.Null w t n h = absurd (cc)
set_field op.Add (key.Bool b) w t n h = absurd (cc)
set_field op.Add (key.Int z) w t n h = absurd (cc)
set_field op.Replace (key.Text s) w t n h = let facts = text_key (key.Text s) h in rw (facts.reserved, facts.long) refl
set_field op.Replace key.Null w t n h = absurd (cc)
set_field op.Replace (key.Bool b) w t n h = absurd (cc)
set_field op.Replace (key.Int z) w t n h = absurd (cc)

unset_field : (k : Key) (t : Table) → IsTrue (is_field_key k) → edited kind.Obj op.Remove k None t ≡ Ok (without_key k t)
unset_field (key.Text s) t h = let facts = text_key (key.Text s) h in rw facts.reserved refl
unset_field key.Null t h = absurd (cc)
unset_field (key.Bool b) t h = absurd (cc)
unset_field (key.Int z) t h = absurd (cc)

one_patch : (o : Op) (k : Key) (v : Option Plain) (t t' : Table) → edited kind.Obj o k v t ≡ Ok t' → patched o v (k ∷ []) (state t) ≡ Ok (state t')
one_patch o k v t t' h = rw (list_of_entries t) (ap (as_node kind.Obj) h)

first_patch : (i : ℕ) (p : Patch) (rest : List Patch) (x y : Plain) → patched p.op p.value p.path x ≡ Ok y → applied_from i (p ∷ rest) x ≡ applied_from (i + 1) rest y
first_patch i p rest x y h = ap (λ (r : Result Plain PatchWhy). fault_at i r (applied_from (i + 1) rest)) h

-- ---- the patches of one key
record Moves (k : Key) (i : ℕ) (ps rest : List Patch) (wanted : Option Plain) (t : Table) : Type 0 where
  table : Table
  next : ℕ
  so : applied_from i (ps ++ rest) (state t) ≡ applied_from next rest (state table)
  sorted : Sorted table
  here : find key_cmp k table ≡ wanted
  others : (j : Key) → j ≢ k → find key_cmp j table ≡ find key_cmp j t

stays : (k : Key) (i : ℕ) (rest : List Patch) (w : Option Plain) (t : Table) → Sorted t → find key_cmp k t ≡ w → Moves k i [] rest w t
stays k i rest w t s h = record { table = t; next = i; so = refl; sorted = s; here = h; others = λ j n. refl }

sets : (o : Op) (k : Key) (i : ℕ) (rest : List Patch) (w : Plain) (t : Table) → o ≢ op.Remove → Sorted t → IsTrue (is_field_key k) → Moves k i (patch o k (Some w) ∷ []) rest (Some w) t
sets o k i rest w t n s h = record {
  table = put key_cmp k w t;
  next = i + 1;
  so = first_patch i (patch o k (Some w)) rest (state t) (state (put key_cmp k w t)) (one_patch o k (Some w) t (put key_cmp k w t) (set_field o k w t n h));
  sorted = put_ascends k w t s;
  here = find_put_same k w t;
  others = λ j n. find_put_other j k w t n;
}

unsets : (k : Key) (i : ℕ) (rest : List Patch) (t : Table) → Sorted t → IsTrue (is_field_key k) → Moves k i (patch op.Remove k None ∷ []) rest None t
unsets k i rest t s h = record {
  table = without_key k t;
  next = i + 1;
  so = first_patch i (patch op.Remove k None) rest (state t) (state (without_key k t)) (one_patch op.Remove k None t (without_key k t) (unset_field k t h));
  sorted = without_ascends k t s;
  here = find_without_same k t;
  others = λ j n. find_without_other j k t n;
}

either : {X : Type 0} (a b c : X) → b ≡ c → (a ≡ b) ⊎ (a ≡ c) → a ≡ c
either a b c e (inl p) = p ∙ e
either a b c e (inr p) = p

same_is : (v w : Plain) → same v w ≡ true → IsTrue (is_integer v) → IsTrue (is_integer w) → v ≡ w
same_is (prim j) (prim k) h p q = ap prim (key_exact j k (tied (key_cmp j k) h))
  where
    tied : (o : Ordering) → is_eq o ≡ true → o ≡ Equal
    tied Less h = absurd (cc)
    tied Equal h = refl
    tied Greater h = absurd (cc)
same_is (node a es) w h p q = absurd (cc)
same_is (prim j) (node b fs) h p q = absurd (cc)

replaced : (k : Key) (i : ℕ) (rest : List Patch) (v w : Plain) (t : Table) (b : Bool) → same v w ≡ b → Sorted t → IsFieldOf k v → IsFieldOf k w → (find key_cmp k t ≡ Some v) ⊎ (find key_cmp k t ≡ Some w)
    → Moves k i (cond b [] (patch op.Replace k (Some w) ∷ [])) rest (Some w) t
replaced k i rest v w t true e s f g h = stays k i rest (Some w) t s (either (find key_cmp k t) (Some v) (Some w) (ap Some (same_is v w e f.integer g.integer)) h)
replaced k i rest v w t false e s f g h = sets op.Replace k i rest w t (λ q. absurd (cc)) s g.at_key

moved : (k : Key) (i : ℕ) (rest : List Patch) (old new t : Table) (v w : Option Plain) → find key_cmp k old ≡ v → find key_cmp k new ≡ w → Flat old → Flat new → Sorted t
    → (find key_cmp k t ≡ v) ⊎ (find key_cmp k t ≡ w) → Moves k i (change k v w) rest w t
moved k i rest old new t None None p q f g s h = stays k i rest None t s (either (find key_cmp k t) None None refl h)
moved k i rest old new t None (Some w) p q f g s h = sets op.Add k i rest w t (λ e. absurd (cc)) s (field_of k new w g q).at_key
moved k i rest old new t (Some v) None p q f g s h = unsets k i rest t s (field_of k old v f p).at_key
moved k i rest old new t (Some v) (Some w) p q f g s h = replaced k i rest v w t (same v w) refl s (field_of k old v f p) (field_of k new w g q) h

-- ---- the patches of several keys
split_key : (j k : Key) → (j ≡ k) ⊎ (j ≢ k)
split_key j k = by (key_cmp j k) refl
  where
    by : (o : Ordering) → key_cmp j k ≡ o → (j ≡ k) ⊎ (j ≢ k)
    by Equal p = inl (key_exact j k p)
    by Less p = inr (λ e. let q : key_cmp k k ≡ Less = subst (λ (x : Key). key_cmp x k ≡ Less) e p in let r = tied_itself key_total k in cc)
    by Greater p = inr (λ e. let q : key_cmp k k ≡ Greater = subst (λ (x : Key). key_cmp x k ≡ Greater) e p in let r = tied_itself key_total k in cc)

abbrev Member : Key → List Key → Type 0
Member j [] = ⊥
Member j (k ∷ ks) = (j ≡ k) ⊎ Member j ks

abbrev Between : Table → Table → Table → Type 0
Between old new t = (j : Key) → (find key_cmp j t ≡ find key_cmp j old) ⊎ (find key_cmp j t ≡ find key_cmp j new)

record Reached (i : ℕ) (ks : List Key) (old new t : Table) : Type 0 where
  table : Table
  so : applied_from i (changes ks old new) (state t) ≡ Ok (state table)
  sorted : Sorted table
  reach : (j : Key) → Member j ks ⊎ (find key_cmp j t ≡ find key_cmp j new) → find key_cmp j table ≡ find key_cmp j new

module _ (old new : Table) (f : Flat old) (g : Flat new) where
  here_at : (j k : Key) (t : Table) → j ≡ k → find key_cmp k t ≡ find key_cmp k new → find key_cmp j t ≡ find key_cmp j new
  here_at j k t e h = subst (λ (x : Key). find key_cmp x t ≡ find key_cmp x new) (sym e) h

  between_next : (k : Key) (t t' : Table) → find key_cmp k t' ≡ find key_cmp k new → ((j : Key) → j ≢ k → find key_cmp j t' ≡ find key_cmp j t) → Between old new t → Between old new t'
  between_next k t t' here others b j = elim (split_key j k) [
    | inl e ↦ inr (here_at j k t' e here)
    | inr n ↦ elim (b j) [ inl p ↦ inl (others j n ∙ p) | inr p ↦ inr (others j n ∙ p) ]
  ]

  kept_next : (j k : Key) (t t' : Table) → find key_cmp k t' ≡ find key_cmp k new → ((i : Key) → i ≢ k → find key_cmp i t' ≡ find key_cmp i t) → find key_cmp j t ≡ find key_cmp j new → find key_cmp j t' ≡ find key_cmp j new
  kept_next j k t t' here others p = elim (split_key j k) [ inl e ↦ here_at j k t' e here | inr n ↦ others j n ∙ p ]

  reaches : (ks : List Key) (i : ℕ) (t : Table) → Sorted t → Between old new t → Reached i ks old new t
  reaches [] i t s b = record { table = t; so = refl; sorted = s; reach = λ j h. elim h [ inl m ↦ absurd m | inr p ↦ p ] }
  reaches (k ∷ ks) i t s b =
      let one = moved k i (changes ks old new) old new t (find key_cmp k old) (find key_cmp k new) refl refl f g s (b k) in
      let rest = reaches ks one.next one.table one.sorted (between_next k t one.table one.here one.others b) in
      record {
        table = rest.table;
        so = one.so ∙ rest.so;
        sorted = rest.sorted;
        reach = λ j h. elim h [
          | inl m ↦ elim m [ inl e ↦ rest.reach j (inr (here_at j k one.table e one.here)) | inr n ↦ rest.reach j (inl n) ]
          | inr p ↦ rest.reach j (inr (kept_next j k t one.table one.here one.others p))
        ];
      }

-- ---- the keys of both tables
nowhere : (j : Key) (es fs : Table) → find key_cmp j (union es fs) ≡ None → (find key_cmp j es ≡ None) × (find key_cmp j fs ≡ None)
nowhere j es [] h = (h, refl)
nowhere j es (f ∷ fs) h =
    let rest = nowhere j (put key_cmp f.0 f.1 es) fs h in
    by (eq_by_cmp key_cmp j f.0) refl (sym (find-put key_cmp key_total j f.0 f.1 es) ∙ rest.0) rest.1
  where
    by : (b : Bool) → eq_by_cmp key_cmp j f.0 ≡ b → cond (eq_by_cmp key_cmp j f.0) (Some f.1) (find key_cmp j es) ≡ None → find key_cmp j fs ≡ None → (find key_cmp j es ≡ None) × (find key_cmp j (f ∷ fs) ≡ None)
    by true e p q = let r : Some f.1 ≡ None = rw e at p in absurd (cc)
    by false e p q = (rw e at p, rw e q)

member : (j : Key) (us : Table) (v : Plain) → find key_cmp j us ≡ Some v → Member j (keys us)
member j [] v h = absurd (cc)
member j (u ∷ us) v h = elim (split_key j u.0) [ inl e ↦ inl e | inr n ↦ inr (member j us v (sym (skipped n) ∙ h)) ]
  where
    skipped : j ≢ u.0 → find key_cmp j (u ∷ us) ≡ find key_cmp j us
    skipped n = rw (is_eq-other j u.0 n) refl

covered : (j : Key) (old new : Table) (o : Option Plain) → find key_cmp j (union old new) ≡ o → Member j (keys (union old new)) ⊎ (find key_cmp j old ≡ find key_cmp j new)
covered j old new None h = let none = nowhere j old new h in inr (none.0 ∙ sym none.1)
covered j old new (Some v) h = inl (member j (union old new) v h)

-- ---- no patch of one key replaces the root
no_root : (o : Op) (k : Key) (v : Option Plain) (ps : List Patch) → has_root_replace (patch o k v ∷ ps) ≡ has_root_replace ps
no_root op.Add k v ps = refl
no_root op.Replace k v ps = refl
no_root op.Remove k v ps = refl

no_root_change : (k : Key) (v w : Option Plain) (ps : List Patch) → has_root_replace (change k v w ++ ps) ≡ has_root_replace ps
no_root_change k None None ps = refl
no_root_change k None (Some w) ps = refl
no_root_change k (Some v) None ps = refl
no_root_change k (Some v) (Some w) ps = by (same v w)
  where
    by : (b : Bool) → has_root_replace (cond b [] (patch op.Replace k (Some w) ∷ []) ++ ps) ≡ has_root_replace ps
    by true = refl
    by false = refl

no_root_changes : (ks : List Key) (old new : Table) → has_root_replace (changes ks old new) ≡ false
no_root_changes [] old new = refl
no_root_changes (k ∷ ks) old new = no_root_change k (find key_cmp k old) (find key_cmp k new) (changes ks old new) ∙ no_root_changes ks old new

in_order : (ps : List Patch) (x : Plain) → has_root_replace ps ≡ false → applied ps x ≡ applied_from 0 ps x
in_order [] x h = refl
in_order (p ∷ ps) x h = by (is_root_replace p) (has_root_replace ps) refl refl h
  where
    by : (a b : Bool) → is_root_replace p ≡ a → has_root_replace ps ≡ b → (is_root_replace p || has_root_replace ps) ≡ false → applied (p ∷ ps) x ≡ applied_from 0 (p ∷ ps) x
    by true b e f h = let q : true ≡ false = rw e at h in absurd (cc)
    by false true e f h = let q : true ≡ false = rw (e, f) at h in absurd (cc)
    by false false e f h = rw (f, e) refl

-- the differences of two sound tables carry the one to the other
pub carries_table : (old new : Table) → Sorted old → Sorted new → Flat old → Flat new → applied (differences old new) (state old) ≡ Ok (state new)
unfolding differences
carries_table old new s t f g =
    let ks = keys (union old new) in
    let end = reaches old new f g ks 0 old s (λ j. inl refl) in
    let here : end.table ≡ new = same_entries key_cmp key_total key_exact end.table new (subst T (sym end.sorted) tt) (subst T (sym t) tt) (λ j. end.reach j (covered j old new (find key_cmp j (union old new)) refl)) in
    in_order (changes ks old new) (state old) (no_root_changes ks old new) ∙ end.so ∙ ap (λ (es : Table). Ok (state es)) here
