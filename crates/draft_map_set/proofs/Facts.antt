-- What is left of a row where its refusals are known, or ruled out.
use Rattle.std.proofs.Common.{◌≡◌, ℕ, zero, suc, ◌+◌, List, [], ◌∷◌, ◌++◌, drop, refl, ap, sym, ◌∙◌, subst, arith, Bool, true, false, not, cond, map}
use Rattle.std.specs.Prelude.{is_some, Option, Some, None, option_map, Result, Ok, Err, if◌then◌else◌, slice_get}
use Rattle.std.specs.FinMap.Entries.{find, put}
use Rattle.std.specs.Ordering.{is_eq}
use Rattle.std.proofs.lemmas.Cmp.{tied_itself}
use Rattle.std.proofs.lemmas.List.{append_assoc}
use Rattle.value_model.specs.declared.key.Key.{Key}
use Rattle.value_model.specs.declared.kind.Kind.{Kind}
use Rattle.value_model.specs.declared.kind.Kind.TheVariants as kind
use Rattle.value_model.specs.Limits.{is_long_key}
use Rattle.value_model.specs.Order.{key_cmp, key_total}
use Rattle.run_heap.specs.declared.value.Rv.{Rv}
use Rattle.run_heap.specs.declared.value.Rv.TheVariants.{Prim}
use Rattle.run_heap.specs.declared.content.Content.{Content}
use Rattle.run_heap.specs.declared.fault.DraftFault.{DraftFault}
use Rattle.run_heap.specs.declared.fault.DraftFault.TheVariants as fault
use Rattle.run_heap.specs.Answers.{Does}
use Rattle.run_heap.specs.Heap.{Heap, shown, is_foreign}
use Rattle.run_heap.specs.Operations.{Rows, unless, Edit, edited, edit_shown, then_write, any_foreign, is_frozen, is_undefined, no_answer, kind_of, position, item, listed}
use Rattle.run_heap.specs.Sound.{AllStored}
use Rattle.draft_core.specs.Writes.{MayStandIn}
use Rattle.draft_map_set_spec.specs.MapSet.{is_long, by_key, has, map_set, setting}
use Rattle.value_model.specs.Kinds.{is_map, is_set}
use Rattle.draft_map_set.specs.Checks.{Causes, checked, is_of, write_causes, entry_causes, setting_causes, adding_causes}

-- ---- the first cause that holds
pub unless_err : {X : Type 0} (cs : Causes) (r : Result X DraftFault) (e : DraftFault) → Err e ≡ checked cs → unless cs r ≡ Err e
unless_err [] r e h = absurd (cc)
unless_err {X} (c ∷ cs) r e h = elim c.0 as (λ b. (let s : Result (Unit {0}) DraftFault = Err e in s) ≡ (if b then Err c.1 else checked cs) → (if b then Err c.1 else unless cs r) ≡ Err e) [
  | true ↦ λ h. let q : c.1 ≡ e = cc in ap (λ (d : DraftFault). let s : Result X DraftFault = Err d in s) q
  | false ↦ λ h. unless_err cs r e h
] h

pub unless_ok : {X : Type 0} (cs : Causes) (r : Result X DraftFault) → Ok tt ≡ checked cs → unless cs r ≡ r
unless_ok [] r h = refl
unless_ok (c ∷ cs) r h = elim c.0 as (λ b. (let s : Result (Unit {0}) DraftFault = Ok tt in s) ≡ (if b then Err c.1 else checked cs) → (if b then Err c.1 else unless cs r) ≡ r) [
  | true ↦ λ h. absurd (cc)
  | false ↦ λ h. unless_ok cs r h
] h

-- ---- where a key is
some_later : (o : Option ℕ) → is_some (option_map suc o) ≡ is_some o
some_later None = refl
some_later (Some i) = refl

pub has_position : (k : Key) (t : Rows) → has k t ≡ is_some (position k t)
has_position k [] = refl
has_position k (e ∷ t) = elim (is_eq (key_cmp k e.0)) as (λ b. is_some (cond b (Some e.1) (find key_cmp k t)) ≡ is_some (if b then Some 0 else option_map suc (position k t))) [
  | true ↦ refl
  | false ↦ has_position k t ∙ sym (some_later (position k t))
]

-- ---- a call that writes, after its refusals
abbrev pub left_in : {X : Type 0} → Edit X → Heap → Rv → Option Content → Result (Heap × X) DraftFault
left_in e h of None = Err fault.TypeMismatch
left_in e h of (Some c) = then_write h of c (e.leaves c.kind c.table)

edit_is : {X : Type 0} (e : Edit X) (h : Heap) (of : Rv) (b : Bool) (s : Option Content) → (if b then Err fault.Revoked else edit_shown e h of s) ≡ unless ((b, fault.Revoked) ∷ (not (is_of e.takes (option_map (λ (c : Content). c.kind) s)), fault.TypeMismatch) ∷ (is_frozen of, fault.Frozen) ∷ []) (left_in e h of s)
edit_is e h of b None = refl
edit_is e h of b (Some c) = refl

pub edited_is : {X : Type 0} (e : Edit X) (h : Heap) (of : Rv) (others : List Rv) → edited e h of others ≡ unless (write_causes e.takes h of others) (left_in e h of (shown h of))
edited_is e h of others = edit_is e h of (any_foreign h (of ∷ others)) (shown h of)

pub edit_refused : {X : Type 0} (ed : Edit X) (h : Heap) (of : Rv) (others : List Rv) (e : DraftFault) → Err e ≡ checked (write_causes ed.takes h of others) → edited ed h of others ≡ Err e
edit_refused ed h of others e r = edited_is ed h of others ∙ unless_err (write_causes ed.takes h of others) (left_in ed h of (shown h of)) e r

-- a refused call leaves the heap
pub refused : {X : Type 0} (r : Result X DraftFault) (s : Result (Heap × X) DraftFault) (h : Heap) (d e : DraftFault) → r ≡ Err d → d ≡ e → s ≡ Err e → Does r h h s
refused {X} r s h d e p q w = subst (λ (x : Result X DraftFault). Does x h h s) (sym p) (refl, λ other. w ∙ ap (λ (f : DraftFault). let o : Result (Heap × X) DraftFault = Err f in o) (sym q))

-- ---- setting a Map's entry
own_value : (h : Heap) (of key value : Rv) (e : DraftFault) → is_foreign h value ≡ false → Err e ≡ checked (write_causes is_map h of (key ∷ [])) → checked (setting_causes h of key value) ≡ Err e
own_value h of key value e o r = rw o (unless_err (write_causes is_map h of (key ∷ [])) (checked (entry_causes key value)) e r)

pub setting_refused : (h : Heap) (of key value : Rv) (r : Result (Unit {0}) DraftFault) (d e : DraftFault) → r ≡ Err d → d ≡ e → is_foreign h value ≡ false → Err e ≡ checked (write_causes is_map h of (key ∷ [])) → r ≡ checked (setting_causes h of key value)
setting_refused h of key value r d e p q o w = p ∙ ap (λ (f : DraftFault). let o : Result (Unit {0}) DraftFault = Err f in o) q ∙ sym (own_value h of key value e o w)

then_err : {X : Type 0} (cs : Causes) (h : Heap) (of : Rv) (c : Content) (r : Result (Rows × X) DraftFault) → then_write h of c (unless cs r) ≡ unless cs (then_write h of c r)
then_err [] h of c r = refl
then_err (d ∷ cs) h of c r = elim d.0 as (λ b. then_write h of c (if b then Err d.1 else unless cs r) ≡ (if b then Err d.1 else unless cs (then_write h of c r))) [
  | true ↦ refl
  | false ↦ then_err cs h of c r
]

setting_in : (h : Heap) (of key value : Rv) (b : Bool) (s : Option Content) (e : DraftFault) → Err e ≡ checked ((b, fault.Revoked) ∷ (not (is_of is_map (option_map (λ (c : Content). c.kind) s)), fault.TypeMismatch) ∷ (is_frozen of, fault.Frozen) ∷ (is_long key, fault.KeyTooLong) ∷ (is_undefined value, fault.UndefinedWrite) ∷ []) → (if b then Err fault.Revoked else edit_shown (setting key value) h of s) ≡ Err e
setting_in h of key value b None e r = unless_err ((b, fault.Revoked) ∷ (true, fault.TypeMismatch) ∷ []) (Err fault.TypeMismatch) e r
setting_in h of key value b (Some c) e r =
    let left = by_key (λ j. no_answer (put key_cmp j value c.table)) key in
    ap (λ (x : Result (Heap × Unit {0}) DraftFault). if b then Err fault.Revoked else unless ((not (is_map c.kind), fault.TypeMismatch) ∷ (is_frozen of, fault.Frozen) ∷ []) x) (then_err (entry_causes key value) h of c left)
    ∙ unless_err ((b, fault.Revoked) ∷ (not (is_map c.kind), fault.TypeMismatch) ∷ (is_frozen of, fault.Frozen) ∷ (is_long key, fault.KeyTooLong) ∷ (is_undefined value, fault.UndefinedWrite) ∷ []) (then_write h of c left) e r

pub map_set_refused : (h : Heap) (of key value : Rv) (e : DraftFault) → Err e ≡ checked (setting_causes h of key value) → map_set key value h of ≡ Err e
map_set_refused h of key value e r = setting_in h of key value (any_foreign h (of ∷ key ∷ value ∷ [])) (shown h of) e r

-- ---- adding a Set's member
ruled_out : (c : Bool × DraftFault) (cs : Causes) → Ok tt ≡ checked (c ∷ cs) → (c.0 ≡ false) × (Ok tt ≡ checked cs)
ruled_out c cs h = elim c.0 as (λ b. (let s : Result (Unit {0}) DraftFault = Ok tt in s) ≡ (if b then Err c.1 else checked cs) → (b ≡ false) × (Ok tt ≡ checked cs)) [
  | true ↦ λ h. absurd (cc)
  | false ↦ λ h. (refl, h)
] h

not_false : (b : Bool) → not b ≡ false → b ≡ true
not_false true h = refl
not_false false h = absurd (cc)

set_kind : (o : Option Kind) → is_of is_set o ≡ true → o ≡ Some kind.Set
set_kind None h = absurd (cc)
set_kind (Some kind.Obj) h = absurd (cc)
set_kind (Some kind.List) h = absurd (cc)
set_kind (Some kind.Map) h = absurd (cc)
set_kind (Some kind.Set) h = refl

stands_in : (o : Option Kind) (j k : Key) → o ≡ Some kind.Set → j ≡ k → is_long_key k ≡ false → MayStandIn o k (Prim j)
stands_in o j k p q l = let tied = tied_itself key_total k in rw (p, q, l, tied) refl

pub member_stands : (h : Heap) (of member : Rv) (j k : Key) → Ok tt ≡ checked (adding_causes h of member) → member ≡ Prim k → j ≡ k → MayStandIn (kind_of h of) k (Prim j)
member_stands h of member j k r is same =
    let long : Causes = (is_long member, fault.KeyTooLong) ∷ [] in
    let frozen : Causes = (is_frozen of, fault.Frozen) ∷ long in
    let other : Causes = (not (is_of is_set (kind_of h of)), fault.TypeMismatch) ∷ frozen in
    let ours = ruled_out (any_foreign h (of ∷ member ∷ []), fault.Revoked) other r in
    let of_set = ruled_out (not (is_of is_set (kind_of h of)), fault.TypeMismatch) frozen ours.1 in
    let thawed = ruled_out (is_frozen of, fault.Frozen) long of_set.1 in
    let short = ruled_out (is_long member, fault.KeyTooLong) [] thawed.1 in
    stands_in (kind_of h of) j k (set_kind (kind_of h of) (not_false _ of_set.0)) same (subst (λ (v : Rv). is_long v ≡ false) is short.0)

-- ---- the keys of a container as a list
pub prims_stored : (h : Heap) (ks : List Key) → AllStored h (map Prim ks)
prims_stored h [] = tt
prims_stored h (k ∷ ks) = (tt, prims_stored h ks)

pub prims_listed : (ks : List Key) → map item (map Prim ks) ≡ listed ks
prims_listed [] = refl
prims_listed (k ∷ ks) = ap (λ (t : Rows). item (Prim k) ∷ t) (prims_listed ks)

next_key : (ks : List Key) (i : ℕ) (k : Key) → slice_get ks i ≡ Some k → drop i ks ≡ k ∷ drop (i + 1) ks
next_key [] i k h = absurd (cc)
next_key (j ∷ ks) zero k h = let q : j ≡ k = cc in ap (λ (x : Key). x ∷ ks) q
next_key (j ∷ ks) (suc i) k h = let s : suc i + 1 ≡ suc (i + 1) = omega arith in rw s (next_key ks i k h)

pub one_more : (all : List Rv) (ks : List Key) (i : ℕ) (j k : Key) (xs ys : List Rv) → slice_get ks i ≡ Some k → j ≡ k → xs ++ map Prim (drop i ks) ≡ all → ys ≡ xs ++ Prim j ∷ [] → ys ++ map Prim (drop (i + 1) ks) ≡ all
one_more all ks i j k xs ys at same so_far pushed =
    let rest = map Prim (drop (i + 1) ks) in
    ap (λ (zs : List Rv). zs ++ rest) pushed
    ∙ append_assoc xs (Prim j ∷ []) rest
    ∙ ap (λ (x : Key). xs ++ Prim x ∷ rest) same
    ∙ ap (λ (zs : List Key). xs ++ map Prim zs) (sym (next_key ks i k at))
    ∙ so_far
