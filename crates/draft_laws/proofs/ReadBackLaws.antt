-- What is read after a write.
use Rattle.std.proofs.Common.{◌≡◌, ℕ, List, [], ◌∷◌, refl, ap, sym, ◌∙◌, arith, Bool, true, false, not, Result, Ok, Err, ◌≢◌, ◌<◌, zero, suc, pos, negsuc, cond, Equal, ◌++◌, length}
use Rattle.std.specs.Prelude.{slice_set, ◌==◌, Option, Some, None, if◌then◌else◌, nat_lt}
use Rattle.value_model.specs.declared.kind.Kind.{Kind}
use Rattle.value_model.specs.declared.key.Key.{Key}
use Rattle.value_model.specs.Order.{key_cmp, key_total, key_exact}
use Rattle.run_heap.specs.declared.value.ObjRef.{ObjRef}
use Rattle.run_heap.specs.declared.value.Rv.{Rv}
use Rattle.run_heap.specs.declared.value.Rv.TheVariants.{Undefined, Prim, Obj}
use Rattle.run_heap.specs.declared.content.Content.{Content}
use Rattle.run_heap.specs.declared.fault.DraftFault.{DraftFault}
use Rattle.run_heap.specs.declared.fault.DraftFault.TheVariants as fault
use Rattle.run_heap.specs.Heap.{Heap, rewritten, update}
use Rattle.std.specs.FinMap.Entries.{find, put, find-put, find-where_key}
use Rattle.std.specs.Ordering.{eq_by_cmp}
use Rattle.value_model.proofs.Tables.{is_eq-same, is_eq-other}
use Rattle.value_model.specs.Limits.{is_long_text, is_reserved_text, is_reserved_key}
use Rattle.value_model.specs.declared.key.Key.TheVariants as key
use Rattle.value_model.specs.declared.kind.Kind.TheVariants as kind
use Rattle.run_heap.specs.Operations.{unless, get, entry, is_undefined, item, set_element, no_answer, or_undefined, value_at, put_entry, putting, removing, is_text_place, without, put_at, remove_at, Rows, Edit}
use Rattle.draft_laws.proofs.WriteLaws.{eq_of, eq_true, written_now, first_not, unless_ok, IsEdit, edit_is}

-- ---- what is read after it
get_object : (j : Key) (h : Heap) (r : ObjRef) (c : Content) → r.scope ≡ h.scope → h.object r.slot ≡ Some c → get j h (Obj r) ≡ entry j c.kind c.table
get_object j h r c here o = rw (eq_true r.scope h.scope here, o) refl

module _ {X : Type 0} (e : Edit X) (h g : Heap) (of : Rv) (x : X) (d : IsEdit e h g of x) where
  get_before : (j : Key) → get j h of ≡ entry j d.content.kind d.content.table
  get_before j = ap (get j h) d.is ∙ get_object j h d.object d.content d.scope d.there

  get_after : (j : Key) → get j g of ≡ entry j d.content.kind d.left
  get_after j =
      (λ i. get j (sym d.heap i) (d.is i))
      ∙ get_object j (update d.object.slot (rewritten d.left d.content) h) d.object (rewritten d.left d.content) d.scope (written_now h d.object d.left d.content d.there)

-- ---- an entry set
found_same : (k : Key) (v : Rv) (t : Rows) → find key_cmp k (put key_cmp k v t) ≡ Some v
found_same k v t = find-put key_cmp key_total k k v t ∙ ap (λ (b : Bool). cond b (Some v) (find key_cmp k t)) (is_eq-same k)

found_other : (j k : Key) (v : Rv) (t : Rows) → j ≢ k → find key_cmp j (put key_cmp k v t) ≡ find key_cmp j t
found_other j k v t other = find-put key_cmp key_total j k v t ∙ ap (λ (b : Bool). cond b (Some v) (find key_cmp j t)) (is_eq-other j k other)

appended_same : (v : Rv) (t : Rows) → value_at (length t) (t ++ item v ∷ []) ≡ Some v
appended_same v [] = refl
appended_same v (e ∷ t) = appended_same v t

appended_other : (m : ℕ) (v : Rv) (t : Rows) → m ≢ length t → value_at m (t ++ item v ∷ []) ≡ value_at m t
appended_other zero v [] n = absurd (n refl)
appended_other (suc m) v [] n = refl
appended_other zero v (e ∷ t) n = refl
appended_other (suc m) v (e ∷ t) n = appended_other m v t (λ q. n (ap suc q))

set_same : (i : ℕ) (v : Rv) (t : Rows) → i < length t → value_at i (slice_set t i (item v)) ≡ Some v
set_same i v [] l = absurd (omega arith)
set_same zero v (e ∷ t) l = refl
set_same (suc i) v (e ∷ t) l = set_same i v t (omega arith)

set_other : (m i : ℕ) (v : Rv) (t : Rows) → m ≢ i → value_at m (slice_set t i (item v)) ≡ value_at m t
set_other m i v [] n = refl
set_other zero zero v (e ∷ t) n = absurd (n refl)
set_other zero (suc i) v (e ∷ t) n = refl
set_other (suc m) zero v (e ∷ t) n = refl
set_other (suc m) (suc i) v (e ∷ t) n = set_other m i v t (λ q. n (ap suc q))

element_same : (i : ℕ) (v : Rv) (t : Rows) → nat_lt (length t) i ≡ false → value_at i (set_element i v t) ≡ Some v
element_same i v t l = elim (i == length t) as (λ b. (i == length t) ≡ b → value_at i (if b then t ++ item v ∷ [] else slice_set t i (item v)) ≡ Some v) [
  | true ↦ λ p. ap (λ (m : ℕ). value_at m (t ++ item v ∷ [])) (eq_of i (length t) p) ∙ appended_same v t
  | false ↦ λ p. set_same i v t (grind (arith, l, p))
] refl

element_other : (m i : ℕ) (v : Rv) (t : Rows) → m ≢ i → value_at m (set_element i v t) ≡ value_at m t
element_other m i v t n = elim (i == length t) as (λ b. (i == length t) ≡ b → value_at m (if b then t ++ item v ∷ [] else slice_set t i (item v)) ≡ value_at m t) [
  | true ↦ λ p. appended_other m v t (λ q. n (q ∙ sym (eq_of i (length t) p)))
  | false ↦ λ p. set_other m i v t n
] refl

table_left : (u left : Rows) (x : Unit {0}) → no_answer u ≡ Ok (left, x) → u ≡ left
table_left u left x q = let both : (u, tt) ≡ (left, x) = cc in ap (λ (y : Rows × Unit {0}). y.0) both

member_same : (s : List ℕ) (t left : Rows) (v : Rv) → is_reserved_text s ≡ false → find key_cmp (key.Text s) left ≡ Some v → entry (key.Text s) kind.Obj left ≡ Ok v
member_same s t left v p f = rw (p, f) refl

put_here : (k : Key) (v : Rv) (of : Kind) (t left : Rows) (x : Unit {0}) → put_entry k v of t ≡ Ok (left, x) → entry k of left ≡ Ok v
put_here (key.Text s) v kind.Obj t left x q =
    let u = put key_cmp (key.Text s) v t in
    let y : Rows × Unit {0} = (left, x) in
    let rest = (is_long_text s, fault.KeyTooLong) ∷ (is_undefined v, fault.UndefinedWrite) ∷ [] in
    let l = table_left u left x (unless_ok ((is_reserved_text s, fault.ReservedKey) ∷ rest) (no_answer u) y q) in
    member_same s t left v (first_not (is_reserved_text s) fault.ReservedKey rest (no_answer u) y q) (ap (find key_cmp (key.Text s)) (sym l) ∙ found_same (key.Text s) v t)
put_here (key.Int (pos i)) v kind.List t left x q =
    let u = set_element i v t in
    let y : Rows × Unit {0} = (left, x) in
    let rest = (is_undefined v, fault.UndefinedWrite) ∷ [] in
    let l = table_left u left x (unless_ok ((nat_lt (length t) i, fault.Hole) ∷ rest) (no_answer u) y q) in
    let there = element_same i v t (first_not (nat_lt (length t) i) fault.Hole rest (no_answer u) y q) in
    ap (λ (o : Option Rv). Ok (or_undefined o)) (ap (value_at i) (sym l) ∙ there)
put_here (key.Int (negsuc i)) v kind.List t left x q = absurd (cc)
put_here _ v _ t left x q = absurd (cc)

find_left : (j k : Key) (v : Rv) (t left : Rows) → put key_cmp k v t ≡ left → j ≢ k → find key_cmp j left ≡ find key_cmp j t
find_left j k v t left l n = ap (find key_cmp j) (sym l) ∙ found_other j k v t n

-- an entry by another key
entry_as : (j : Key) (t left : Rows) → find key_cmp j left ≡ find key_cmp j t → entry j kind.Obj left ≡ entry j kind.Obj t
entry_as key.Null t left e = refl
entry_as (key.Bool b) t left e = refl
entry_as (key.Int n) t left e = refl
entry_as (key.Text s) t left e = ap (λ (o : Option Rv). if is_reserved_text s then Err fault.ReservedKey else Ok (or_undefined o)) e

element_as : (j : Key) (i : ℕ) (v : Rv) (t left : Rows) → set_element i v t ≡ left → j ≢ key.Int (pos i) → entry j kind.List left ≡ entry j kind.List t
element_as key.Null i v t left l n = refl
element_as (key.Bool b) i v t left l n = refl
element_as (key.Text s) i v t left l n = refl
element_as (key.Int (negsuc m)) i v t left l n = refl
element_as (key.Int (pos m)) i v t left l n =
    let other : m ≢ i = λ q. n (ap (λ (a : ℕ). key.Int (pos a)) q) in
    ap (λ (o : Option Rv). let r : Result Rv DraftFault = Ok (or_undefined o) in r) (ap (value_at m) (sym l) ∙ element_other m i v t other)

put_elsewhere : (j k : Key) (v : Rv) (of : Kind) (t left : Rows) (x : Unit {0}) → put_entry k v of t ≡ Ok (left, x) → j ≢ k → entry j of left ≡ entry j of t
put_elsewhere j (key.Text s) v kind.Obj t left x q n =
    let u = put key_cmp (key.Text s) v t in
    let l = table_left u left x (unless_ok ((is_reserved_text s, fault.ReservedKey) ∷ (is_long_text s, fault.KeyTooLong) ∷ (is_undefined v, fault.UndefinedWrite) ∷ []) (no_answer u) (left, x) q) in
    entry_as j t left (find_left j (key.Text s) v t left l n)
put_elsewhere j (key.Int (pos i)) v kind.List t left x q n =
    let u = set_element i v t in
    let l = table_left u left x (unless_ok ((nat_lt (length t) i, fault.Hole) ∷ (is_undefined v, fault.UndefinedWrite) ∷ []) (no_answer u) (left, x) q) in
    element_as j i v t left l n
put_elsewhere j (key.Int (negsuc i)) v kind.List t left x q n = absurd (cc)
put_elsewhere j _ v _ t left x q n = absurd (cc)

pub put_reads : (k : Key) (v : Rv) (h g : Heap) (of : Rv) (x : Unit {0}) → put_at k v h of ≡ Ok (g, x) → get k g of ≡ Ok v
put_reads k v h g of x q =
    let d = edit_is (putting k v) h g x of (v ∷ []) q in
    get_after (putting k v) h g of x d k ∙ put_here k v d.content.kind d.content.table d.left x d.leaves

pub put_leaves : (j k : Key) (v : Rv) (h g : Heap) (of : Rv) (x : Unit {0}) → put_at k v h of ≡ Ok (g, x) → j ≢ k → get j g of ≡ get j h of
put_leaves j k v h g of x q n =
    let d = edit_is (putting k v) h g x of (v ∷ []) q in
    get_after (putting k v) h g of x d j ∙ put_elsewhere j k v d.content.kind d.content.table d.left x d.leaves n ∙ sym (get_before (putting k v) h g of x d j)

-- ---- an entry removed
alike : (p : Key → Bool) (q x : Key) → key_cmp q x ≡ Equal → p x ≡ p q
alike p q x e = ap p (sym (key_exact q x e))

removed_find : (j k : Key) (t : Rows) → find key_cmp j (without k t) ≡ cond (not (eq_by_cmp key_cmp k j)) (find key_cmp j t) None
removed_find j k t = find-where_key key_cmp (λ x. not (eq_by_cmp key_cmp k x)) j (alike (λ x. not (eq_by_cmp key_cmp k x)) j) t

removed_same : (k : Key) (t : Rows) → find key_cmp k (without k t) ≡ None
removed_same k t = removed_find k k t ∙ ap (λ (b : Bool). cond (not b) (find key_cmp k t) None) (is_eq-same k)

removed_other : (j k : Key) (t : Rows) → j ≢ k → find key_cmp j (without k t) ≡ find key_cmp j t
removed_other j k t other = removed_find j k t ∙ ap (λ (b : Bool). cond (not b) (find key_cmp j t) None) (is_eq-other k j (λ e. other (sym e)))

remove_here : (k : Key) (of : Kind) (t left : Rows) (x : Unit {0}) → is_text_place k of ≡ true → unless ((is_reserved_key k, fault.ReservedKey) ∷ []) (no_answer (without k t)) ≡ Ok (left, x) → entry k of left ≡ Ok Undefined
remove_here (key.Text s) kind.Obj t left x p q =
    let u = without (key.Text s) t in
    let l = table_left u left x (unless_ok ((is_reserved_text s, fault.ReservedKey) ∷ []) (no_answer u) (left, x) q) in
    let free = first_not (is_reserved_text s) fault.ReservedKey [] (no_answer u) (left, x) q in
    let gone : find key_cmp (key.Text s) left ≡ None = ap (find key_cmp (key.Text s)) (sym l) ∙ removed_same (key.Text s) t in
    rw (free, gone) refl
remove_here _ _ t left x p q = absurd (cc)

remove_elsewhere : (j k : Key) (of : Kind) (t left : Rows) (x : Unit {0}) → is_text_place k of ≡ true → unless ((is_reserved_key k, fault.ReservedKey) ∷ []) (no_answer (without k t)) ≡ Ok (left, x) → j ≢ k → entry j of left ≡ entry j of t
remove_elsewhere j (key.Text s) kind.Obj t left x p q n =
    let u = without (key.Text s) t in
    let l = table_left u left x (unless_ok ((is_reserved_text s, fault.ReservedKey) ∷ []) (no_answer u) (left, x) q) in
    entry_as j t left (ap (find key_cmp j) (sym l) ∙ removed_other j (key.Text s) t n)
remove_elsewhere j _ _ t left x p q n = absurd (cc)

pub remove_reads : (k : Key) (h g : Heap) (of : Rv) (x : Unit {0}) → remove_at k h of ≡ Ok (g, x) → get k g of ≡ Ok Undefined
remove_reads k h g of x q =
    let d = edit_is (removing k) h g x of [] q in
    get_after (removing k) h g of x d k ∙ remove_here k d.content.kind d.content.table d.left x d.takes d.leaves

pub remove_leaves : (j k : Key) (h g : Heap) (of : Rv) (x : Unit {0}) → remove_at k h of ≡ Ok (g, x) → j ≢ k → get j g of ≡ get j h of
remove_leaves j k h g of x q n =
    let d = edit_is (removing k) h g x of [] q in
    get_after (removing k) h g of x d j ∙ remove_elsewhere j k d.content.kind d.content.table d.left x d.takes d.leaves n ∙ sym (get_before (removing k) h g of x d j)
