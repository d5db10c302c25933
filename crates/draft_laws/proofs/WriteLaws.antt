-- What a write leaves.
use Rattle.std.proofs.Common.{◌≡◌, ◌↔◌, ℕ, List, [], ◌∷◌, refl, ap, sym, ◌∙◌, subst, arith, Bool, true, false, not, Result, Ok, Err}
use Rattle.std.specs.Prelude.{◌&&◌, ◌||◌, ◌==◌, Option, Some, None, option_map, if◌then◌else◌}
use Rattle.value_model.specs.declared.kind.Kind.{Kind}
use Rattle.value_model.specs.declared.key.Key.{Key}
use Rattle.value_model.specs.Order.{key_cmp, key_total}
use Rattle.std.specs.Ordering.{is_eq}
use Rattle.std.proofs.lemmas.Cmp.{tied_itself}
use Rattle.run_heap.specs.declared.value.ObjRef.{ObjRef}
use Rattle.run_heap.specs.declared.value.Rv.{Rv}
use Rattle.run_heap.specs.declared.value.Rv.TheVariants.{Undefined, Prim, Obj, Frozen}
use Rattle.run_heap.specs.declared.content.Content.{Content}
use Rattle.run_heap.specs.declared.fault.DraftFault.{DraftFault}
use Rattle.run_heap.specs.declared.fault.DraftFault.TheVariants as fault
use Rattle.run_heap.specs.Heap.{Heap, shown, is_foreign, rewritten, update}
use Rattle.run_heap.proofs.Laws.{same_exact, same_tables_exact}
use Rattle.run_heap.specs.Operations.{unless, Rows, any_foreign, is_frozen, Edit, then_write, edit_shown, edited, is_marked, rows_of, source_in}
use Rattle.run_heap.specs.Values.{same, same_tables}
use Rattle.draft_laws.specs.Written.{IsWritten}

-- ---- what is the same is equal
key_eq : (k : Key) → is_eq (key_cmp k k) ≡ true
key_eq k = rw (tied_itself key_total k) refl

same_self : (v : Rv) → same v v ≡ true
same_self Undefined = refl
same_self (Prim k) = key_eq k
same_self (Obj r) =
    let a : (r.scope == r.scope) ≡ true = grind arith in
    let b : (r.slot == r.slot) ≡ true = grind arith in
    rw (a, b) refl
same_self (Frozen id) = grind arith

tables_self : (t : Rows) → same_tables t t ≡ true
tables_self [] = refl
tables_self (e ∷ t) = rw (key_eq e.0, same_self e.1) (tables_self t)

pub same_values : (v w : Rv) → (same v w ≡ true) ↔ (v ≡ w)
same_values v w = (same_exact v w, λ e. subst (λ (x : Rv). same v x ≡ true) e (same_self v))

pub same_rows : (t u : Rows) → (same_tables t u ≡ true) ↔ (t ≡ u)
same_rows t u = (same_tables_exact t u, λ e. subst (λ (x : Rows). same_tables t x ≡ true) e (tables_self t))

-- ---- one object
abbrev kind_in : Option Content → Option Kind
kind_in o = option_map (λ (c : Content). c.kind) o

mark_after : (a b : Option Content) (c : Content) (t : Rows) → a ≡ Some c → b ≡ Some (rewritten t c) → is_marked b ≡ (is_marked a || not (same_tables (rows_of a) (rows_of b)))
mark_after a b c t p q = rw (p, q) refl

kind_after : (a b : Option Content) (c : Content) (t : Rows) → a ≡ Some c → b ≡ Some (rewritten t c) → kind_in b ≡ kind_in a
kind_after a b c t p q = rw (p, q) refl

source_after : (a b : Option Content) (c : Content) (t : Rows) → a ≡ Some c → b ≡ Some (rewritten t c) → source_in b ≡ source_in a
source_after a b c t p q = rw (p, q) refl

pub eq_of : (m n : ℕ) → (m == n) ≡ true → m ≡ n
eq_of m n h = grind (arith, h)

pub eq_true : (m n : ℕ) → m ≡ n → (m == n) ≡ true
eq_true m n h = grind (arith, h)

-- two references of one scope that aren't the same have different names
other_name : (h : Heap) (q r : ObjRef) → not (q.scope == h.scope) ≡ false → r.scope ≡ h.scope → same (Obj q) (Obj r) ≡ false → (q.slot == r.slot) ≡ false
other_name h q r ours here differ = elim (q.scope == h.scope) as (λ b. (q.scope == h.scope) ≡ b → not b ≡ false → (q.slot == r.slot) ≡ false) [
  | true ↦ λ p e.
      let one : (q.scope == r.scope) ≡ true = eq_true q.scope r.scope (eq_of q.scope h.scope p ∙ sym here) in
      let d : ((q.scope == r.scope) && (q.slot == r.slot)) ≡ false = differ in
      rw one at d
  | false ↦ λ p e. absurd (cc)
] refl ours

module _ (h : Heap) (r : ObjRef) (t : Rows) (c : Content) (o : h.object r.slot ≡ Some c) where
  pub written_now : shown (update r.slot (rewritten t c) h) (Obj r) ≡ Some (rewritten t c)
  written_now = let yes : (r.slot == r.slot) ≡ true = grind arith in rw yes refl

  beside : r.scope ≡ h.scope → (v : Rv) → is_foreign h v ≡ false → same v (Obj r) ≡ false → shown (update r.slot (rewritten t c) h) v ≡ shown h v
  beside here Undefined p q = refl
  beside here (Prim k) p q = refl
  beside here (Obj x) p q = rw (other_name h x r p here q) refl
  beside here (Frozen id) p q = refl

  object_written : r.scope ≡ h.scope → IsWritten (Obj r) h (update r.slot (rewritten t c) h)
  object_written here = record {
    mark = mark_after (h.object r.slot) _ c t o written_now;
    kind = kind_after (h.object r.slot) _ c t o written_now;
    source = source_after (h.object r.slot) _ c t o written_now;
    others = beside here;
    scope = refl;
    states = refl;
    root = refl;
    next = refl;
  }

scope_of : (h : Heap) (r : ObjRef) → is_foreign h (Obj r) ≡ false → r.scope ≡ h.scope
scope_of h r e = elim (r.scope == h.scope) as (λ b. (r.scope == h.scope) ≡ b → not b ≡ false → r.scope ≡ h.scope) [
  | true ↦ λ p q. eq_of r.scope h.scope p
  | false ↦ λ p q. absurd (cc)
] refl e

-- ---- a call that may be refused
-- what an accepted call did: it left this table to this object
pub record IsEdit {X : Type 0} (e : Edit X) (h g : Heap) (of : Rv) (x : X) : Type 0 where
  pub object : ObjRef
  pub content : Content
  pub left : Rows
  pub is : of ≡ Obj object
  pub scope : object.scope ≡ h.scope
  pub there : h.object object.slot ≡ Some content
  pub takes : e.takes content.kind ≡ true
  pub leaves : e.leaves content.kind content.table ≡ Ok (left, x)
  pub heap : update object.slot (rewritten left content) h ≡ g

not_false : (b : Bool) → not b ≡ false → b ≡ true
not_false true h = refl
not_false false h = absurd (cc)

-- the cause didn't hold, and neither did the others
pub first_not : {X : Type 0} (a : Bool) (f : DraftFault) (cs : List (Bool × DraftFault)) (r : Result X DraftFault) (y : X) → unless ((a, f) ∷ cs) r ≡ Ok y → a ≡ false
first_not true f cs r y q = absurd (cc)
first_not false f cs r y q = refl

drop_first : {X : Type 0} (a : Bool) (f : DraftFault) (cs : List (Bool × DraftFault)) (r : Result X DraftFault) (y : X) → unless ((a, f) ∷ cs) r ≡ Ok y → unless cs r ≡ Ok y
drop_first true f cs r y q = absurd (cc)
drop_first false f cs r y q = q

pub unless_ok : {X : Type 0} (cs : List (Bool × DraftFault)) (r : Result X DraftFault) (y : X) → unless cs r ≡ Ok y → r ≡ Ok y
unless_ok [] r y q = q
unless_ok (c ∷ cs) r y q = elim c.0 as (λ b. (if b then Err c.1 else unless cs r) ≡ Ok y → r ≡ Ok y) [
  | true ↦ λ z. absurd (cc)
  | false ↦ λ z. unless_ok cs r y z
] q

module _ {X : Type 0} (e : Edit X) (h g : Heap) (x : X) where
  edit_of : (of : Rv) (c : Content) (left : Rows × X) → is_foreign h of ≡ false → is_frozen of ≡ false → shown h of ≡ Some c → e.takes c.kind ≡ true → e.leaves c.kind c.table ≡ Ok left → then_write h of c (Ok left) ≡ Ok (g, x) → IsEdit e h g of x
  edit_of Undefined c left p f o k l q = absurd (cc)
  edit_of (Prim j) c left p f o k l q = absurd (cc)
  edit_of (Obj r) c left p f o k l q =
      let both : (update r.slot (rewritten left.0 c) h, left.1) ≡ (g, x) = cc in
      record {
        object = r;
        content = c;
        left = left.0;
        is = refl;
        scope = scope_of h r p;
        there = o;
        takes = k;
        leaves = l ∙ ap (λ (y : Heap × X). let r : Result (Rows × X) DraftFault = Ok (left.0, y.1) in r) both;
        heap = ap (λ (y : Heap × X). y.0) both;
      }
  edit_of (Frozen id) c left p f o k l q = absurd (cc)

  left_is : (of : Rv) (c : Content) (r : Result (Rows × X) DraftFault) → is_foreign h of ≡ false → is_frozen of ≡ false → shown h of ≡ Some c → e.takes c.kind ≡ true → e.leaves c.kind c.table ≡ r → then_write h of c r ≡ Ok (g, x) → IsEdit e h g of x
  left_is of c (Ok left) p f o k l q = edit_of of c left p f o k l q
  left_is of c (Err y) p f o k l q = absurd (cc)

  shown_edit : (of : Rv) (o : Option Content) → is_foreign h of ≡ false → shown h of ≡ o → edit_shown e h of o ≡ Ok (g, x) → IsEdit e h g of x
  shown_edit of None p s q = absurd (cc)
  shown_edit of (Some c) p s q =
      let r = then_write h of c (e.leaves c.kind c.table) in
      let y : Heap × X = (g, x) in
      let rest : List (Bool × DraftFault) = (is_frozen of, fault.Frozen) ∷ [] in
      let k = not_false (e.takes c.kind) (first_not (not (e.takes c.kind)) fault.TypeMismatch rest r y q) in
      let q2 = drop_first (not (e.takes c.kind)) fault.TypeMismatch rest r y q in
      let f = first_not (is_frozen of) fault.Frozen [] r y q2 in
      left_is of c (e.leaves c.kind c.table) p f s k refl (unless_ok rest r y q2)

  pub edit_is : (of : Rv) (vs : List Rv) → edited e h of vs ≡ Ok (g, x) → IsEdit e h g of x
  edit_is of vs q = elim (is_foreign h of) as (λ a. is_foreign h of ≡ a → (if a || any_foreign h vs then Err fault.Revoked else edit_shown e h of (shown h of)) ≡ Ok (g, x) → IsEdit e h g of x) [
    | true ↦ λ p z. absurd (cc)
    | false ↦ λ p. elim (any_foreign h vs) as (λ b. (if b then Err fault.Revoked else edit_shown e h of (shown h of)) ≡ Ok (g, x) → IsEdit e h g of x) [
      | true ↦ λ z. absurd (cc)
      | false ↦ λ z. shown_edit of (shown h of) p refl z
    ]
  ] refl q

  pub edit_written : (of : Rv) (vs : List Rv) → edited e h of vs ≡ Ok (g, x) → IsWritten of h g
  edit_written of vs q =
      let d = edit_is of vs q in
      let w = object_written h d.object d.left d.content d.there d.scope in
      subst (λ (v : Rv). IsWritten v h g) (sym d.is) (subst (IsWritten (Obj d.object) h) d.heap w)
