-- What is read from a sound heap is in order at every level, and has no key that may not be.
use Rattle.std.proofs.Common.{◌≡◌, ◌≤◌, [], ◌∷◌, refl, ap, sym, ◌∙◌, subst, arith, Bool, true, false, not, Option, Some, None}
use Rattle.std.specs.Prelude.{◌&&◌, ◌^◌, nat_lt}
use Rattle.std.specs.FinMap.Entries.{is_sorted, below_all}
use Rattle.std.specs.Ordering.{is_eq, is_lt}
use Rattle.std.proofs.lemmas.Bool.{and_from, or_from}
use Rattle.value_model.specs.declared.key.Key.{Key}
use Rattle.value_model.specs.declared.key.Key.TheVariants as key
use Rattle.value_model.specs.declared.kind.Kind.{Kind}
use Rattle.value_model.specs.declared.kind.Kind.TheVariants as kind
use Rattle.value_model.specs.Limits.{is_long_key, is_long_text, is_reserved_text, is_reserved_at, has_long_key, any_long_key, has_reserved_key, any_reserved_key, value_limit, state_limit}
use Rattle.value_model.specs.Order.{key_cmp}
use Rattle.value_model.specs.Places.{ascends_at}
use Rattle.value_model.specs.Plain as plain_value
use Rattle.value_model.specs.Plain.{Plain, Entries, list_of, depth, weight}
use Rattle.value_model.specs.Search.{left_true, right_true}
use Rattle.value_model.specs.Well.{fits, all_fit, well, all_well}
use Rattle.numbered.specs.Laws.{well_at, accepted_at}
use Rattle.numbered.specs.Store.{IsNumber, tree_at}
use Rattle.numbered.specs.Tree.{Tree, plain}
use Rattle.run_heap.specs.declared.value.Rv.{Rv}
use Rattle.run_heap.specs.declared.value.Rv.TheVariants.{Undefined, Prim, Obj, Frozen}
use Rattle.run_heap.specs.declared.content.Content.{Content}
use Rattle.run_heap.specs.Heap.{Heap}
use Rattle.run_heap.specs.Laws.{value_long, value_reserved}
use Rattle.run_heap.specs.Operations.{Rows}
use Rattle.run_heap.specs.Sound.{IsSound, IsStored, RowsStored, IsContent, IsTable, may_stand, all_stand, ascends}
use Rattle.result_trees.specs.Final.{Final, Finals, prim, frozen, object, none, entry, plain_of, plains_of}
use Rattle.result_trees.proofs.Readings.{IfContent, Reads, ReadsRows}

-- a value within all limits, in order at every level
pub record IsAccepted (v : Plain) : Type 0 where
  pub limit : value_limit v ≡ None
  pub well : well v ≡ true

pub small : (v : Plain) → depth v ≤ 32 → weight v ≤ 2 ^ 20 → has_long_key v ≡ false → has_reserved_key v ≡ false → value_limit v ≡ None
small v d w l r =
    let a : nat_lt 32 (depth v) ≡ false = grind (arith, d) in
    let b : nat_lt (2 ^ 20) (weight v) ≡ false = grind (arith, w) in
    rw (a, b, l, r) refl

pub record InOrder (v : Plain) : Type 0 where
  pub long : has_long_key v ≡ false
  pub reserved : has_reserved_key v ≡ false
  pub wells : well v ≡ true

record AllInOrder (of : Kind) (es : Entries) : Type 0 where
  long : any_long_key es ≡ false
  reserved : any_reserved_key of es ≡ false
  fit : all_fit of es ≡ true
  wells : all_well es ≡ true

state_value : (v : Plain) → state_limit v ≡ None → value_limit v ≡ None
state_value (plain_value.prim k) e = absurd (cc)
state_value (plain_value.node of es) e = e

-- ---- the keys of a table and of what is read from it
below_read : (h : Heap) (x : Key) (fs : Finals) (t : Rows) → ReadsRows h fs t → below_all key_cmp x (list_of (plains_of fs)) ≡ below_all key_cmp x t
below_read h x none [] r = refl
below_read h x none (e ∷ t) r = absurd r
below_read h x (entry k f fs) [] r = absurd r
below_read h x (entry k f fs) (e ∷ t) r = λ i. is_lt (key_cmp x (sym r.0 i)) && below_read h x fs t r.2 i

sorted_read : (h : Heap) (fs : Finals) (t : Rows) → ReadsRows h fs t → is_sorted key_cmp (list_of (plains_of fs)) ≡ is_sorted key_cmp t
sorted_read h none [] r = refl
sorted_read h none (e ∷ t) r = absurd r
sorted_read h (entry k f fs) [] r = absurd r
sorted_read h (entry k f fs) (e ∷ t) r =
    ap (λ (j : Key). below_all key_cmp j (list_of (plains_of fs)) && is_sorted key_cmp (list_of (plains_of fs))) (sym r.0)
    ∙ (λ i. below_read h e.0 fs t r.2 i && sorted_read h fs t r.2 i)

ascends_read : (h : Heap) (of : Kind) (fs : Finals) (t : Rows) → ReadsRows h fs t → ascends of t ≡ true → ascends_at of (list_of (plains_of fs)) ≡ true
ascends_read h kind.List fs t r a = refl
ascends_read h kind.Obj fs t r a = sorted_read h fs t r ∙ a
ascends_read h kind.Map fs t r a = sorted_read h fs t r ∙ a
ascends_read h kind.Set fs t r a = sorted_read h fs t r ∙ a

no : (b : Bool) → not b ≡ true → b ≡ false
no true e = absurd (cc)
no false e = refl

record IsFit (of : Kind) (k : Key) (v : Plain) : Type 0 where
  long : is_long_key k ≡ false
  reserved : is_reserved_at of k ≡ false
  fit : fits of k v ≡ true

fit_read : (h : Heap) (of : Kind) (k : Key) (f : Final) (v : Rv) → Reads h f v → may_stand of k v ≡ true → IsFit of k (plain_of f)
fit_read h kind.Obj (key.Text s) f v r m = record { long = no (is_long_text s) (right_true (not (is_reserved_text s)) _ m); reserved = no (is_reserved_text s) (left_true (not (is_reserved_text s)) _ m); fit = refl }
fit_read h kind.Obj key.Null f v r m = absurd (cc)
fit_read h kind.Obj (key.Bool b) f v r m = absurd (cc)
fit_read h kind.Obj (key.Int z) f v r m = absurd (cc)
fit_read h kind.List key.Null f v r m = record { long = refl; reserved = refl; fit = refl }
fit_read h kind.List (key.Bool b) f v r m = absurd (cc)
fit_read h kind.List (key.Int z) f v r m = absurd (cc)
fit_read h kind.List (key.Text s) f v r m = absurd (cc)
fit_read h kind.Map k f v r m = record { long = no (is_long_key k) m; reserved = refl; fit = refl }
fit_read h kind.Set k (prim i) v r m =
    let q : may_stand kind.Set k (Prim i) ≡ true = subst (λ (w : Rv). may_stand kind.Set k w ≡ true) r m in
    record { long = no (is_long_key k) (right_true (is_eq (key_cmp k i)) _ q); reserved = refl; fit = left_true (is_eq (key_cmp k i)) _ q }
fit_read h kind.Set k (frozen t) v r m = absurd (let q : may_stand kind.Set k (Frozen r.0) ≡ true = subst (λ (w : Rv). may_stand kind.Set k w ≡ true) r.1 m in cc)
fit_read h kind.Set k (object n to es) (Obj x) r m = absurd (cc)
fit_read h kind.Set k (object n to es) Undefined r m = absurd (cc)
fit_read h kind.Set k (object n to es) (Prim i) r m = absurd r.0
fit_read h kind.Set k (object n to es) (Frozen i) r m = absurd r.0

-- an object's table
record IsTableOf (h : Heap) (of : Kind) (es : Finals) : Type 0 where
  rows : Rows
  reads : ReadsRows h es rows
  table : IsTable h of rows

table_of : (h : Heap) (of : Kind) (es : Finals) (o : Option Content) → IsContent h o → IfContent o (λ c. (c.kind ≡ of) × ReadsRows h es c.table) → IsTableOf h of es
table_of h of es None t a = absurd a
table_of h of es (Some c) t a = record { rows = c.table; reads = a.1; table = subst (λ (k : Kind). IsTable h k c.table) a.0 t }

module _ (h : Heap) (s : IsSound h) where
  mutual
    pub in_order : (f : Final) (v : Rv) → IsStored h v → Reads h f v → InOrder (plain_of f)
    in_order (prim k) v d r = record { long = refl; reserved = refl; wells = refl }
    in_order (frozen t) v d r =
        let there : IsNumber h.states r.0 = subst (λ (w : Rv). IsStored h w) r.1 d in
        let limit = state_value (plain (tree_at h.states r.0)) (accepted_at h.states r.0 s.store there) in
        let here : InOrder (plain (tree_at h.states r.0)) = record {
          long = value_long (plain (tree_at h.states r.0)) limit;
          reserved = value_reserved (plain (tree_at h.states r.0)) limit;
          wells = well_at h.states r.0 s.store there;
        } in
        subst (λ (u : Tree). InOrder (plain u)) r.2 here
    in_order (object n of es) v d r =
        let c = table_of h of es (h.object n) (s.tables n) r.1 in
        let inside = all_in_order es of c.rows c.table.stored c.table.stand c.reads in
        record {
          long = inside.long;
          reserved = inside.reserved;
          wells = and_from _ _ (and_from _ _ (ascends_read h of es c.rows c.reads c.table.ascends) inside.fit) inside.wells;
        }

    all_in_order : (fs : Finals) (of : Kind) (t : Rows) → RowsStored h t → all_stand of t ≡ true → ReadsRows h fs t → AllInOrder of (plains_of fs)
    all_in_order none of t d a r = record { long = refl; reserved = refl; fit = refl; wells = refl }
    all_in_order (entry k f fs) of [] d a r = absurd r
    all_in_order (entry k f fs) of (e ∷ t) d a r =
        let first = in_order f e.1 d.0 r.1 in
        let rest = all_in_order fs of t d.1 (right_true (may_stand of e.0 e.1) _ a) r.2 in
        let stands : may_stand of k e.1 ≡ true = subst (λ (j : Key). may_stand of j e.1 ≡ true) r.0 (left_true (may_stand of e.0 e.1) _ a) in
        let fit = fit_read h of k f e.1 r.1 stands in
        record {
          long = or_from _ _ (or_from _ _ fit.long first.long) rest.long;
          reserved = or_from _ _ (or_from _ _ fit.reserved first.reserved) rest.reserved;
          fit = and_from _ _ fit.fit rest.fit;
          wells = and_from _ _ first.wells rest.wells;
        }

  -- within the limits of depth and weight it is accepted
  pub accepted : (f : Final) (v : Rv) → IsStored h v → Reads h f v → depth (plain_of f) ≤ 32 → weight (plain_of f) ≤ 2 ^ 20 → IsAccepted (plain_of f)
  accepted f v d r deep heavy =
      let order = in_order f v d r in
      record { limit = small (plain_of f) deep heavy order.long order.reserved; well = order.wells }
