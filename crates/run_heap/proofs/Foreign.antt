-- References of other scopes, and the calls that refuse them: laws.
use Rattle.std.proofs.Common.{◌≡◌, ◌≢◌, ◌⊎◌, inl, inr, ℕ, List, [], ◌∷◌, Bool, true, false, not, Result, Ok, Err, refl, ap, arith}
use Rattle.std.specs.Prelude.{◌||◌, ◌==◌, if◌then◌else◌, Option, Some, None}
use Rattle.std.proofs.lemmas.Bool.{or_right}
use Rattle.value_model.specs.declared.kind.Kind.{Kind}
use Rattle.run_heap.specs.declared.value.Rv.{Rv}
use Rattle.run_heap.specs.declared.value.Rv.TheVariants.{Undefined, Prim, Obj, Frozen}
use Rattle.run_heap.specs.declared.content.Content.{Content}
use Rattle.run_heap.specs.declared.fault.DraftFault.{DraftFault}
use Rattle.run_heap.specs.declared.fault.DraftFault.TheVariants as fault
use Rattle.run_heap.specs.declared.fault.DraftFault.TheVariants.{Revoked}
use Rattle.run_heap.specs.Heap.{Heap, shown, is_foreign}
use Rattle.run_heap.specs.Operations.{Rows, Edit, any_foreign, is_frozen, then_read, read, then_write, edit_shown, edited, then_list}
use Rattle.run_heap.specs.Foreign.{IsForeign, HasForeign, Revokes}

-- ---- the test of the table of operations
differ : (m n : ℕ) → not (m == n) ≡ true → m ≢ n
differ m n h = grind (arith, h)

apart : (m n : ℕ) → m ≢ n → not (m == n) ≡ true
apart m n h = grind (arith, h)

foreign_is : (h : Heap) (v : Rv) → is_foreign h v ≡ true → IsForeign h v
foreign_is h Undefined e = absurd (cc)
foreign_is h (Prim k) e = absurd (cc)
foreign_is h (Obj r) e = differ r.scope h.scope e
foreign_is h (Frozen id) e = absurd (cc)

foreign_test : (h : Heap) (v : Rv) → IsForeign h v → is_foreign h v ≡ true
foreign_test h Undefined f = absurd f
foreign_test h (Prim k) f = absurd f
foreign_test h (Obj r) f = apart r.scope h.scope f
foreign_test h (Frozen id) f = absurd f

some_foreign : (h : Heap) (vs : List Rv) → any_foreign h vs ≡ true → HasForeign h vs
some_foreign h [] e = absurd (cc)
some_foreign h (v ∷ vs) e = elim (is_foreign h v) as (λ b. is_foreign h v ≡ b → (b || any_foreign h vs) ≡ true → IsForeign h v ⊎ HasForeign h vs) [
  | true ↦ λ p q. inl (foreign_is h v p)
  | false ↦ λ p q. inr (some_foreign h vs q)
] refl e

foreign_found : (h : Heap) (vs : List Rv) → HasForeign h vs → any_foreign h vs ≡ true
foreign_found h [] f = absurd f
foreign_found h (v ∷ vs) (inl f) = rw (foreign_test h v f) refl
foreign_found h (v ∷ vs) (inr f) = or_right (is_foreign h v) (any_foreign h vs) (foreign_found h vs f)

-- ---- calls that are refused as revoked for no other cause
pub ok_other : {X : Type 0} (x : X) → (let r : Result X DraftFault = Ok x in r) ≢ Err Revoked
ok_other x = λ e. absurd (cc)

pub first_cause : {X : Type 0} (b : Bool) (x : DraftFault) (r : Result X DraftFault) → x ≢ Revoked → r ≢ Err Revoked → (if b then Err x else r) ≢ Err Revoked
first_cause true x r named other = λ e. let q : x ≡ Revoked = cc in named q
first_cause false x r named other = other

revokes : {X : Type 0} (h : Heap) (vs : List Rv) (r : Result X DraftFault) → r ≢ Err Revoked → Revokes h vs (if any_foreign h vs then Err Revoked else r)
revokes h vs r other = (
  λ said. some_foreign h vs (elim (any_foreign h vs) as (λ b. (if b then Err Revoked else r) ≡ Err Revoked → b ≡ true) [ true ↦ λ e. refl | false ↦ λ e. absurd (other e) ] said),
  λ f. rw (foreign_found h vs f) refl,
)

other_read : {X : Type 0} (f : Content → Result X DraftFault) (o : Option Content) → ((c : Content) → f c ≢ Err Revoked) → then_read f o ≢ Err Revoked
other_read f None other = λ e. absurd (cc)
other_read f (Some c) other = other c

pub read_revokes : {X : Type 0} (f : Content → Result X DraftFault) (h : Heap) (of : Rv) (others : List Rv) → ((c : Content) → f c ≢ Err Revoked) → Revokes h (of ∷ others) (read f h of others)
read_revokes f h of others other = revokes h (of ∷ others) (then_read f (shown h of)) (other_read f (shown h of) other)

other_write : {X : Type 0} (h : Heap) (of : Rv) (c : Content) (r : Result (Rows × X) DraftFault) → r ≢ Err Revoked → then_write h of c r ≢ Err Revoked
other_write h of c (Ok left) other = λ e. absurd (cc)
other_write h of c (Err x) other = λ e. let q : x ≡ Revoked = cc in other (λ i. Err (q i))

other_edit : {X : Type 0} (e : Edit X) (h : Heap) (of : Rv) (o : Option Content) → ((k : Kind) (t : Rows) → e.leaves k t ≢ Err Revoked) → edit_shown e h of o ≢ Err Revoked
other_edit e h of None other = λ q. absurd (cc)
other_edit e h of (Some c) other =
    let written = other_write h of c (e.leaves c.kind c.table) (other c.kind c.table) in
    first_cause (not (e.takes c.kind)) fault.TypeMismatch _ (λ q. absurd (cc)) (first_cause (is_frozen of) fault.Frozen _ (λ q. absurd (cc)) written)

pub edit_revokes : {X : Type 0} (e : Edit X) (h : Heap) (of : Rv) (others : List Rv) → ((k : Kind) (t : Rows) → e.leaves k t ≢ Err Revoked) → Revokes h (of ∷ others) (edited e h of others)
edit_revokes e h of others other = revokes h (of ∷ others) (edit_shown e h of (shown h of)) (other_edit e h of (shown h of) other)

list_refused : (h : Heap) (r : Result Rows DraftFault) → then_list h r ≡ Err Revoked → r ≡ Err Revoked
list_refused h (Ok t) e = absurd (cc)
list_refused h (Err x) e = let q : x ≡ Revoked = cc in λ i. Err (q i)

pub list_revokes : (h : Heap) (vs : List Rv) (r : Result Rows DraftFault) → Revokes h vs r → Revokes h vs (then_list h r)
list_revokes h vs r w = (λ e. w.0 (list_refused h r e), λ f. ap (then_list h) (w.1 f))
