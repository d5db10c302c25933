-- What rules a call on a list out before its elements are looked at, and what is left of its row then.
use Rattle.std.proofs.Common.{◌≡◌, ℕ, List, [], ◌∷◌, length, refl, ap, ◌∙◌, arith, Bool, true, false, not}
use Rattle.std.specs.Prelude.{◌==◌, Option, Some, None, option_map, Result, Ok, Err, if◌then◌else◌}
use Rattle.value_model.specs.declared.kind.Kind.{Kind}
use Rattle.value_model.specs.declared.kind.Kind.TheVariants as kind
use Rattle.run_heap.specs.declared.value.Rv.{Rv}
use Rattle.run_heap.specs.declared.value.Rv.TheVariants.{Undefined, Prim, Obj, Frozen}
use Rattle.run_heap.specs.declared.content.Content.{Content}
use Rattle.run_heap.specs.declared.fault.DraftFault.{DraftFault}
use Rattle.run_heap.specs.declared.fault.DraftFault.TheVariants as fault
use Rattle.run_heap.specs.Heap.{Heap, shown, is_foreign}
use Rattle.run_heap.specs.Operations.{unless, any_foreign, is_frozen, edited, edit_shown, then_write, then_read, rewrite, table_of, kind_of}
use Rattle.value_model.specs.Kinds.{is_list}
use Rattle.run_heap.specs.Sound.{IsObject, IsContainer, Owned}
use Rattle.array_ops_spec.specs.Calls.{elements, items, on_list, with_items, read_list, read_shown}

-- the elements of a container, as a list has them
abbrev pub elements_of : Heap → Rv → List Rv
elements_of h of = elements (table_of h of)

-- a list with other elements
abbrev pub with_elements : List Rv → Heap → Rv → Heap
with_elements xs h of = rewrite (λ _. items xs) h of

-- ---- which lists may be read, and which may be written
-- the elements of a list, or the first refusal
abbrev pub readable : Heap → Rv → List Rv → Result (List Rv) DraftFault
readable h of others = read_list (λ xs. xs) h of others

abbrev pub writable_shown : Rv → Option Content → Result (List Rv) DraftFault
writable_shown of None = Err fault.TypeMismatch
writable_shown of (Some c) = unless ((not (is_list c.kind), fault.TypeMismatch) ∷ (is_frozen of, fault.Frozen) ∷ []) (Ok (elements c.table))

-- the same where the list is to be written
abbrev pub writable : Heap → Rv → List Rv → Result (List Rv) DraftFault
writable h of others = if any_foreign h (of ∷ others) then Err fault.Revoked else writable_shown of (shown h of)

-- the argument is a list, and no argument is foreign
pub record IsListed (h : Heap) (of : Rv) (others : List Rv) : Type 0 where
  pub list : kind_of h of ≡ Some kind.List
  pub ours : any_foreign h (of ∷ others) ≡ false

-- it isn't, for this cause
pub record IsUnlisted (h : Heap) (of : Rv) (others : List Rv) (e : DraftFault) : Type 0 where
  pub read : readable h of others ≡ Err e
  pub write : writable h of others ≡ Err e

-- a list of so many elements, which may be read
pub record IsReadable (h : Heap) (of : Rv) (others : List Rv) (n : ℕ) : Type 0 where
  pub found : readable h of others ≡ Ok (elements_of h of)
  pub container : IsContainer h of
  pub ours : any_foreign h (of ∷ others) ≡ false
  pub long : n ≡ length (table_of h of)

-- one that may be written
pub record IsWritable (h : Heap) (of : Rv) (others : List Rv) (n : ℕ) : Type 0 where
  pub found : writable h of others ≡ Ok (elements_of h of)
  pub object : IsObject h of
  pub container : IsContainer h of
  pub list : kind_of h of ≡ Some kind.List
  pub ours : any_foreign h (of ∷ others) ≡ false
  pub long : n ≡ length (table_of h of)

-- ---- from tests in code to these facts
pub not_true : (b : Bool) → not b ≡ false → b ≡ true
not_true true h = refl
not_true false h = absurd (cc)

pub eq_of : (m n : ℕ) → (m == n) ≡ true → m ≡ n
eq_of m n h = grind (arith, h)

abbrev pub kind_in : Option Content → Option Kind
kind_in s = option_map (λ (c : Content). c.kind) s

pub container : (h : Heap) (of : Rv) → Owned h of → is_foreign h of ≡ false → kind_of h of ≡ Some kind.List → IsContainer h of
container h Undefined o f p = absurd (cc)
container h (Prim k) o f p = absurd (cc)
container h (Obj r) o f p = let s = eq_of r.scope h.scope (not_true _ f) in (s, o s)
container h (Frozen id) o f p = o

pub object : (h : Heap) (of : Rv) → is_frozen of ≡ false → IsContainer h of → IsObject h of
object h Undefined f o = o
object h (Prim k) f o = o
object h (Obj r) f o = o
object h (Frozen id) f o = absurd (cc)

-- ---- what is left of a row that writes
module _ {X : Type 0} (f : List Rv → Result (List Rv × X) DraftFault) (h : Heap) (of : Rv) where
  abbrev then_leave : Result (List Rv × X) DraftFault → Result (Heap × X) DraftFault
  then_leave (Ok left) = Ok (with_elements left.0 h of, left.1)
  then_leave (Err e) = Err e

  abbrev then_edit : Result (List Rv) DraftFault → Result (Heap × X) DraftFault
  then_edit (Ok xs) = then_leave (f xs)
  then_edit (Err e) = Err e

  leave_shown : (c : Content) (r : Result (List Rv × X) DraftFault) → shown h of ≡ Some c → then_write h of c (with_items r) ≡ then_leave r
  leave_shown c (Ok left) p = rw p refl
  leave_shown c (Err e) p = refl

  edit_of : (s : Option Content) → shown h of ≡ s → edit_shown (on_list f) h of s ≡ then_edit (writable_shown of s)
  edit_of None p = refl
  edit_of (Some c) p = elim (is_list c.kind) as (λ b. is_list c.kind ≡ b → edit_shown (on_list f) h of (Some c) ≡ then_edit (writable_shown of (Some c))) [
    | false ↦ λ q. rw q refl
    | true ↦ λ q. elim (is_frozen of) as (λ b. is_frozen of ≡ b → edit_shown (on_list f) h of (Some c) ≡ then_edit (writable_shown of (Some c))) [
      | true ↦ λ z. rw (q, z) refl
      | false ↦ λ z. rw (q, z) (leave_shown c (f (elements c.table)) p)
    ] refl
  ] refl

  edit_is : (others : List Rv) → edited (on_list f) h of others ≡ then_edit (writable h of others)
  edit_is others = elim (any_foreign h (of ∷ others)) as (λ b. any_foreign h (of ∷ others) ≡ b → edited (on_list f) h of others ≡ then_edit (writable h of others)) [
    | true ↦ λ p. rw p refl
    | false ↦ λ p. rw p (edit_of (shown h of) refl)
  ] refl

  pub row_refused : (others : List Rv) (e : DraftFault) → writable h of others ≡ Err e → edited (on_list f) h of others ≡ Err e
  row_refused others e p = edit_is others ∙ ap then_edit p

  pub row_stopped : (others : List Rv) (xs : List Rv) (e : DraftFault) → writable h of others ≡ Ok xs → f xs ≡ Err e → edited (on_list f) h of others ≡ Err e
  row_stopped others xs e p q = edit_is others ∙ ap then_edit p ∙ ap then_leave q

  pub row_done : (others : List Rv) (xs ys : List Rv) (a : X) → writable h of others ≡ Ok xs → f xs ≡ Ok (ys, a) → edited (on_list f) h of others ≡ Ok (with_elements ys h of, a)
  row_done others xs ys a p q = edit_is others ∙ ap then_edit p ∙ ap then_leave q

-- ---- and of one that reads
module _ {X : Type 0} (f : List Rv → X) (h : Heap) (of : Rv) (others : List Rv) where
  abbrev then_look : Result (List Rv) DraftFault → Result X DraftFault
  then_look (Ok xs) = Ok (f xs)
  then_look (Err e) = Err e

  look_shown : (s : Option Content) → then_read (read_shown f) s ≡ then_look (then_read (read_shown (λ xs. xs)) s)
  look_shown None = refl
  look_shown (Some c) = elim (is_list c.kind) as (λ b. is_list c.kind ≡ b → then_read (read_shown f) (Some c) ≡ then_look (then_read (read_shown (λ xs. xs)) (Some c))) [
    | false ↦ λ q. rw q refl
    | true ↦ λ q. rw q refl
  ] refl

  look_is : read_list f h of others ≡ then_look (readable h of others)
  look_is = elim (any_foreign h (of ∷ others)) as (λ b. any_foreign h (of ∷ others) ≡ b → read_list f h of others ≡ then_look (readable h of others)) [
    | true ↦ λ p. rw p refl
    | false ↦ λ p. rw p (look_shown (shown h of))
  ] refl

  pub read_refused : (e : DraftFault) → readable h of others ≡ Err e → read_list f h of others ≡ Err e
  read_refused e p = look_is ∙ ap then_look p

  pub read_done : (xs : List Rv) → readable h of others ≡ Ok xs → read_list f h of others ≡ Ok (f xs)
  read_done xs p = look_is ∙ ap then_look p
