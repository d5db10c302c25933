-- What rules a call on a list out before its elements are looked at, and what is left of its row then: laws.
use Rattle.std.proofs.Common.{◌≡◌, ◌≢◌, ℕ, List, [], ◌∷◌, length, refl, true, false}
use Rattle.std.specs.Prelude.{Option, Some, None, Ok, Err}
use Rattle.std.specs.List.{list_any}
use Rattle.value_model.specs.declared.kind.Kind.{Kind}
use Rattle.value_model.specs.declared.kind.Kind.TheVariants as kind
use Rattle.run_heap.specs.declared.value.Rv.{Rv}
use Rattle.run_heap.specs.declared.value.Rv.TheVariants.{Undefined, Prim, Obj, Frozen}
use Rattle.run_heap.specs.declared.content.Content.{Content}
use Rattle.run_heap.specs.declared.fault.DraftFault.TheVariants as fault
use Rattle.run_heap.specs.Heap.{Heap, shown, is_foreign}
use Rattle.run_heap.specs.Operations.{any_foreign, is_frozen, is_undefined, then_read, rows_of, table_of, kind_of}
use Rattle.value_model.specs.Kinds.{is_list}
use Rattle.run_heap.specs.Sound.{IsStored, AllStored, Owned, AllOwned}
use Rattle.run_heap.specs.Laws.{left_false, right_false}
use Rattle.array_ops_spec.specs.Calls.{elements, items, read_shown}
use Rattle.array_ops_spec.specs.Guards.{writable_shown, writable, IsListed, IsUnlisted, IsReadable, IsWritable, not_true, eq_of, kind_in, container, object}

pub refused_foreign : (h : Heap) (of : Rv) (others : List Rv) → any_foreign h (of ∷ others) ≡ true → IsUnlisted h of others fault.Revoked
refused_foreign h of others p = record { read = rw p refl; write = rw p refl }

other_list : (k : Kind) → (let o : Option Kind = Some k in o) ≢ Some kind.List → is_list k ≡ false
other_list kind.Obj p = refl
other_list kind.List p = absurd (p refl)
other_list kind.Map p = refl
other_list kind.Set p = refl

is_list_of : (k : Kind) → (let o : Option Kind = Some k in o) ≡ Some kind.List → is_list k ≡ true
is_list_of kind.Obj p = absurd (cc)
is_list_of kind.List p = refl
is_list_of kind.Map p = absurd (cc)
is_list_of kind.Set p = absurd (cc)

refused_read : (s : Option Content) → kind_in s ≢ Some kind.List → then_read (read_shown (λ xs. xs)) s ≡ Err fault.TypeMismatch
refused_read None other = refl
refused_read (Some c) other = let l = other_list c.kind other in rw l refl

refused_write : (of : Rv) (s : Option Content) → kind_in s ≢ Some kind.List → writable_shown of s ≡ Err fault.TypeMismatch
refused_write of None other = refl
refused_write of (Some c) other = let l = other_list c.kind other in rw l refl

pub refused_kind : (h : Heap) (of : Rv) (others : List Rv) → any_foreign h (of ∷ others) ≡ false → kind_of h of ≢ Some kind.List → IsUnlisted h of others fault.TypeMismatch
refused_kind h of others p other = record { read = rw p (refused_read (shown h of) other); write = rw p (refused_write of (shown h of) other) }

list_read : (s : Option Content) → kind_in s ≡ Some kind.List → then_read (read_shown (λ xs. xs)) s ≡ Ok (elements (rows_of s))
list_read None p = absurd (cc)
list_read (Some c) p = let l = is_list_of c.kind p in rw l refl

list_write : (of : Rv) (s : Option Content) → is_frozen of ≡ false → kind_in s ≡ Some kind.List → writable_shown of s ≡ Ok (elements (rows_of s))
list_write of None f p = absurd (cc)
list_write of (Some c) f p = let l = is_list_of c.kind p in rw (l, f) refl

frozen_write : (of : Rv) (s : Option Content) → is_frozen of ≡ true → kind_in s ≡ Some kind.List → writable_shown of s ≡ Err fault.Frozen
frozen_write of None f p = absurd (cc)
frozen_write of (Some c) f p = let l = is_list_of c.kind p in rw (l, f) refl

ours_first : (h : Heap) (of : Rv) (others : List Rv) → any_foreign h (of ∷ others) ≡ false → is_foreign h of ≡ false
ours_first h of others p = left_false _ _ p

ours_rest : (h : Heap) (of : Rv) (others : List Rv) → any_foreign h (of ∷ others) ≡ false → any_foreign h others ≡ false
ours_rest h of others p = right_false _ _ p

pub may_read : (h : Heap) (of : Rv) (others : List Rv) (n : ℕ) → Owned h of → IsListed h of others → n ≡ length (table_of h of) → IsReadable h of others n
may_read h of others n o l long =
    let ours = l.ours in
    record {
      found = rw ours (list_read (shown h of) l.list);
      container = container h of o (ours_first h of others ours) l.list;
      ours = ours;
      long = long;
    }

pub may_write : (h : Heap) (of : Rv) (others : List Rv) (n : ℕ) → Owned h of → IsListed h of others → is_frozen of ≡ false → n ≡ length (table_of h of) → IsWritable h of others n
may_write h of others n o l f long =
    let ours = l.ours in
    let there = container h of o (ours_first h of others ours) l.list in
    record {
      found = rw ours (list_write of (shown h of) f l.list);
      object = object h of f there;
      container = there;
      list = l.list;
      ours = ours;
      long = long;
    }

pub refused_frozen : (h : Heap) (of : Rv) (others : List Rv) → IsListed h of others → is_frozen of ≡ true → writable h of others ≡ Err fault.Frozen
refused_frozen h of others l f = let ours = l.ours in rw ours (frozen_write of (shown h of) f l.list)

-- ---- items that may be stored
stored : (h : Heap) (v : Rv) → Owned h v → is_foreign h v ≡ false → is_undefined v ≡ false → IsStored h v
stored h Undefined o f u = absurd (cc)
stored h (Prim k) o f u = tt
stored h (Obj r) o f u = let s = eq_of r.scope h.scope (not_true _ f) in (s, o s)
stored h (Frozen id) o f u = o

all_stored : (h : Heap) (vs : List Rv) → AllOwned h vs → any_foreign h vs ≡ false → list_any is_undefined vs ≡ false → AllStored h vs
all_stored h [] o f u = tt
all_stored h (v ∷ vs) o f u = (stored h v o.0 (left_false _ _ f) (left_false _ _ u), all_stored h vs o.1 (right_false _ _ f) (right_false _ _ u))

pub items_stored : (h : Heap) (of : Rv) (vs : List Rv) → AllOwned h vs → any_foreign h (of ∷ vs) ≡ false → list_any is_undefined vs ≡ false → AllStored h vs
items_stored h of vs o f u = all_stored h vs o (ours_rest h of vs f) u
