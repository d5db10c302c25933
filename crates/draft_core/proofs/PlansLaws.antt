-- Which change a refusing call makes: the first refusal that holds, or the change of the object's table: laws.
use Rattle.std.proofs.Common.{◌≡◌, ◌≢◌, ℕ, ◌≤◌, List, [], ◌∷◌, length, refl, ap, sym, ◌∙◌, subst, arith, Bool, true, false, not}
use Rattle.std.specs.Prelude.{pos, negsuc, ◌==◌, nat_lt, Option, Some, None, IsTrue, Result, Ok, Err}
use Rattle.std.specs.FinMap.Entries.{put, is_sorted}
use Rattle.std.proofs.lemmas.Bool.{or_right}
use Rattle.value_model.specs.declared.key.Key.{Key}
use Rattle.value_model.specs.declared.key.Key.TheVariants as key
use Rattle.value_model.specs.declared.kind.Kind.{Kind}
use Rattle.value_model.specs.declared.kind.Kind.TheVariants as kind
use Rattle.value_model.specs.Limits.{is_long_text, is_reserved_text, is_reserved_key}
use Rattle.value_model.specs.Order.{key_cmp}
use Rattle.run_heap.specs.declared.value.Rv.{Rv}
use Rattle.run_heap.specs.declared.value.Rv.TheVariants.{Undefined, Prim, Obj, Frozen}
use Rattle.run_heap.specs.declared.content.Content.{Content}
use Rattle.run_heap.specs.declared.fault.DraftFault.{DraftFault}
use Rattle.run_heap.specs.declared.fault.DraftFault.TheVariants as fault
use Rattle.run_heap.specs.Heap.{Heap, shown, is_foreign}
use Rattle.run_heap.proofs.Laws.{shown_content}
use Rattle.run_heap.specs.Operations.{Rows, unless, is_undefined, is_frozen, is_place, is_text_place, put_entry, put_at, putting, edit_shown, then_write, no_answer, set_element, remove_at, removing, without}
use Rattle.run_heap.specs.Sound.{IsSound, IsContent, IsTable, IsStored, IsObject, Owned, may_stand}
use Rattle.run_heap.proofs.Tables.{put_table, without_table, element_table}
use Rattle.draft_slots.specs.declared.change.Change.{Change}
use Rattle.draft_slots.specs.declared.change.Change.TheVariants as change
use Rattle.draft_slots.specs.Looks.{kind_in}
use Rattle.run_heap.specs.Operations.{rows_of}
use Rattle.run_heap.specs.Answers.{Answers}
use Rattle.draft_core.specs.Plans.{put_plan, no_refusal, remove_plan, planned, IsPlan, Plans, Brings, IsRemoval, MayRemove, removed}

-- ---- the refusals of `put` in turn
member_cases : (s : List ℕ) (v : Rv) (h : Heap) (of : Rv) (c : Content) (t : Rows) (a b d : Bool) → then_write h of c (unless ((a, fault.ReservedKey) ∷ (b, fault.KeyTooLong) ∷ (d, fault.UndefinedWrite) ∷ []) (no_answer (put key_cmp (key.Text s) v t))) ≡ planned h of c t (unless ((a, fault.ReservedKey) ∷ (b, fault.KeyTooLong) ∷ (d, fault.UndefinedWrite) ∷ []) (Ok (change.Set (key.Text s) v)))
member_cases s v h of c t true b d = refl
member_cases s v h of c t false true d = refl
member_cases s v h of c t false false true = refl
member_cases s v h of c t false false false = refl

element_cases : (i : ℕ) (v : Rv) (h : Heap) (of : Rv) (c : Content) (t : Rows) (a b : Bool) → then_write h of c (unless ((a, fault.Hole) ∷ (b, fault.UndefinedWrite) ∷ []) (no_answer (set_element i v t))) ≡ planned h of c t (unless ((a, fault.Hole) ∷ (b, fault.UndefinedWrite) ∷ []) (Ok (change.Element i v)))
element_cases i v h of c t true b = refl
element_cases i v h of c t false true = refl
element_cases i v h of c t false false = refl

put_cases : (k : Key) (v : Rv) (h : Heap) (of : Rv) (c : Content) (frozen : Bool) (kd : Kind) (t : Rows) → unless ((not (is_place k kd), fault.TypeMismatch) ∷ (frozen, fault.Frozen) ∷ []) (then_write h of c (put_entry k v kd t)) ≡ planned h of c t (put_plan k v frozen kd t)
put_cases (key.Text s) v h of c frozen kind.Obj t = elim frozen as (λ a. unless ((a, fault.Frozen) ∷ []) (then_write h of c (put_entry (key.Text s) v kind.Obj t)) ≡ planned h of c t (put_plan (key.Text s) v a kind.Obj t)) [
  | true ↦ refl
  | false ↦ member_cases s v h of c t (is_reserved_text s) (is_long_text s) (is_undefined v)
]
put_cases (key.Int (pos i)) v h of c frozen kind.List t = elim frozen as (λ a. unless ((a, fault.Frozen) ∷ []) (then_write h of c (put_entry (key.Int (pos i)) v kind.List t)) ≡ planned h of c t (put_plan (key.Int (pos i)) v a kind.List t)) [
  | true ↦ refl
  | false ↦ element_cases i v h of c t (nat_lt (length t) i) (is_undefined v)
]
put_cases (key.Int (negsuc i)) v h of c frozen kind.List t = elim frozen as (λ a. unless ((a, fault.Frozen) ∷ []) (then_write h of c (put_entry (key.Int (negsuc i)) v kind.List t)) ≡ planned h of c t (put_plan (key.Int (negsuc i)) v a kind.List t)) [
  | true ↦ refl
  | false ↦ refl
]
put_cases _ v h of c frozen _ t = refl

put_said : (k : Key) (v : Rv) (h : Heap) (of : Rv) (o : Option Content) → is_foreign h of ≡ false → is_foreign h v ≡ false → shown h of ≡ o → put_at k v h of ≡ edit_shown (putting k v) h of o
put_said k v h of o p q s = rw (p, q, s) refl

pub put_planned : (k : Key) (v : Rv) (h : Heap) (of : Rv) (c : Content) → is_foreign h of ≡ false → is_foreign h v ≡ false → shown h of ≡ Some c → put_at k v h of ≡ planned h of c c.table (put_plan k v (is_frozen of) c.kind c.table)
put_planned k v h of c p q s = put_said k v h of (Some c) p q s ∙ put_cases k v h of c (is_frozen of) c.kind c.table

pub put_nothing : (k : Key) (v : Rv) (h : Heap) (of : Rv) → is_foreign h of ≡ false → is_foreign h v ≡ false → shown h of ≡ None → put_at k v h of ≡ Err fault.TypeMismatch
put_nothing k v h of p q s = put_said k v h of None p q s

pub put_foreign : (k : Key) (v : Rv) (h : Heap) (of : Rv) → is_foreign h of ≡ true → put_at k v h of ≡ Err fault.Revoked
put_foreign k v h of p = rw p refl

pub put_foreign_value : (k : Key) (v : Rv) (h : Heap) (of : Rv) → is_foreign h v ≡ true → put_at k v h of ≡ Err fault.Revoked
put_foreign_value k v h of p = rw (p, or_right (is_foreign h of) true refl) refl

-- ---- a plan may be made
not_false : (b : Bool) → not b ≡ false → b ≡ true
not_false true h = refl
not_false false h = absurd (cc)

pub owned_stored : (h : Heap) (v : Rv) → Owned h v → is_foreign h v ≡ false → is_undefined v ≡ false → IsStored h v
owned_stored h Undefined o f u = absurd (cc)
owned_stored h (Prim k) o f u = tt
owned_stored h (Obj r) o f u = let e : r.scope ≡ h.scope = grind (arith, not_false (r.scope == h.scope) f) in (e, o e)
owned_stored h (Frozen id) o f u = o

member_brings : (h : Heap) (s : List ℕ) (v : Rv) (t : Rows) (ch : Change) (f a b d : Bool) → a ≡ is_reserved_text s → b ≡ is_long_text s → IsTable h kind.Obj t → (d ≡ false → IsStored h v) → unless ((f, fault.Frozen) ∷ (a, fault.ReservedKey) ∷ (b, fault.KeyTooLong) ∷ (d, fault.UndefinedWrite) ∷ []) (Ok (change.Set (key.Text s) v)) ≡ Ok ch → Brings h f kind.Obj t ch
member_brings h s v t ch true a b d p q i st e = absurd (cc)
member_brings h s v t ch false true b d p q i st e = absurd (cc)
member_brings h s v t ch false false true d p q i st e = absurd (cc)
member_brings h s v t ch false false false true p q i st e = absurd (cc)
member_brings h s v t ch false false false false p q i st e =
    let is : change.Set (key.Text s) v ≡ ch = cc in
    let stand : may_stand kind.Obj (key.Text s) v ≡ true = rw (sym p, sym q) refl in
    subst (λ (x : Change). Brings h false kind.Obj t x) is (refl, i.ascends, put_table h kind.Obj (key.Text s) v t stand (st refl) i)

element_brings : (h : Heap) (i : ℕ) (v : Rv) (t : Rows) (ch : Change) (f a d : Bool) → a ≡ nat_lt (length t) i → IsTable h kind.List t → (d ≡ false → IsStored h v) → unless ((f, fault.Frozen) ∷ (a, fault.Hole) ∷ (d, fault.UndefinedWrite) ∷ []) (Ok (change.Element i v)) ≡ Ok ch → Brings h f kind.List t ch
element_brings h i v t ch true a d p s st e = absurd (cc)
element_brings h i v t ch false true d p s st e = absurd (cc)
element_brings h i v t ch false false true p s st e = absurd (cc)
element_brings h i v t ch false false false p s st e =
    let is : change.Element i v ≡ ch = cc in
    let l : i ≤ length t = grind (arith, p) in
    subst (λ (x : Change). Brings h false kind.List t x) is (refl, (l, s.stand), element_table h i v t (st refl) s)

pub put_brings : (h : Heap) (k : Key) (v : Rv) (frozen : Bool) (kd : Kind) (t : Rows) (ch : Change) → IsTable h kd t → (is_undefined v ≡ false → IsStored h v) → put_plan k v frozen kd t ≡ Ok ch → Brings h frozen kd t ch
put_brings h (key.Text s) v frozen kind.Obj t ch i st e = member_brings h s v t ch frozen (is_reserved_text s) (is_long_text s) (is_undefined v) refl refl i st e
put_brings h (key.Int (pos n)) v frozen kind.List t ch i st e = element_brings h n v t ch frozen (nat_lt (length t) n) (is_undefined v) refl i st e
put_brings h (key.Int (negsuc n)) v true kind.List t ch i st e = absurd (cc)
put_brings h (key.Int (negsuc n)) v false kind.List t ch i st e = absurd (cc)
put_brings h _ v frozen _ t ch i st e = absurd (cc)

-- a container that is no frozen one is an object
pub not_frozen : (h : Heap) (of : Rv) (c : Content) → shown h of ≡ Some c → is_frozen of ≡ false → Owned h of → is_foreign h of ≡ false → IsObject h of
not_frozen h Undefined c s f o w = absurd (cc)
not_frozen h (Prim k) c s f o w = absurd (cc)
not_frozen h (Obj r) c s f o w = let e : r.scope ≡ h.scope = grind (arith, not_false (r.scope == h.scope) w) in (e, o e)
not_frozen h (Frozen id) c s f o w = absurd (cc)

pub plan_made : (h : Heap) (of : Rv) (c : Content) (ch : Change) (said : Result (Heap × Unit {0}) DraftFault) → shown h of ≡ Some c → Owned h of → is_foreign h of ≡ false → Brings h (is_frozen of) c.kind c.table ch → said ≡ planned h of c c.table (Ok ch) → IsPlan h of ch said
plan_made h of c ch said s o w b e = record {
  object = not_frozen h of c s b.0 o w;
  may = rw s b.1;
  table = rw s b.2;
  leaves = rw s e;
}

plan_answers : (h : Heap) (k : Key) (v : Rv) (of : Rv) (c : Content) (r : Result Change DraftFault) (said : Result (Heap × Unit {0}) DraftFault) → IsSound h → shown h of ≡ Some c → Owned h of → is_foreign h of ≡ false → (is_undefined v ≡ false → IsStored h v) → said ≡ planned h of c c.table (put_plan k v (is_frozen of) c.kind c.table) → Answers r (put_plan k v (is_frozen of) c.kind c.table) → Plans h of r said
plan_answers h k v of c (Ok ch) said sound s o w st e a =
    let tab : IsTable h c.kind c.table = subst (IsContent h) s (shown_content h of sound o) in
    plan_made h of c ch said s o w (put_brings h k v (is_frozen of) c.kind c.table ch tab st a) (e ∙ ap (planned h of c c.table) a)
plan_answers h k v of c (Err f) said sound s o w st e a = λ m. e ∙ ap (planned h of c c.table) (a m)

-- the plan of a look
pub plan_looked : (h : Heap) (k : Key) (v : Rv) (of : Rv) (o : Option Content) (r : Result Change DraftFault) → IsSound h → o ≡ shown h of → o ≢ None → Owned h of → Owned h v → is_foreign h of ≡ false → is_foreign h v ≡ false → Answers r (put_plan k v (is_frozen of) (kind_in o) (rows_of o)) → Plans h of r (put_at k v h of)
plan_looked h k v of None r sound s there o ov w wv a = absurd (there refl)
plan_looked h k v of (Some c) r sound s there o ov w wv a = plan_answers h k v of c r (put_at k v h of) sound (sym s) o w (owned_stored h v ov wv) (put_planned k v h of c w wv (sym s)) a

remove_cases : (h : Heap) (of : Rv) (c : Content) (k : Key) (a b d : Bool) → unless ((a, fault.TypeMismatch) ∷ (b, fault.Frozen) ∷ []) (then_write h of c (unless ((d, fault.ReservedKey) ∷ []) (no_answer (without k c.table)))) ≡ removed h of c k (unless ((a, fault.TypeMismatch) ∷ (b, fault.Frozen) ∷ (d, fault.ReservedKey) ∷ []) no_refusal)
remove_cases h of c k true b d = refl
remove_cases h of c k false true d = refl
remove_cases h of c k false false true = refl
remove_cases h of c k false false false = refl

remove_said : (k : Key) (h : Heap) (of : Rv) (o : Option Content) → is_foreign h of ≡ false → shown h of ≡ o → remove_at k h of ≡ edit_shown (removing k) h of o
remove_said k h of o p s = rw (p, s) refl

pub remove_nothing : (k : Key) (h : Heap) (of : Rv) → is_foreign h of ≡ false → shown h of ≡ None → remove_at k h of ≡ Err fault.TypeMismatch
remove_nothing k h of p s = remove_said k h of None p s

pub remove_foreign : (k : Key) (h : Heap) (of : Rv) → is_foreign h of ≡ true → remove_at k h of ≡ Err fault.Revoked
remove_foreign k h of p = rw p refl

text_is_object : (k : Key) (kd : Kind) → not (is_text_place k kd) ≡ false → kd ≡ kind.Obj
text_is_object (key.Text s) kind.Obj h = refl
text_is_object (key.Text s) kind.List h = absurd (cc)
text_is_object (key.Text s) kind.Map h = absurd (cc)
text_is_object (key.Text s) kind.Set h = absurd (cc)
text_is_object key.Null kd h = absurd (cc)
text_is_object (key.Bool b) kd h = absurd (cc)
text_is_object (key.Int n) kd h = absurd (cc)

plan_passes : (k : Key) (a b d : Bool) → unless ((a, fault.TypeMismatch) ∷ (b, fault.Frozen) ∷ (d, fault.ReservedKey) ∷ []) no_refusal ≡ no_refusal → (a ≡ false) × (b ≡ false)
plan_passes k true b d h = absurd (cc)
plan_passes k false true d h = absurd (cc)
plan_passes k false false true h = absurd (cc)
plan_passes k false false false h = (refl, refl)

removal : (h : Heap) (of : Rv) (k : Key) (c : Content) (said : Result (Heap × Unit {0}) DraftFault) → IsSound h → shown h of ≡ Some c → Owned h of → is_foreign h of ≡ false → remove_plan k (is_frozen of) c.kind ≡ no_refusal → said ≡ removed h of c k (remove_plan k (is_frozen of) c.kind) → IsRemoval h of k said
removal h of k c said sound s o w p e =
    let passes = plan_passes k (not (is_text_place k c.kind)) (is_frozen of) (is_reserved_key k) p in
    let is = text_is_object k c.kind passes.0 in
    let tab : IsTable h c.kind c.table = subst (IsContent h) s (shown_content h of sound o) in
    let sorted : IsTrue (is_sorted key_cmp c.table) = rw is at tab.ascends in
    record {
      object = not_frozen h of c s passes.1 o w;
      may = rw s sorted;
      table = rw s (without_table h c.kind k c.table tab);
      leaves = rw s (e ∙ ap (removed h of c k) p);
    }

remove_answers : (h : Heap) (of : Rv) (k : Key) (c : Content) (r : Result (Unit {0}) DraftFault) (said : Result (Heap × Unit {0}) DraftFault) → IsSound h → shown h of ≡ Some c → Owned h of → is_foreign h of ≡ false → r ≡ remove_plan k (is_frozen of) c.kind → said ≡ removed h of c k (remove_plan k (is_frozen of) c.kind) → MayRemove h of k r said
remove_answers h of k c (Ok u) said sound s o w p e = removal h of k c said sound s o w (sym p) e
remove_answers h of k c (Err f) said sound s o w p e = e ∙ ap (removed h of c k) (sym p)

pub remove_looked : (h : Heap) (of : Rv) (k : Key) (o : Option Content) (r : Result (Unit {0}) DraftFault) → IsSound h → o ≡ shown h of → o ≢ None → Owned h of → is_foreign h of ≡ false → r ≡ remove_plan k (is_frozen of) (kind_in o) → MayRemove h of k r (remove_at k h of)
remove_looked h of k None r sound s there ow w p = absurd (there refl)
remove_looked h of k (Some c) r sound s there ow w p = remove_answers h of k c r (remove_at k h of) sound (sym s) ow w p (remove_said k h of (Some c) w (sym s) ∙ remove_cases h of c k (not (is_text_place k c.kind)) (is_frozen of) (is_reserved_key k))
