-- The root draft of a flat state as a plain table: what is set and removed there, and when it differs.
use Rattle.std.proofs.Common.{◌≡◌, ◌≢◌, ℕ, ℤ, List, [], ◌∷◌, ap, refl, sym, ◌∙◌, subst, Bool, true, false, cond, Less, Equal, Greater, Ordering, ◌⊎◌, inl, inr}
use Rattle.std.specs.Prelude.{IsTrue, ◌&&◌, ◌||◌, not, Option, Some, None, Result, Ok, Err, ⊤}
use Rattle.std.specs.FinMap.Entries.{put, is_sorted, below_all}
use Rattle.std.specs.Ordering.{is_lt, is_eq, eq_by_cmp}
use Rattle.value_model.specs.declared.key.Key.{Key}
use Rattle.value_model.specs.declared.key.Key.TheVariants as key
use Rattle.value_model.specs.declared.kind.Kind.TheVariants as kind
use Rattle.value_model.specs.declared.op.Op.TheVariants as op
use Rattle.value_model.specs.declared.patch_why.PatchWhy.{PatchWhy}
use Rattle.value_model.specs.declared.patch_why.PatchWhy.TheVariants as why
use Rattle.value_model.specs.Limits.{is_long_text, is_reserved_text}
use Rattle.value_model.specs.Order.{key_cmp}
use Rattle.value_model.specs.Places.{without_key}
use Rattle.value_model.specs.Plain as plain_value
use Rattle.value_model.specs.Plain.{Plain, Table, list_of}
use Rattle.numbered.specs.Store.{tree_at}
use Rattle.numbered.specs.Tree.{Tree, Branches, prim, node, none, branch, plain, plains, containers, place}
use Rattle.patch_meaning.specs.Applying.{in_object}
use Rattle.host_machine.specs.Differences.{same_table}
use Rattle.host_machine.specs.Differences.{same as same_plain}
use Rattle.host_machine.specs.Flat.{is_integer, is_text_key, is_flat, is_flat_table}
use Rattle.host_machine.specs.Machine.{table_of}
use Rattle.host_machine.proofs.CarryLaws.{flat_put, flat_without, text_field}
use Rattle.run_heap.specs.declared.content.Content.{Content}
use Rattle.run_heap.specs.declared.fault.DraftFault.{DraftFault}
use Rattle.run_heap.specs.declared.fault.DraftFault.TheVariants as fault
use Rattle.run_heap.specs.declared.value.Given.{Given}
use Rattle.run_heap.specs.declared.value.Given.TheVariants as given
use Rattle.run_heap.specs.declared.value.Rv.{Rv}
use Rattle.run_heap.specs.declared.value.Rv.TheVariants.{Prim}
use Rattle.run_heap.specs.Answers.{Does}
use Rattle.run_heap.specs.Heap.{Heap, after, copied, given_value, given_table, given_content, is_foreign, opened, rewritten, shown, update}
use Rattle.run_heap.specs.Operations.{Rows, is_frozen, is_marked, no_answer, put_at, remove_at, root_draft, then_write, unless, without}
use Rattle.run_heap.specs.Sound.{IsObject}
use Rattle.run_heap.specs.Values.{same, same_tables}
use Rattle.draft_core.specs.declared.scope.Scope.{Scope}
use Rattle.draft_core.proofs.Kept.{container_ours, root_inside}
use Rattle.draft_core.specs.Seen.{heap, Stands}
use Rattle.host_engine.specs.Drafts.{plain_of, plain_row, plain_rows, entries_in, IsFlatObject, root_of, root_in, IsFlatScope}
use Rattle.host_engine.specs.Edits.{Edits, MayStop, stop_of}
use Rattle.host_engine.specs.Kept.{number_of, table_at}
use Rattle.host_engine.proofs.FlatLaws.{Flat, integer_head, flat_tail}

-- ---- rows as entries
put_in : (k j : Key) (e : Key × Rv) (t : Rows) (o : Ordering) → key_cmp k e.0 ≡ o → plain_rows (put key_cmp k (Prim j) t) ≡ put key_cmp k (plain_value.prim j) (plain_rows t)
    → plain_rows (put key_cmp k (Prim j) (e ∷ t)) ≡ put key_cmp k (plain_value.prim j) (plain_rows (e ∷ t))
put_in k j e t Less p h = rw p refl
put_in k j e t Equal p h = rw p refl
put_in k j e t Greater p h = rw p (ap (λ (es : Table). plain_row e ∷ es) h)

pub plain_put : (k j : Key) (t : Rows) → plain_rows (put key_cmp k (Prim j) t) ≡ put key_cmp k (plain_value.prim j) (plain_rows t)
plain_put k j [] = refl
plain_put k j (e ∷ t) = put_in k j e t (key_cmp k e.0) refl (plain_put k j t)

kept_or_not : (b : Bool) (e : Key × Rv) (t : Rows) → plain_rows (cond b (e ∷ t) t) ≡ cond b (plain_row e ∷ plain_rows t) (plain_rows t)
kept_or_not true e t = refl
kept_or_not false e t = refl

pub plain_without : (k : Key) (t : Rows) → plain_rows (without k t) ≡ without_key k (plain_rows t)
plain_without k [] = refl
plain_without k (e ∷ t) =
    let b = not (eq_by_cmp key_cmp k e.0) in
    kept_or_not b e (without k t) ∙ ap (λ (es : Table). cond b (plain_row e ∷ es) es) (plain_without k t)

plain_below : (k : Key) (t : Rows) → below_all key_cmp k (plain_rows t) ≡ below_all key_cmp k t
plain_below k [] = refl
plain_below k (e ∷ t) = ap (λ (b : Bool). is_lt (key_cmp k e.0) && b) (plain_below k t)

pub plain_sorted : (t : Rows) → is_sorted key_cmp (plain_rows t) ≡ is_sorted key_cmp t
plain_sorted [] = refl
plain_sorted (e ∷ t) = let a = plain_below e.0 t in let b = plain_sorted t in λ i. a i && b i

same_value : (v w : Rv) → IsTrue (is_integer (plain_of v)) → IsTrue (is_integer (plain_of w)) → same v w ≡ same_plain (plain_of v) (plain_of w)
same_value (Prim j) (Prim k) a b = refl
same_value _ _ a b = absurd (cc)

pub plain_same : (t u : Rows) → Flat (plain_rows t) → Flat (plain_rows u) → same_tables t u ≡ same_table (plain_rows t) (plain_rows u)
plain_same [] [] f g = refl
plain_same [] (e ∷ u) f g = refl
plain_same (d ∷ t) [] f g = refl
plain_same (d ∷ t) (e ∷ u) f g =
    let v = same_value d.1 e.1 (integer_head (plain_row d) (plain_rows t) f) (integer_head (plain_row e) (plain_rows u) g) in
    let rest = plain_same t u (flat_tail (plain_row d) (plain_rows t) f) (flat_tail (plain_row e) (plain_rows u) g) in
    λ i. is_eq (key_cmp d.0 e.0) && v i && rest i

-- ---- a flat node
given_integer : (g : Given) (v : Tree) → IsTrue (is_integer (plain v)) → plain_of (given_value g v) ≡ plain v
given_integer g (prim k) h = refl
given_integer g (node id of es) h = absurd (cc)

given_plain : (g : Given) (es : Branches) → Flat (list_of (plains es)) → plain_rows (given_table g es) ≡ list_of (plains es)
given_plain g none f = refl
given_plain g (branch k v es) f =
    let here = given_integer g v (integer_head (k, plain v) (list_of (plains es)) f) in
    let rest = given_plain (after g (containers v)) es (flat_tail (k, plain v) (list_of (plains es)) f) in
    λ i. (k, here i) ∷ rest i

pub flat_content : (g : Given) (t : Tree) → IsTrue (is_flat (plain t)) → IsFlatObject (given_content g t)
flat_content g (prim k) f = absurd (cc)
flat_content g (node id kind.Obj es) f = (refl, rw (given_plain g es f) f)
flat_content g (node id kind.List es) f = absurd (cc)
flat_content g (node id kind.Map es) f = absurd (cc)
flat_content g (node id kind.Set es) f = absurd (cc)

pub flat_entries : (g : Given) (t : Tree) → IsTrue (is_flat (plain t)) → entries_in (given_content g t) ≡ table_of (plain t)
flat_entries g (prim k) f = absurd (cc)
flat_entries g (node id kind.Obj es) f = given_plain g es f
flat_entries g (node id kind.List es) f = absurd (cc)
flat_entries g (node id kind.Map es) f = absurd (cc)
flat_entries g (node id kind.Set es) f = absurd (cc)

-- ---- a scope at its beginning
root_copied : (scope : ℕ) (t : Tree) → IsTrue (is_flat (plain t)) → copied scope 0 (place 0 t) ≡ given_content (given.From (record { scope = scope; slot = 1 })) t
root_copied scope (prim k) f = absurd (cc)
root_copied scope (node id of es) f = refl

begun_root : (ts : List Tree) (s : Scope) (scope root : ℕ) → heap ts s ≡ opened scope ts root → IsTrue (is_flat (plain (tree_at ts root))) → root_in ts s ≡ given_content (given.From (record { scope = scope; slot = 1 })) (tree_at ts root)
begun_root ts s scope root e f = ap root_of e ∙ root_copied scope (tree_at ts root) f

pub begun_flat : (ts : List Tree) (s : Scope) (scope root : ℕ) → Stands ts s → heap ts s ≡ opened scope ts root → IsTrue (is_flat (plain (tree_at ts root))) → IsFlatScope ts s
begun_flat ts s scope root st e f = record {
  stands = st;
  flat = subst IsFlatObject (sym (begun_root ts s scope root e f)) (flat_content (given.From (record { scope = scope; slot = 1 })) (tree_at ts root) f);
}

pub begun_entries : (ts : List Tree) (s : Scope) (scope root : ℕ) → heap ts s ≡ opened scope ts root → IsTrue (is_flat (plain (tree_at ts root))) → entries_in (root_in ts s) ≡ table_at ts root
begun_entries ts s scope root e f = ap entries_in (begun_root ts s scope root e f) ∙ flat_entries (given.From (record { scope = scope; slot = 1 })) (tree_at ts root) f

unmarked : (g : Given) (t : Tree) → is_marked (given_content g t) ≡ false
unmarked g (prim k) = refl
unmarked g (node id of es) = refl

pub begun_mark : (ts : List Tree) (s : Scope) (scope root : ℕ) → heap ts s ≡ opened scope ts root → IsTrue (is_flat (plain (tree_at ts root))) → is_marked (root_in ts s) ≡ false
begun_mark ts s scope root e f = ap is_marked (begun_root ts s scope root e f) ∙ unmarked (given.From (record { scope = scope; slot = 1 })) (tree_at ts root)

pub root_object : (ts : List Tree) (s : Scope) → Stands ts s → IsObject (heap ts s) (root_draft (heap ts s))
root_object ts s st = (refl, root_inside ts s st)

-- ---- what the table of operations says of an edit of it
put_told : (h : Heap) (of : Rv) (s : List ℕ) (j : Key) (c : Content) → is_foreign h of ≡ false → shown h of ≡ Some c → is_frozen of ≡ false → c.kind ≡ kind.Obj
    → put_at (key.Text s) (Prim j) h of ≡ then_write h of c (unless ((is_reserved_text s, fault.ReservedKey) ∷ (is_long_text s, fault.KeyTooLong) ∷ []) (no_answer (put key_cmp (key.Text s) (Prim j) c.table)))
put_told h of s j c p q r k = rw (p, q, r, k) refl

remove_told : (h : Heap) (of : Rv) (s : List ℕ) (c : Content) → is_foreign h of ≡ false → shown h of ≡ Some c → is_frozen of ≡ false → c.kind ≡ kind.Obj
    → remove_at (key.Text s) h of ≡ then_write h of c (unless ((is_reserved_text s, fault.ReservedKey) ∷ []) (no_answer (without (key.Text s) c.table)))
remove_told h of s c p q r k = rw (p, q, r, k) refl

-- ---- the refusal of an edit
abbrev pub Stops : Result Table PatchWhy → DraftFault → Type 0
Stops edit fault.ReservedKey = edit ≡ Err why.ReservedKey
Stops edit fault.KeyTooLong = edit ≡ Err why.KeyTooLong
Stops edit fault.Memory = ⊤
Stops edit _ = ⊥

is_memory : (f : DraftFault) → (f ≡ fault.Memory) ⊎ (f ≢ fault.Memory)
is_memory fault.Memory = inl refl
is_memory _ = inr (λ e. absurd (cc))

stops_as : (edit : Result Table PatchWhy) (said f : DraftFault) → Stops edit said → (f ≢ fault.Memory → said ≡ f) → Stops edit f
stops_as edit said f h m = elim (is_memory f) [
  | inl e ↦ subst (Stops edit) (sym e) tt
  | inr n ↦ subst (Stops edit) (m n) h
]

stops_never : (edit : Result Table PatchWhy) (f : DraftFault) → (f ≢ fault.Memory → ⊥) → Stops edit f
stops_never edit f m = elim (is_memory f) [
  | inl e ↦ subst (Stops edit) (sym e) tt
  | inr n ↦ absurd (m n)
]

pub stops_may : (edit : Result Table PatchWhy) (f : DraftFault) → Stops edit f → MayStop f
stops_may edit fault.ReservedKey h = tt
stops_may edit fault.KeyTooLong h = tt
stops_may edit fault.Memory h = tt
stops_may edit _ h = absurd h

pub stops_edit : (old new : Option Content) (edit : Result Table PatchWhy) (f : DraftFault) → Stops edit f → Edits old new edit (Err (stop_of f))
stops_edit old new edit fault.ReservedKey h = h
stops_edit old new edit fault.KeyTooLong h = h
stops_edit old new edit fault.Memory h = tt
stops_edit old new edit _ h = absurd h

-- ---- the root draft after an edit
pub record IsEdited (h g : Heap) (edit : Result Table PatchWhy) : Type 0 where
  pub table : edit ≡ Ok (entries_in (root_of g))
  pub mark : is_marked (root_of g) ≡ (is_marked (root_of h) || not (same_table (entries_in (root_of h)) (entries_in (root_of g))))
  pub flat : IsFlatObject (root_of g)

abbrev pub AfterEdit : Heap → Heap → Result Table PatchWhy → Result (Unit {0}) DraftFault → Type 0
AfterEdit h g edit (Ok u) = IsEdited h g edit
AfterEdit h g edit (Err f) = Stops edit f

written_root : (h g : Heap) (c : Content) (t : Rows) (edit : Result Table PatchWhy) → root_of h ≡ Some c → c.kind ≡ kind.Obj → Flat (plain_rows c.table) → Flat (plain_rows t) → edit ≡ Ok (plain_rows t) → update 0 (rewritten t c) h ≡ g → IsEdited h g edit
written_root h g c t edit e k old new said is =
    let mark : (c.written || not (same_tables c.table t)) ≡ (is_marked (root_of h) || not (same_table (entries_in (root_of h)) (plain_rows t))) =
    ap (λ (b : Bool). c.written || not b) (plain_same c.table t old new) ∙ ap (λ (o : Option Content). is_marked o || not (same_table (entries_in o) (plain_rows t))) (sym e) in
    subst (λ (x : Heap). IsEdited h x edit) is (record { table = said; mark = mark; flat = (k, new) })

abbrev heap_then : Heap → Result (Heap × Unit {0}) DraftFault → Heap
heap_then h (Ok x) = x.0
heap_then h (Err e) = h

-- an entry that is set
set_cases : (h g : Heap) (s : List ℕ) (n : ℤ) (c : Content) (r : Result (Unit {0}) DraftFault) (a b : Bool) → is_reserved_text s ≡ a → is_long_text s ≡ b → root_of h ≡ Some c → c.kind ≡ kind.Obj → Flat (plain_rows c.table)
    → Does r h g (then_write h (root_draft h) c (unless ((a, fault.ReservedKey) ∷ (b, fault.KeyTooLong) ∷ []) (no_answer (put key_cmp (key.Text s) (Prim (key.Int n)) c.table))))
    → AfterEdit h g (in_object op.Add (key.Text s) (Some (number_of n)) (plain_rows c.table)) r
set_cases h g s n c (Ok u) true b p q e k f d = absurd (cc)
set_cases h g s n c (Ok u) false true p q e k f d = absurd (cc)
set_cases h g s n c (Ok u) false false p q e k f d =
    let t = put key_cmp (key.Text s) (Prim (key.Int n)) c.table in
    let is : update 0 (rewritten t c) h ≡ g = ap (heap_then h) d in
    let put_is = plain_put (key.Text s) (key.Int n) c.table in
    let said : in_object op.Add (key.Text s) (Some (number_of n)) (plain_rows c.table) ≡ Ok (put key_cmp (key.Text s) (number_of n) (plain_rows c.table)) = rw (p, q) refl in
    written_root h g c t _ e k f (ap is_flat_table put_is ∙ flat_put (key.Text s) (number_of n) (plain_rows c.table) (text_field s p q) refl f)
    (said ∙ ap (λ (es : Table). let r : Result Table PatchWhy = Ok es in r) (sym put_is)) is
set_cases h g s n c (Err x) true b p q e k f d =
    let said : in_object op.Add (key.Text s) (Some (number_of n)) (plain_rows c.table) ≡ Err why.ReservedKey = rw p refl in
    stops_as _ fault.ReservedKey x said (λ m. let z = d.1 m in cc)
set_cases h g s n c (Err x) false true p q e k f d =
    let said : in_object op.Add (key.Text s) (Some (number_of n)) (plain_rows c.table) ≡ Err why.KeyTooLong = rw (p, q) refl in
    stops_as _ fault.KeyTooLong x said (λ m. let z = d.1 m in cc)
set_cases h g s n c (Err x) false false p q e k f d = stops_never _ x (λ m. let z = d.1 m in absurd (cc))

set_content : (h g : Heap) (s : List ℕ) (n : ℤ) (o : Option Content) (r : Result (Unit {0}) DraftFault) → is_foreign h (root_draft h) ≡ false → root_of h ≡ o → IsFlatObject o
    → Does r h g (put_at (key.Text s) (Prim (key.Int n)) h (root_draft h)) → AfterEdit h g (in_object op.Add (key.Text s) (Some (number_of n)) (entries_in o)) r
set_content h g s n None r p e f d = absurd f
set_content h g s n (Some c) r p e f d =
    let told = put_told h (root_draft h) s (key.Int n) c p e refl f.0 in
    set_cases h g s n c r (is_reserved_text s) (is_long_text s) refl refl e f.0 f.1 (subst (Does r h g) told d)

pub set_does : (ts : List Tree) (s t : Scope) (k : Key) (n : ℤ) (r : Result (Unit {0}) DraftFault) → IsFlatScope ts s → IsTrue (is_text_key k)
    → Does r (heap ts s) (heap ts t) (put_at k (Prim (key.Int n)) (heap ts s) (root_draft (heap ts s))) → AfterEdit (heap ts s) (heap ts t) (in_object op.Add k (Some (number_of n)) (entries_in (root_in ts s))) r
set_does ts s t (key.Text x) n r f w d =
    let h = heap ts s in
    set_content h (heap ts t) x n (root_of h) r (container_ours h (root_draft h) (root_object ts s f.stands)) refl f.flat d
set_does ts s t key.Null n r f w d = absurd (cc)
set_does ts s t (key.Bool b) n r f w d = absurd (cc)
set_does ts s t (key.Int i) n r f w d = absurd (cc)

-- an entry that is removed
unset_cases : (h g : Heap) (s : List ℕ) (c : Content) (r : Result (Unit {0}) DraftFault) (a : Bool) → is_reserved_text s ≡ a → root_of h ≡ Some c → c.kind ≡ kind.Obj → Flat (plain_rows c.table)
    → Does r h g (then_write h (root_draft h) c (unless ((a, fault.ReservedKey) ∷ []) (no_answer (without (key.Text s) c.table))))
    → AfterEdit h g (in_object op.Remove (key.Text s) None (plain_rows c.table)) r
unset_cases h g s c (Ok u) true p e k f d = absurd (cc)
unset_cases h g s c (Ok u) false p e k f d =
    let t = without (key.Text s) c.table in
    let is : update 0 (rewritten t c) h ≡ g = ap (heap_then h) d in
    let without_is = plain_without (key.Text s) c.table in
    let said : in_object op.Remove (key.Text s) None (plain_rows c.table) ≡ Ok (without_key (key.Text s) (plain_rows c.table)) = rw p refl in
    written_root h g c t _ e k f (ap is_flat_table without_is ∙ flat_without (key.Text s) (plain_rows c.table) f)
    (said ∙ ap (λ (es : Table). let r : Result Table PatchWhy = Ok es in r) (sym without_is)) is
unset_cases h g s c (Err x) true p e k f d =
    let said : in_object op.Remove (key.Text s) None (plain_rows c.table) ≡ Err why.ReservedKey = rw p refl in
    stops_as _ fault.ReservedKey x said (λ m. let z = d.1 m in cc)
unset_cases h g s c (Err x) false p e k f d = stops_never _ x (λ m. let z = d.1 m in absurd (cc))

unset_content : (h g : Heap) (s : List ℕ) (o : Option Content) (r : Result (Unit {0}) DraftFault) → is_foreign h (root_draft h) ≡ false → root_of h ≡ o → IsFlatObject o
    → Does r h g (remove_at (key.Text s) h (root_draft h)) → AfterEdit h g (in_object op.Remove (key.Text s) None (entries_in o)) r
unset_content h g s None r p e f d = absurd f
unset_content h g s (Some c) r p e f d =
    let told = remove_told h (root_draft h) s c p e refl f.0 in
    unset_cases h g s c r (is_reserved_text s) refl e f.0 f.1 (subst (Does r h g) told d)

pub unset_does : (ts : List Tree) (s t : Scope) (k : Key) (r : Result (Unit {0}) DraftFault) → IsFlatScope ts s → IsTrue (is_text_key k)
    → Does r (heap ts s) (heap ts t) (remove_at k (heap ts s) (root_draft (heap ts s))) → AfterEdit (heap ts s) (heap ts t) (in_object op.Remove k None (entries_in (root_in ts s))) r
unset_does ts s t (key.Text x) r f w d =
    let h = heap ts s in
    unset_content h (heap ts t) x (root_of h) r (container_ours h (root_draft h) (root_object ts s f.stands)) refl f.flat d
unset_does ts s t key.Null r f w d = absurd (cc)
unset_does ts s t (key.Bool b) r f w d = absurd (cc)
unset_does ts s t (key.Int i) r f w d = absurd (cc)
