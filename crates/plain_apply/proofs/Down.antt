-- A patch at a container below which its path goes on: laws.
use Rattle.std.specs.Prelude.{◌≡◌, ℕ, ◌+◌, ◌<◌, ◌≤◌, pos, List, [], ◌∷◌, map, length, Bool, true, false, Option, Some, Result, Ok, Err, IsTrue, slice_get, refl}
use Rattle.std.proofs.Common.{zero, suc, ap, sym, ◌∙◌, arith, drop, drop-cons, get_or, set, add-one}
use Rattle.std.specs.List.{insert, remove}
use Rattle.std.specs.FinMap.Entries.{find, put, is_sorted}
use Rattle.plain_apply.specs.Gives.{Fails}
use Rattle.plain_apply.proofs.Items.{map_set_items}
use Rattle.plain_apply.specs.declared.fault.EditFault.{EditFault}
use Rattle.plain_apply.specs.declared.fault.EditFault.TheVariants as edit
use Rattle.value_checks.proofs.Members.{no_field, not_placed}
use Rattle.value_model.specs.Limits.{is_reserved_text}
use Rattle.value_model.specs.Order.{key_cmp}
use Rattle.value_model.specs.Search.{IsPlace, put_found}
use Rattle.value_model.proofs.Search.{found_at}
use Rattle.value_model.specs.declared.key.Key.TheVariants as key
use Rattle.value_model.specs.declared.kind.Kind.TheVariants as kind
use Rattle.values.specs.Seen.{of_field, of_fields, of_entry, of_entries, of_item, of_items}
use Rattle.values.specs.declared.val.Entry.{Entry}
use Rattle.values.specs.declared.val.Field.{Field}
use Rattle.patch_meaning.specs.Applying.{unless, as_child, into_child, patched}
use Rattle.value_model.specs.declared.key.Key.{Key}
use Rattle.value_model.specs.declared.kind.Kind.{Kind}
use Rattle.value_model.specs.declared.op.Op.{Op}
use Rattle.value_model.specs.declared.patch_why.PatchWhy.{PatchWhy}
use Rattle.value_model.specs.declared.patch_why.PatchWhy.TheVariants as why
use Rattle.value_model.specs.Plain.{Plain, Table, Entries, prim, node, entries, list_of}
use Rattle.plain_apply.specs.Down.{below}

two_left : (path : List Key) (i : ℕ) (d : Key) → i + 1 < length path → drop i path ≡ get_or path i d ∷ drop (i + 1) path
two_left path i d h = let here : i < length path = omega arith in rw (add-one, drop-cons path i d here)

pub goes_down : (op : Op) (v : Option Plain) (kind : Kind) (es : Entries) (path : List Key) (i : ℕ) (d : Key) → i + 1 < length path
    → patched op v (drop i path) (node kind es) ≡ below kind op v (get_or path i d) (drop (i + 1) path) (list_of es)
goes_down op v kind es path i d h =
    let next : i + 1 < length path = h in
    let rest : drop (i + 1) path ≡ get_or path (i + 1) d ∷ drop (suc (i + 1)) path = drop-cons path (i + 1) d next in
    ap (λ (p : List Key). patched op v p (node kind es)) (two_left path i d h)
    ∙ ap (λ (p : List Key). patched op v (get_or path i d ∷ p) (node kind es)) rest
    ∙ ap (λ (p : List Key). below kind op v (get_or path i d) p (list_of es)) (sym rest)

pub stays_primitive : (op : Op) (v : Option Plain) (j : Key) (path : List Key) → patched op v path (prim j) ≡ Err why.NoPath
stays_primitive op v j [] = refl
stays_primitive op v j (k ∷ []) = refl
stays_primitive op v j (k ∷ l ∷ path) = refl

past : (path : List Key) (i : ℕ) → length path ≤ i → drop i path ≡ []
past [] zero h = refl
past [] (suc i) h = refl
past (k ∷ path) zero h = absurd (omega arith)
past (k ∷ path) (suc i) h = past path i (omega arith)

pub last_step : (op : Op) (v : Option Plain) (x : Plain) (path : List Key) (i : ℕ) (d : Key) → i + 1 ≡ length path → patched op v (drop i path) x ≡ patched op v (get_or path i d ∷ []) x
last_step op v x path i d h =
    let here : i < length path = omega arith in
    let over : drop (suc i) path ≡ [] = past path (suc i) (omega arith) in
    ap (λ (p : List Key). patched op v p x) (drop-cons path i d here ∙ ap (λ (p : List Key). get_or path i d ∷ p) over)

-- an entry that was taken out and is put back changed
pub put_back : (X : Type 0) (xs : List X) (i : ℕ) (x : X) → i < length xs → insert (remove xs i) i x ≡ set xs i x
put_back X [] i x h = absurd (omega arith)
put_back X (y ∷ xs) zero x h = refl
put_back X (y ∷ xs) (suc i) x h = ap (λ (ys : List X). y ∷ ys) (put_back X xs i x (omega arith))

-- a fault below is the fault
pub fails_child : (e : EditFault) (kind : Kind) (k : Key) (es : Table) (r : Result Plain PatchWhy) → Fails e r → Fails e (as_child kind k es r)
fails_child edit.Memory kind k es r h = tt
fails_child (edit.Refused w) kind k es r h = ap (as_child kind k es) h

module _ {X : Type 0} (f : X → Key × Plain) (g : Plain → Result Plain PatchWhy) (k : Key) (xs : List X) (i : ℕ) (d : X) where
  pub found_child : IsPlace f k xs (Ok i) → d ≡ get_or xs i d → into_child g (find key_cmp k (map f xs)) ≡ g (f d).1
  found_child place is = ap (into_child g) (found_at f k xs i d place.past place.in_range (place.same d)) ∙ ap (λ (x : X). g (f x).1) (sym is)

  pub put_changed : (x : X) → IsPlace f k xs (Ok i) → d ≡ get_or xs i d → (f x).0 ≡ (f d).0 → put key_cmp k (f x).1 (map f xs) ≡ map f (insert (remove xs i) i x)
  put_changed x place is same =
      sym (put_found f k xs i d x place.past place.in_range (place.same d) (same ∙ ap (λ (y : X). (f y).0) is)) ∙ ap (map f) (sym (put_back X xs i x place.in_range))

-- an object has no child at a step that is no text
pub no_text : (op : Op) (v : Option Plain) (k : Key) (rest : List Key) (fs : List Field) → ((s : _) → k ≡ key.Text s → ⊥) → below kind.Obj op v k rest (map of_field fs) ≡ Err why.NoPath
no_text op v key.Null rest fs h = rw (no_field key.Null fs (λ t. t))
no_text op v (key.Bool b) rest fs h = rw (no_field (key.Bool b) fs (λ t. t))
no_text op v (key.Int n) rest fs h = rw (no_field (key.Int n) fs (λ t. t))
no_text op v (key.Text s) rest fs h = absurd (h s refl)

unreserved : (b : Bool) (r : Result Plain PatchWhy) → b ≡ false → unless b why.ReservedKey r ≡ r
unreserved true r h = absurd (cc)
unreserved false r h = refl

module _ (op : Op) (v : Option Plain) (rest : List Key) where
  pub no_name : (s : List ℕ) (fs : List Field) (i : ℕ) → is_reserved_text s ≡ false → IsPlace of_field (key.Text s) fs (Err i) → IsTrue (is_sorted key_cmp (map of_field fs)) → below kind.Obj op v (key.Text s) rest (map of_field fs) ≡ Err why.NoPath
  no_name s fs i r place sorted =
      unreserved (is_reserved_text s) _ r ∙ ap (λ o. as_child kind.Obj (key.Text s) (map of_field fs) (into_child (patched op v rest) o)) (not_placed of_field (key.Text s) fs i place sorted)

  pub field_child : (s : List ℕ) (fs : List Field) (i : ℕ) (d : Field) → is_reserved_text s ≡ false → IsPlace of_field (key.Text s) fs (Ok i) → d ≡ get_or fs i d
      → below kind.Obj op v (key.Text s) rest (map of_field fs) ≡ as_child kind.Obj (key.Text s) (map of_field fs) (patched op v rest d.value)
  field_child s fs i d r place is =
      unreserved (is_reserved_text s) _ r ∙ ap (as_child kind.Obj (key.Text s) (map of_field fs)) (found_child of_field (patched op v rest) (key.Text s) fs i d place is)

  pub field_done : (s : List ℕ) (fs : List Field) (i : ℕ) (d : Field) (w : Plain) → is_reserved_text s ≡ false → IsPlace of_field (key.Text s) fs (Ok i) → d ≡ get_or fs i d → patched op v rest d.value ≡ Ok w
      → below kind.Obj op v (key.Text s) rest (map of_field fs) ≡ Ok (node kind.Obj (of_fields (insert (remove fs i) i (record { key = d.key; value = w }))))
  field_done s fs i d w r place is done =
      field_child s fs i d r place is ∙ ap (as_child kind.Obj (key.Text s) (map of_field fs)) done
      ∙ ap (λ (t : Table). Ok (node kind.Obj (entries t))) (put_changed of_field (patched op v rest) (key.Text s) fs i d (record { key = d.key; value = w }) place is refl)

  pub no_entry : (k : Key) (es : List Entry) (i : ℕ) → IsPlace of_entry k es (Err i) → IsTrue (is_sorted key_cmp (map of_entry es)) → below kind.Map op v k rest (map of_entry es) ≡ Err why.NoPath
  no_entry k es i place sorted = ap (λ o. as_child kind.Map k (map of_entry es) (into_child (patched op v rest) o)) (not_placed of_entry k es i place sorted)

  pub entry_child : (k : Key) (es : List Entry) (i : ℕ) (d : Entry) → IsPlace of_entry k es (Ok i) → d ≡ get_or es i d
      → below kind.Map op v k rest (map of_entry es) ≡ as_child kind.Map k (map of_entry es) (patched op v rest d.value)
  entry_child k es i d place is = ap (as_child kind.Map k (map of_entry es)) (found_child of_entry (patched op v rest) k es i d place is)

  pub entry_done : (k : Key) (es : List Entry) (i : ℕ) (d : Entry) (w : Plain) → IsPlace of_entry k es (Ok i) → d ≡ get_or es i d → patched op v rest d.value ≡ Ok w
      → below kind.Map op v k rest (map of_entry es) ≡ Ok (node kind.Map (of_entries (insert (remove es i) i (record { key = d.key; value = w }))))
  entry_done k es i d w place is done =
      entry_child k es i d place is ∙ ap (as_child kind.Map k (map of_entry es)) done
      ∙ ap (λ (t : Table). Ok (node kind.Map (entries t))) (put_changed of_entry (patched op v rest) k es i d (record { key = d.key; value = w }) place is refl)

  child_is : (vs : List Plain) (i : ℕ) (d : Plain) → i < length vs → slice_get (map (λ e. e.1) (map of_item vs)) i ≡ Some (get_or vs i d)
  child_is [] i d h = absurd (omega arith)
  child_is (w ∷ vs) zero d h = refl
  child_is (w ∷ vs) (suc i) d h = child_is vs i d (omega arith)

  pub item_child : (vs : List Plain) (i : ℕ) (d : Plain) → i < length vs → d ≡ get_or vs i d
      → below kind.List op v (key.Int (pos i)) rest (map of_item vs) ≡ as_child kind.List (key.Int (pos i)) (map of_item vs) (patched op v rest d)
  item_child vs i d h is = ap (λ o. as_child kind.List (key.Int (pos i)) (map of_item vs) (into_child (patched op v rest) o)) (child_is vs i d h ∙ ap Some (sym is))

  pub item_done : (vs : List Plain) (i : ℕ) (d w : Plain) → i < length vs → d ≡ get_or vs i d → patched op v rest d ≡ Ok w
      → below kind.List op v (key.Int (pos i)) rest (map of_item vs) ≡ Ok (node kind.List (of_items (insert (remove vs i) i w)))
  item_done vs i d w h is done =
      item_child vs i d h is ∙ ap (as_child kind.List (key.Int (pos i)) (map of_item vs)) done
      ∙ ap (λ (t : Table). Ok (node kind.List (entries t))) (sym (map_set_items vs i w) ∙ ap (map of_item) (sym (put_back Plain vs i w h)))
