-- A patch in place leaves every entry of a view's container that it doesn't touch, and the order of the container's keys.
use Rattle.std.specs.Prelude.{◌≡◌, ◌≢◌, Bool, true, false, List, [], ◌∷◌, Option, Some, None, Result, Ok, Err, IsTrue, refl}
use Rattle.std.proofs.Common.{ap, sym, subst, ◌∙◌, cond}
use Rattle.std.specs.Ordering.{eq_by_cmp}
use Rattle.value_model.specs.declared.key.Key.{Key}
use Rattle.value_model.specs.declared.kind.Kind.{Kind}
use Rattle.value_model.specs.declared.op.Op.{Op}
use Rattle.value_model.specs.declared.patch_why.PatchWhy.{PatchWhy}
use Rattle.value_model.specs.declared.patch_why.PatchWhy.TheVariants as why
use Rattle.value_model.specs.Order.{key_cmp}
use Rattle.value_model.specs.Places.{at, then_at, child, child_at, ascends_at}
use Rattle.value_model.specs.Plain.{Plain, Entries, Table, prim, node, entries, list_of}
use Rattle.value_model.proofs.Steps.{list_of_entries}
use Rattle.patch_meaning.specs.Applying.{unless, as_node, with_child, as_child, is_reserved_step, into_child, patched}
use Rattle.guards_views_spec.specs.Views.{Reach, above, inside, aside, reach}
use Rattle.view_laws.specs.InPlace.{in_place, if_some}
use Rattle.view_laws.specs.Standing.{entry_in, entry_at}
use Rattle.view_laws.proofs.EditLaws.{passed, ok_is, same_key, other_key, Stays, edited_stays}
use Rattle.view_laws.proofs.ChildLaws.{Child, child_set, child_stays}

-- the keys of a container ascend; a primitive and nothing have none
abbrev pub AscendsAt : Option Plain → Type 0
AscendsAt None = Unit {0}
AscendsAt (Some (prim j)) = Unit {0}
AscendsAt (Some (node kind es)) = IsTrue (ascends_at kind (list_of es))

-- a patch that leads there touches neither the whole nor the entry of a key
abbrev pub Misses : Key → Reach → Type 0
Misses k above = ⊥
Misses k (inside j) = k ≢ j
Misses k aside = Unit {0}

abbrev pub NotAbove : Reach → Type 0
NotAbove above = ⊥
NotAbove (inside j) = Unit {0}
NotAbove aside = Unit {0}

-- what stands at a path, before and after
pub record Kept (r : Reach) (old new : Option Plain) : Type 0 where
  pub others : (k : Key) → Misses k r → entry_at k new ≡ entry_at k old
  pub ascends : AscendsAt old → AscendsAt new

same_kept : (r : Reach) (old new : Option Plain) → new ≡ old → Kept r old new
same_kept r old new e = record { others = λ k m. ap (entry_at k) e; ascends = λ h. subst AscendsAt (sym e) h }

-- ---- the container itself: an entry of it changes
stays_entry : (kind : Kind) (j k : Key) (old new : Table) → Stays kind j old new → k ≢ j → entry_in kind k (list_of (entries new)) ≡ entry_in kind k old
stays_entry kind j k old new s d = ap (entry_in kind k) (list_of_entries new) ∙ s.others k d

stays_kept : (kind : Kind) (j : Key) (es : Entries) (new : Table) → Stays kind j (list_of es) new → Kept (inside j) (Some (node kind es)) (Some (node kind (entries new)))
stays_kept kind j es new s = record {
  others = λ k d. stays_entry kind j k (list_of es) new s d;
  ascends = λ h. subst (λ (t : Table). IsTrue (ascends_at kind t)) (sym (list_of_entries new)) (s.ascends h);
}

-- ---- what a patch that is applied made
record Made (kind : Kind) (r : Result Table PatchWhy) (y : Plain) : Type 0 where
  table : Table
  is : r ≡ Ok table
  made : y ≡ node kind (entries table)

made : (kind : Kind) (r : Result Table PatchWhy) (y : Plain) → as_node kind r ≡ Ok y → Made kind r y
made kind (Ok es) y h = record { table = es; is = refl; made = sym (ok_is _ _ h) }
made kind (Err w) y h = absurd (cc)

record Inner (kind : Kind) (j : Key) (es : Table) (f : Plain → Result Plain PatchWhy) (y : Plain) : Type 0 where
  old : Plain
  new : Plain
  was : child_at kind j es ≡ Some old
  makes : f old ≡ Ok new
  made : y ≡ node kind (entries (with_child kind j es new))

inner_of : (kind : Kind) (j : Key) (es : Table) (f : Plain → Result Plain PatchWhy) (y old : Plain) (r : Result Plain PatchWhy) → child_at kind j es ≡ Some old → f old ≡ r → as_child kind j es r ≡ Ok y → Inner kind j es f y
inner_of kind j es f y old (Ok new) was makes h = record { old = old; new = new; was = was; makes = makes; made = sym (ok_is _ _ h) }
inner_of kind j es f y old (Err w) was makes h = absurd (cc)

inner_at : (kind : Kind) (j : Key) (es : Table) (f : Plain → Result Plain PatchWhy) (y : Plain) (o : Option Plain) → child_at kind j es ≡ o → as_child kind j es (into_child f o) ≡ Ok y → Inner kind j es f y
inner_at kind j es f y None was h = absurd (cc)
inner_at kind j es f y (Some old) was h = inner_of kind j es f y old (f old) was refl h

inner : (kind : Kind) (j : Key) (es : Table) (f : Plain → Result Plain PatchWhy) (y : Plain) → unless (is_reserved_step kind j) why.ReservedKey (as_child kind j es (into_child f (child_at kind j es))) ≡ Ok y → Inner kind j es f y
inner kind j es f y h = inner_at kind j es f y (child_at kind j es) refl (passed (is_reserved_step kind j) _ _ _ h)

-- ---- a container on the way
-- what stands under another step
aside_child : (kind : Kind) (j i : Key) (es : Entries) (new : Table) → Stays kind j (list_of es) new → i ≢ j → child i (node kind (entries new)) ≡ child i (node kind es)
aside_child kind j i es new s d = ap (child_at kind i) (list_of_entries new) ∙ child_stays kind j (list_of es) new s i d

aside_kept : (kind : Kind) (j i : Key) (es : Entries) (new : Table) (path : List Key) (r : Reach) → Stays kind j (list_of es) new → i ≢ j → Kept r (at (i ∷ path) (node kind es)) (at (i ∷ path) (node kind (entries new)))
aside_kept kind j i es new path r s d = same_kept r _ _ (ap (then_at (at path)) (aside_child kind j i es new s d))

-- the step that leads on
there : (kind : Kind) (j : Key) (es : Entries) (w : Plain) → Child kind j (list_of es) w → child j (node kind (entries (with_child kind j (list_of es) w))) ≡ Some w
there kind j es w c = ap (child_at kind j) (list_of_entries _) ∙ c.here

down_kept : (kind : Kind) (j : Key) (es : Entries) (v w : Plain) (path : List Key) (r : Reach) → child_at kind j (list_of es) ≡ Some v → Kept r (at path v) (at path w)
    → Kept r (at (j ∷ path) (node kind es)) (at (j ∷ path) (node kind (entries (with_child kind j (list_of es) w))))
down_kept kind j es v w path r was kept =
    let before : at (j ∷ path) (node kind es) ≡ at path v = ap (then_at (at path)) was in
    let after : at (j ∷ path) (node kind (entries (with_child kind j (list_of es) w))) ≡ at path w = ap (then_at (at path)) (there kind j es w (child_set kind j (list_of es) v w was)) in
    subst (λ (o : Option Plain). Kept r o (at (j ∷ path) (node kind (entries (with_child kind j (list_of es) w))))) (sym before) (subst (Kept r (at path v)) (sym after) kept)

-- ---- a patch
abbrev Law : Op → Option Plain → List Key → List Key → Type 0
Law op v path q = (x y : Plain) → NotAbove (reach path q) → in_place op v q x ≡ true → patched op v q x ≡ Ok y → Kept (reach path q) (at path x) (at path y)

last_here : (op : Op) (v : Option Plain) (j : Key) → Law op v [] (j ∷ [])
last_here op v j (prim k) y n p h = absurd (cc)
last_here op v j (node kind es) y n p h =
    let m = made kind _ y h in
    subst (λ (z : Plain). Kept (inside j) (Some (node kind es)) (Some z)) (sym m.made) (stays_kept kind j es m.table (edited_stays kind op j v es m.table p m.is))

inner_here : (op : Op) (v : Option Plain) (j l : Key) (q : List Key) → Law op v [] (j ∷ l ∷ q)
inner_here op v j l q (prim k) y n p h = absurd (cc)
inner_here op v j l q (node kind es) y n p h =
    let m = inner kind j (list_of es) (patched op v (l ∷ q)) y h in
    subst (λ (z : Plain). Kept (inside j) (Some (node kind es)) (Some z)) (sym m.made) (stays_kept kind j es _ (child_set kind j (list_of es) m.old m.new m.was).stays)

last_aside : (op : Op) (v : Option Plain) (i j : Key) (path : List Key) (r : Reach) (x y : Plain) → i ≢ j → in_place op v (j ∷ []) x ≡ true → patched op v (j ∷ []) x ≡ Ok y → Kept r (at (i ∷ path) x) (at (i ∷ path) y)
last_aside op v i j path r (prim k) y d p h = absurd (cc)
last_aside op v i j path r (node kind es) y d p h =
    let m = made kind _ y h in
    subst (λ (z : Plain). Kept r (at (i ∷ path) (node kind es)) (at (i ∷ path) z)) (sym m.made) (aside_kept kind j i es m.table path r (edited_stays kind op j v es m.table p m.is) d)

inner_aside : (op : Op) (v : Option Plain) (i j l : Key) (q path : List Key) (r : Reach) (x y : Plain) → i ≢ j → patched op v (j ∷ l ∷ q) x ≡ Ok y → Kept r (at (i ∷ path) x) (at (i ∷ path) y)
inner_aside op v i j l q path r (prim k) y d h = absurd (cc)
inner_aside op v i j l q path r (node kind es) y d h =
    let m = inner kind j (list_of es) (patched op v (l ∷ q)) y h in
    subst (λ (z : Plain). Kept r (at (i ∷ path) (node kind es)) (at (i ∷ path) z)) (sym m.made) (aside_kept kind j i es _ path r (child_set kind j (list_of es) m.old m.new m.was).stays d)

inner_down : (op : Op) (v : Option Plain) (j l : Key) (q path : List Key) → Law op v path (l ∷ q) → (x y : Plain) → NotAbove (reach path (l ∷ q)) → in_place op v (j ∷ l ∷ q) x ≡ true → patched op v (j ∷ l ∷ q) x ≡ Ok y
    → Kept (reach path (l ∷ q)) (at (j ∷ path) x) (at (j ∷ path) y)
inner_down op v j l q path law (prim k) y n p h = absurd (cc)
inner_down op v j l q path law (node kind es) y n p h =
    let m = inner kind j (list_of es) (patched op v (l ∷ q)) y h in
    let placed : in_place op v (l ∷ q) m.old ≡ true = subst (λ (o : Option Plain). if_some (in_place op v (l ∷ q)) o ≡ true) m.was p in
    subst (λ (z : Plain). Kept (reach path (l ∷ q)) (at (j ∷ path) (node kind es)) (at (j ∷ path) z)) (sym m.made)
    (down_kept kind j es m.old m.new path (reach path (l ∷ q)) m.was (law m.old m.new n placed m.makes))

-- by whether the first steps are the same
last_next : (op : Op) (v : Option Plain) (i j : Key) (path : List Key) (b : Bool) → eq_by_cmp key_cmp i j ≡ b → (x y : Plain) → NotAbove (cond b (reach path []) aside) → in_place op v (j ∷ []) x ≡ true → patched op v (j ∷ []) x ≡ Ok y
    → Kept (cond b (reach path []) aside) (at (i ∷ path) x) (at (i ∷ path) y)
last_next op v i j path true e x y n p h = absurd n
last_next op v i j path false e x y n p h = last_aside op v i j path aside x y (other_key i j e) p h

inner_next : (op : Op) (v : Option Plain) (i j l : Key) (q path : List Key) (b : Bool) → eq_by_cmp key_cmp i j ≡ b → Law op v path (l ∷ q) → (x y : Plain) → NotAbove (cond b (reach path (l ∷ q)) aside) → in_place op v (j ∷ l ∷ q) x ≡ true → patched op v (j ∷ l ∷ q) x ≡ Ok y
    → Kept (cond b (reach path (l ∷ q)) aside) (at (i ∷ path) x) (at (i ∷ path) y)
inner_next op v i j l q path true e law x y n p h =
    subst (λ (k : Key). Kept (reach path (l ∷ q)) (at (k ∷ path) x) (at (k ∷ path) y)) (sym (same_key i j e)) (inner_down op v j l q path law x y n p h)
inner_next op v i j l q path false e law x y n p h = inner_aside op v i j l q path aside x y (other_key i j e) h

patch_keeps : (op : Op) (v : Option Plain) (path q : List Key) → Law op v path q
patch_keeps op v path [] x y n p h = absurd n
patch_keeps op v [] (j ∷ []) x y n p h = last_here op v j x y n p h
patch_keeps op v [] (j ∷ l ∷ q) x y n p h = inner_here op v j l q x y n p h
patch_keeps op v (i ∷ path) (j ∷ []) x y n p h = last_next op v i j path (eq_by_cmp key_cmp i j) refl x y n p h
patch_keeps op v (i ∷ path) (j ∷ l ∷ q) x y n p h = inner_next op v i j l q path (eq_by_cmp key_cmp i j) refl (patch_keeps op v path (l ∷ q)) x y n p h

pub kept : (op : Op) (v : Option Plain) (path q : List Key) (x y : Plain) → NotAbove (reach path q) → in_place op v q x ≡ true → patched op v q x ≡ Ok y → Kept (reach path q) (at path x) (at path y)
kept op v path q = patch_keeps op v path q
