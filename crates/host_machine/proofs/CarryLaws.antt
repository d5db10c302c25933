-- Each step of a sound machine leaves a sound one, and its patches carry there and back.
use Rattle.std.proofs.Common.{◌≡◌, ◌≢◌, ℕ, ◌+◌, List, [], ◌∷◌, map, ap, refl, sym, ◌∙◌, subst, Bool, true, false, cond, Option, Some, None, Result, Ok, Err, Less, Equal, Greater, Ordering}
use Rattle.std.specs.Prelude.{IsTrue, ◌&&◌, ◌||◌, not}
use Rattle.std.specs.FinMap.Entries.{find, put, where_key, is_sorted}
use Rattle.std.specs.Ordering.{eq_by_cmp}
use Rattle.std.proofs.lemmas.Bool.{and_from}
use Rattle.value_model.specs.declared.key.Key.{Key}
use Rattle.value_model.specs.declared.key.Key.TheVariants as key
use Rattle.value_model.specs.declared.kind.Kind.{Kind}
use Rattle.value_model.specs.declared.kind.Kind.TheVariants as kind
use Rattle.value_model.specs.declared.op.Op.{Op}
use Rattle.value_model.specs.declared.op.Op.TheVariants as op
use Rattle.value_model.specs.declared.patch_why.PatchWhy.{PatchWhy}
use Rattle.value_model.specs.declared.patch_why.PatchWhy.TheVariants as why
use Rattle.value_model.specs.Limits.{is_long_key, is_reserved_text}
use Rattle.value_model.specs.Order.{key_cmp}
use Rattle.value_model.specs.Places.{without_key, at}
use Rattle.value_model.specs.Plain.{Plain, Table, Entries, prim, node, none, entries, list_of, weight}
use Rattle.value_model.specs.Search.{left_true, right_true}
use Rattle.value_model.proofs.Steps.{list_of_entries, entries-list_of}
use Rattle.value_model.proofs.Tables.{put_ascends, without_ascends}
use Rattle.values.specs.declared.patch.Patch.{Patch}
use Rattle.numbered.specs.Tree.{Tree, plain}
use Rattle.numbered.proofs.Laws.{plain_numbered}
use Rattle.plain_values.specs.declared.cause.Cause.TheVariants as cause
use Rattle.plain_values.specs.declared.command.Command.{Command}
use Rattle.plain_values.specs.declared.command.Command.TheVariants as command
use Rattle.plain_values.specs.declared.reply.Reply.{Reply}
use Rattle.patch_meaning.specs.Applying.{Fault, applied, applied_from, fault_at, in_object, as_node, patched}
use Rattle.host_machine.specs.Carries.{IsSound, Carries, CarriesBy}
use Rattle.host_machine.specs.Differences.{differences}
use Rattle.host_machine.specs.Flat.{is_integer, is_text_key, is_field_key, is_flat_table, is_flat, is_flat_path, is_flat_value, is_flat_patch, are_flat, is_built}
use Rattle.host_machine.specs.Machine.{Machine, value, table_of, writes, refused, accepted, no_patches, between, with_state, is_full, is_heavy, changed, judged, apply_step, state_shown, node_shown, step}
use Rattle.host_machine.specs.Paths.{subtree_at}
use Rattle.host_machine.proofs.PatchLaws.{carries_table}
use Rattle.host_machine.proofs.StepLaws.{applied_flat}

abbrev state : Table → Plain
state es = node kind.Obj (entries es)

abbrev Sorted : Table → Type 0
Sorted es = IsTrue (is_sorted key_cmp es)

abbrev pub Flat : Table → Type 0
Flat es = IsTrue (is_flat_table es)

-- ---- edits keep a table flat
flat_head : (e : Key × Plain) (es : Table) → Flat (e ∷ es) → IsTrue (is_field_key e.0 && is_integer e.1)
flat_head e es h = left_true (is_field_key e.0 && is_integer e.1) (is_flat_table es) h

flat_tail : (e : Key × Plain) (es : Table) → Flat (e ∷ es) → Flat es
flat_tail e es h = right_true (is_field_key e.0 && is_integer e.1) (is_flat_table es) h

put_at : (k : Key) (w : Plain) (e : Key × Plain) (es : Table) (o : Ordering) → key_cmp k e.0 ≡ o → IsTrue (is_field_key k) → IsTrue (is_integer w) → Flat (e ∷ es) → Flat (put key_cmp k w es) → Flat (put key_cmp k w (e ∷ es))
put_at k w e es Less p f g h ih = rw p (and_from _ _ (and_from _ _ f g) h)
put_at k w e es Equal p f g h ih = rw p (and_from _ _ (and_from _ _ (left_true (is_field_key e.0) (is_integer e.1) (flat_head e es h)) g) (flat_tail e es h))
put_at k w e es Greater p f g h ih = rw p (and_from _ _ (flat_head e es h) ih)

pub flat_put : (k : Key) (w : Plain) (es : Table) → IsTrue (is_field_key k) → IsTrue (is_integer w) → Flat es → Flat (put key_cmp k w es)
flat_put k w [] f g h = and_from _ _ (and_from _ _ f g) refl
flat_put k w (e ∷ es) f g h = put_at k w e es (key_cmp k e.0) refl f g h (flat_put k w es f g (flat_tail e es h))

kept_at : (b : Bool) (e : Key × Plain) (es rest : Table) → Flat (e ∷ es) → Flat rest → Flat (cond b (e ∷ rest) rest)
kept_at true e es rest h ih = and_from _ _ (flat_head e es h) ih
kept_at false e es rest h ih = ih

pub flat_without : (k : Key) (es : Table) → Flat es → Flat (without_key k es)
flat_without k [] h = refl
flat_without k (e ∷ es) h = kept_at (not (eq_by_cmp key_cmp k e.0)) e es (without_key k es) h (flat_without k es (flat_tail e es h))

-- ---- one flat patch
record IsGood (t : Table) : Type 0 where
  sorted : Sorted t
  flat : Flat t

pub text_field : (s : List ℕ) → is_reserved_text s ≡ false → is_long_key (key.Text s) ≡ false → IsTrue (is_field_key (key.Text s))
text_field s r l = rw (r, l) refl

set_good : (s : List ℕ) (w : Plain) (es t : Table) (a b : Bool) → is_reserved_text s ≡ a → is_long_key (key.Text s) ≡ b → IsTrue (is_integer w) → IsGood es
    → cond a (Err why.ReservedKey) (cond b (Err why.KeyTooLong) (Ok (put key_cmp (key.Text s) w es))) ≡ Ok t → IsGood t
set_good s w es t true b p q i g e = absurd (cc)
set_good s w es t false true p q i g e = absurd (cc)
set_good s w es t false false p q i g e =
    let same : put key_cmp (key.Text s) w es ≡ t = cc in
    subst IsGood same (record { sorted = put_ascends (key.Text s) w es g.sorted; flat = flat_put (key.Text s) w es (text_field s p q) i g.flat })

unset_good : (s : List ℕ) (es t : Table) (a : Bool) → IsGood es → cond a (Err why.ReservedKey) (Ok (without_key (key.Text s) es)) ≡ Ok t → IsGood t
unset_good s es t true g e = absurd (cc)
unset_good s es t false g e =
    let same : without_key (key.Text s) es ≡ t = cc in
    subst IsGood same (record { sorted = without_ascends (key.Text s) es g.sorted; flat = flat_without (key.Text s) es g.flat })

object_good : (o : Op) (s : List ℕ) (v : Option Plain) (es t : Table) → IsTrue (is_flat_value o v) → IsGood es → in_object o (key.Text s) v es ≡ Ok t → IsGood t
object_good op.Remove s None es t f g e = unset_good s es t (is_reserved_text s) g e
object_good op.Remove s (Some w) es t f g e = absurd (cc)
object_good op.Add s None es t f g e = absurd (cc)
object_good op.Add s (Some w) es t f g e = set_good s w es t (is_reserved_text s) (is_long_key (key.Text s)) refl refl f g e
object_good op.Replace s None es t f g e = absurd (cc)
object_good op.Replace s (Some w) es t f g e = set_good s w es t (is_reserved_text s) (is_long_key (key.Text s)) refl refl f g e

node_sound : (r : Result Table PatchWhy) (y : Plain) → as_node kind.Obj r ≡ Ok y → ((t : Table) → r ≡ Ok t → IsGood t) → IsSound y
node_sound (Ok t) y e h =
    let same : state t ≡ y = cc in
    let good = h t refl in
    subst IsSound same (record { flat = rw (list_of_entries t) good.flat; ascending = rw (list_of_entries t) good.sorted })
node_sound (Err w) y e h = absurd (cc)

patch_sound : (o : Op) (v : Option Plain) (path : List Key) (x y : Plain) → IsTrue (is_flat_path path) → IsTrue (is_flat_value o v) → IsSound x → patched o v path x ≡ Ok y → IsSound y
patch_sound o v (key.Text s ∷ []) (node kind.Obj es) y p f h e = node_sound (in_object o (key.Text s) v (list_of es)) y e (λ t q. object_good o s v (list_of es) t f (record { sorted = h.ascending; flat = h.flat }) q)
patch_sound o v path (prim k) y p f h e = let bad : true ≡ false = sym h.flat in absurd (cc)
patch_sound o v path (node kind.List es) y p f h e = let bad : true ≡ false = sym h.flat in absurd (cc)
patch_sound o v path (node kind.Map es) y p f h e = let bad : true ≡ false = sym h.flat in absurd (cc)
patch_sound o v path (node kind.Set es) y p f h e = let bad : true ≡ false = sym h.flat in absurd (cc)
patch_sound o v _ (node kind.Obj es) y p f h e = absurd (cc)

-- ---- a list of flat patches
fault_sound : (i : ℕ) (r : Result Plain PatchWhy) (f : Plain → Result Plain Fault) (y : Plain) → fault_at i r f ≡ Ok y → ((x : Plain) → r ≡ Ok x → f x ≡ Ok y → IsSound y) → IsSound y
fault_sound i (Ok x) f y e h = h x refl e
fault_sound i (Err w) f y e h = absurd (cc)

pub list_sound : (i : ℕ) (ps : List Patch) (x y : Plain) → IsTrue (are_flat ps) → IsSound x → applied_from i ps x ≡ Ok y → IsSound y
list_sound i [] x y f h e = let same : x ≡ y = cc in subst IsSound same h
list_sound i (p ∷ ps) x y f h e =
    let first = left_true (is_flat_patch p) (are_flat ps) f in
    fault_sound i (patched p.op p.value p.path x) (applied_from (i + 1) ps) y e
    (λ z q r. list_sound (i + 1) ps z y (right_true (is_flat_patch p) (are_flat ps) f)
    (patch_sound p.op p.value p.path x z (left_true (is_flat_path p.path) (is_flat_value p.op p.value) first) (right_true (is_flat_path p.path) (is_flat_value p.op p.value) first) h q) r)

-- ---- the machine
same_state : (x : Plain) → IsSound x → state (table_of x) ≡ x
same_state (node kind.Obj es) h = ap (node kind.Obj) (entries-list_of es)
same_state (prim k) h = let bad : true ≡ false = sym h.flat in absurd (cc)
same_state (node kind.List es) h = let bad : true ≡ false = sym h.flat in absurd (cc)
same_state (node kind.Map es) h = let bad : true ≡ false = sym h.flat in absurd (cc)
same_state (node kind.Set es) h = let bad : true ≡ false = sym h.flat in absurd (cc)

flat_of : (x : Plain) → IsSound x → Flat (table_of x)
flat_of (node kind.Obj es) h = h.flat
flat_of (prim k) h = refl
flat_of (node kind.List es) h = let bad : true ≡ false = sym h.flat in absurd (cc)
flat_of (node kind.Map es) h = let bad : true ≡ false = sym h.flat in absurd (cc)
flat_of (node kind.Set es) h = let bad : true ≡ false = sym h.flat in absurd (cc)

there : (old new : Plain) → IsSound old → IsSound new → applied (differences (table_of old) (table_of new)) old ≡ Ok new
there old new s t =
    ap (applied (differences (table_of old) (table_of new))) (sym (same_state old s))
    ∙ carries_table (table_of old) (table_of new) s.ascending t.ascending (flat_of old s) (flat_of new t)
    ∙ ap (λ (x : Plain). Ok x) (same_state new t)

-- what a step leaves: a sound state, and patches that carry
pub record IsCarried (m : Machine) (a : Machine × Reply) : Type 0 where
  pub carries : Carries m a
  pub sound : IsSound (value a.0)

changed_at : (m : Machine) (new : Plain) (a b c : Bool) → IsSound (value m) → IsSound new
    → IsCarried m (cond a (refused m None cause.TooBig) (cond b (refused m None cause.Full) (cond c (refused m None cause.PatchesTooBig) (accepted (with_state m new) (between (value m) new)))))
changed_at m new true b c s t = record { carries = refl; sound = s }
changed_at m new false true c s t = record { carries = refl; sound = s }
changed_at m new false false true s t = record { carries = refl; sound = s }
changed_at m new false false false s t =
    let same = plain_numbered m.next new in
    let onward = there (value m) new s t ∙ ap (λ (x : Plain). Ok x) (sym same) in
    let back = ap (applied (between (value m) new).inverse) same ∙ there new (value m) t s in
    record { carries = (onward, back); sound = subst IsSound (sym same) t }

judged_at : (m : Machine) (w : Bool) (r : Result Plain Fault) → IsSound (value m) → ((new : Plain) → r ≡ Ok new → IsSound new) → IsCarried m (judged m w r)
judged_at m w (Err f) s h = record { carries = refl; sound = s }
judged_at m true (Ok new) s h = changed_at m new _ _ _ s (h new refl)
judged_at m false (Ok new) s h = record { carries = (refl, refl); sound = s }

apply_at : (m : Machine) (ps : List Patch) → IsTrue (are_flat ps) → IsSound (value m) → IsCarried m (apply_step m ps)
unfolding apply_step
apply_at m ps f s = judged_at m (writes ps (value m)) (applied ps (value m)) s (λ new e. list_sound 0 ps (value m) new f s (sym (applied_flat ps (value m) f) ∙ e))

state_at : (m : Machine) (o : Option Plain) → IsSound (value m) → IsCarried m (state_shown m o)
state_at m None s = record { carries = refl; sound = s }
state_at m (Some v) s = record { carries = refl; sound = s }

node_at : (m : Machine) (o : Option Tree) → IsSound (value m) → IsCarried m (node_shown m o)
node_at m None s = record { carries = refl; sound = s }
node_at m (Some t) s = record { carries = refl; sound = s }

-- each command of the built form
pub step_carried : (m : Machine) (c : Command) → IsTrue (is_built c) → IsSound (value m) → IsCarried m (step m c)
step_carried m (command.Apply ps) f s = apply_at m ps f s
step_carried m (command.State path) f s = state_at m (at path (value m)) s
step_carried m (command.Node path) f s = node_at m (subtree_at path m.state) s
step_carried m command.Stat f s = record { carries = refl; sound = s }
step_carried m _ f s = absurd (cc)
