-- The machine of a host that keeps a flat state in a store.
use Rattle.std.proofs.Common.{◌≡◌, ℕ, ◌+◌, ◌≤◌, ◌<◌, ◌^◌, List, [], ◌∷◌, ◌++◌, length, min, ap, refl, sym, ◌∙◌, arith, Bool, true, false, length-append, ne_eqb}
use Rattle.std.specs.Prelude.{IsTrue, ◌||◌, ◌==◌, nat_lt, Option, Some, None, option_map, Ok, Err}
use Rattle.value_model.specs.declared.kind.Kind.TheVariants as kind
use Rattle.value_model.specs.Limits.{state_limit}
use Rattle.value_model.specs.Plain as plain_value
use Rattle.value_model.specs.Plain.{Plain, Table as TableOf, Entries, entries, list_of, weight}
use Rattle.value_model.proofs.Steps.{list_of_entries, entries-list_of}
use Rattle.numbered.specs.Laws.{well_at}
use Rattle.numbered.proofs.Laws.{plain_numbered, used_append, load_full_together, small_state}
use Rattle.numbered.specs.Loading.{places, numbered, numbered_in, post_order, post_orders, additions, loaded, load_full}
use Rattle.numbered.specs.Store.{IsStore, tree_at, used as used_by, is_full}
use Rattle.numbered.specs.Tree.{Tree, plain, number}
use Rattle.plain_values.specs.declared.command.Word.TheVariants as word
use Rattle.plain_values.specs.declared.cause.Cause.TheVariants as cause
use Rattle.plain_values.specs.declared.reply.Reply.{Reply}
use Rattle.plain_values.specs.declared.reply.Reply.TheVariants as reply
use Rattle.values.specs.declared.patch.Pair.{Pair}
use Rattle.values.specs.declared.patch.Patch.{Patch}
use Rattle.patch_meaning.specs.Applying.{applied_from}
use Rattle.host_machine.specs.Carries.{IsSound}
use Rattle.host_machine.specs.Flat.{is_integer, is_flat, is_flat_table, are_flat}
use Rattle.host_machine.specs.Machine.{Machine, value, table_of, opened, between, with_state, changed, refused, judged, writes, apply_step, no_path, node_shown, number_if}
use Rattle.host_machine.specs.Machine.{is_full as is_full_of, is_heavy as is_heavy_of}
use Rattle.host_machine.proofs.NumberLaws.{flat_places, flat_number, flat_used}
use Rattle.host_machine.proofs.StepLaws.{step_judged, step_refused}
use Rattle.run_heap.specs.declared.content.Content.{Content}
use Rattle.run_heap.specs.Operations.{is_marked}
use Rattle.host_engine.specs.Applied.{IsAppliedChange, IsUnchanged, IsRefused, Applies, edit_stop, change_stop}
use Rattle.host_engine.specs.Drafts.{IsFlatObject, entries_in, state_in}
use Rattle.host_engine.specs.Edits.{EditsAll}
use Rattle.host_engine.specs.Frozen.{frozen, between_tables, IsKeptChange, IsBigChange, IsFullChange, IsHeavyChange, Changes}
use Rattle.host_engine.specs.Kept.{IsFlatState, IsKept, machine_of, state_of, table_at}
use Rattle.host_engine.specs.declared.change.Change.{Change}
use Rattle.host_engine.specs.declared.change.ChangeStop.{ChangeStop}
use Rattle.host_engine.specs.declared.change.ChangeStop.TheVariants as change
use Rattle.host_engine.specs.declared.edits.EditStop.{EditStop}
use Rattle.host_engine.specs.declared.edits.EditStop.TheVariants as edit
use Rattle.host_engine.proofs.FieldLaws.{object_flat, table_sorted}
use Rattle.host_engine.proofs.FlatLaws.{Flat, integer_head, flat_tail, at_most, frozen_weight, last_state}

-- ---- the state and its patches
flat_value : (v : Plain) → IsTrue (is_flat v) → v ≡ state_of (table_of v)
flat_value (plain_value.prim k) h = absurd (cc)
flat_value (plain_value.node kind.Obj es) h = ap (plain_value.node kind.Obj) (sym (entries-list_of es))
flat_value (plain_value.node kind.List es) h = absurd (cc)
flat_value (plain_value.node kind.Map es) h = absurd (cc)
flat_value (plain_value.node kind.Set es) h = absurd (cc)

-- the plain value of a flat state
pub value_kept : (ts : List Tree) (root : ℕ) → IsFlatState ts root → plain (tree_at ts root) ≡ state_of (table_at ts root)
value_kept ts root h = flat_value (plain (tree_at ts root)) h.flat

pub between_kept : (ts : List Tree) (root : ℕ) (new : TableOf) → between (plain (tree_at ts root)) (state_of new) ≡ between_tables (table_at ts root) new
between_kept ts root new = rw (list_of_entries new) refl

-- a state that is kept is flat, and its names ascend
pub kept_sound : (ts : List Tree) (root mint past seq turns : ℕ) → IsKept ts root mint past seq turns → IsStore ts → IsSound (plain (tree_at ts root))
kept_sound ts root mint past seq turns k s = record { flat = k.state.flat; ascending = table_sorted (tree_at ts root) k.state.flat (well_at ts root s k.state.inside) }

-- ---- opening
no_posts : (next : ℕ) (v : Plain) → IsTrue (is_integer v) → post_order (numbered next v) ≡ []
no_posts next (plain_value.prim k) h = refl
no_posts next (plain_value.node kind es) h = absurd (cc)

flat_posts : (next : ℕ) (es : TableOf) → Flat es → post_orders (numbered_in next (entries es)) ≡ []
flat_posts next [] h = refl
flat_posts next (e ∷ es) h = rw (no_posts next e.1 (integer_head e es h)) (flat_posts (next + places e.1) es (flat_tail e es h))

flat_loaded : (es : TableOf) → Flat es → loaded [] (state_of es) ≡ numbered 1 (state_of es) ∷ []
flat_loaded es h = ap (λ (ts : List Tree). ts ++ numbered 1 (state_of es) ∷ []) (flat_posts 1 es h)

light : (n : ℕ) → n ≤ 2 ^ 20 → nat_lt (2 ^ 25) n ≡ false
light n h = grind (arith, h)

table_fits : (es : TableOf) → Flat es → state_limit (state_of es) ≡ None → load_full [] (state_of es) ≡ false
table_fits es h a =
    let places_one : 0 + places (state_of es) ≡ 1 = omega (arith, flat_places es h) in
    let used_is : 0 + used_by (additions [] (state_of es)) ≡ weight (state_of es) = ap (λ (n : ℕ). 0 + n) (flat_used es h) ∙ (let z : 0 + weight (state_of es) ≡ weight (state_of es) = omega arith in z) in
    load_full_together [] (state_of es) (omega arith) (omega arith) ∙ rw (places_one, used_is, light (weight (state_of es)) (small_state (state_of es) a).weight) refl

flat_table : (v : Plain) → IsTrue (is_flat v) → Flat (table_of v)
flat_table (plain_value.prim k) h = absurd (cc)
flat_table (plain_value.node kind.Obj es) h = h
flat_table (plain_value.node kind.List es) h = absurd (cc)
flat_table (plain_value.node kind.Map es) h = absurd (cc)
flat_table (plain_value.node kind.Set es) h = absurd (cc)

pub first_fits : (v : Plain) → IsTrue (is_flat v) → state_limit v ≡ None → load_full [] v ≡ false
first_fits (plain_value.prim k) h a = absurd (cc)
first_fits (plain_value.node kind.Obj es) h a =
    let same : state_of (list_of es) ≡ plain_value.node kind.Obj es = ap (plain_value.node kind.Obj) (entries-list_of es) in
    sym (ap (load_full []) same) ∙ table_fits (list_of es) h (ap state_limit same ∙ a)
first_fits (plain_value.node kind.List es) h a = absurd (cc)
first_fits (plain_value.node kind.Map es) h a = absurd (cc)
first_fits (plain_value.node kind.Set es) h a = absurd (cc)

pub first_number : (v : Plain) → IsTrue (is_flat v) → length (loaded [] v) ≡ 1
first_number (plain_value.prim k) h = absurd (cc)
first_number (plain_value.node kind.Obj es) h =
    let same : state_of (list_of es) ≡ plain_value.node kind.Obj es = ap (plain_value.node kind.Obj) (entries-list_of es) in
    sym (ap (λ (w : Plain). length (loaded [] w)) same) ∙ ap length (flat_loaded (list_of es) h)
first_number (plain_value.node kind.List es) h = absurd (cc)
first_number (plain_value.node kind.Map es) h = absurd (cc)
first_number (plain_value.node kind.Set es) h = absurd (cc)

pub opened_kept : (v : Plain) (ts : List Tree) (root : ℕ) → IsTrue (is_flat v) → root ≡ 1 → ts ≡ loaded [] v → IsKept ts root 0 0 0 0
opened_kept v ts root h r t =
    let same = flat_value v h in
    let flat : Flat (table_of v) = flat_table v h in
    let all : ts ≡ numbered 1 (state_of (table_of v)) ∷ [] = t ∙ ap (loaded []) same ∙ flat_loaded (table_of v) flat in
    let one : length ts ≡ 1 = ap length all in
    let tree : tree_at ts root ≡ numbered 1 (state_of (table_of v)) = λ i. tree_at (all i) (r i) in
    record {
      state = record {
        inside = (omega (arith, r), omega (arith, r, one));
        named = ap number tree ∙ flat_number 1 (table_of v) flat ∙ sym r;
        flat = ap is_flat (ap plain tree ∙ plain_numbered 1 (state_of (table_of v)) ∙ sym same) ∙ h;
      };
      mint_in = omega arith;
      past_in = omega arith;
      seq_in = omega arith;
      turns_in = omega arith;
    }

pub opened_machine : (v : Plain) (ts : List Tree) (root : ℕ) → IsTrue (is_flat v) → root ≡ 1 → ts ≡ loaded [] v → machine_of ts root 0 0 ≡ opened v
opened_machine v ts root h r t =
    let same = flat_value v h in
    let flat : Flat (table_of v) = flat_table v h in
    let all : ts ≡ numbered 1 (state_of (table_of v)) ∷ [] = t ∙ ap (loaded []) same ∙ flat_loaded (table_of v) flat in
    let tree : tree_at ts root ≡ numbered 1 v = (λ i. tree_at (all i) (r i)) ∙ ap (numbered 1) (sym same) in
    let next : length ts + 1 ≡ places v + 1 = omega (arith, ap length all, ap places same, flat_places (table_of v) flat) in
    λ i. record { state = tree i; next = next i; used = used_by (t i); past = 0; seq = 0 }

-- ---- a change
last_number : (n : ℕ) → n < 2 ^ 21 → nat_lt 2097150 n ≡ true → n ≡ 2097151
last_number n h e = grind (arith, h, e)

number_full : (n : ℕ) (b : Bool) → n < 2 ^ 21 → nat_lt 2097150 n ≡ b → ((n + 1) == 2 ^ 21) ≡ b
number_full n true h e = rw (last_number n h e) refl
number_full n false h e = ne_eqb (n + 1) (2 ^ 21) (λ p. let q : nat_lt 2097150 n ≡ false = e in grind (arith, p, q))

pub full_kept : (ts : List Tree) (root past seq : ℕ) (es : TableOf) → Flat es → length ts < 2 ^ 21 → is_full_of (machine_of ts root past seq) (weight (state_of es)) ≡ is_full ts (frozen ts es)
full_kept ts root past seq es h few =
    let a = number_full (length ts) (nat_lt 2097150 (length ts)) few refl in
    let b = ap (λ (n : ℕ). nat_lt (2 ^ 25) (used_by ts + n)) (sym (frozen_weight ts es h)) in
    λ i. a i || b i

grown : (ts us : List Tree) (t : Tree) → us ≡ ts ++ t ∷ [] → length us ≡ length ts + 1
grown ts us t e = ap length e ∙ length-append ts (t ∷ [])

new_state : (ts us : List Tree) (es new : TableOf) (c : Change) → IsKeptChange ts us es new c → tree_at us c.root ≡ frozen ts new
new_state ts us es new c h =
    let id : c.root ≡ length ts + 1 = h.number ∙ grown ts us (frozen ts new) h.added in
    (λ i. tree_at (h.added i) (id i)) ∙ last_state ts (frozen ts new)

changed_state : (ts us : List Tree) (es new : TableOf) (c : Change) → IsKeptChange ts us es new c → Flat new → IsFlatState us c.root
changed_state ts us es new c h f =
    let long = grown ts us (frozen ts new) h.added in
    let id : c.root ≡ length ts + 1 = h.number ∙ long in
    let tree = new_state ts us es new c h in
    record {
      inside = (omega (arith, id), omega (arith, id, long));
      named = ap number tree ∙ flat_number (length ts + 1) new f ∙ sym id;
      flat = ap is_flat (ap plain tree ∙ plain_numbered (length ts + 1) (state_of new)) ∙ ap is_flat_table (list_of_entries new) ∙ f;
    }

changed_machine : (ts us : List Tree) (root past seq : ℕ) (es new : TableOf) (c : Change) → IsKeptChange ts us es new c → Flat new → machine_of us c.root (min (past + 1) 100) (seq + 1) ≡ with_state (machine_of ts root past seq) (state_of new)
changed_machine ts us root past seq es new c h f =
    let next : length us + 1 ≡ length ts + 1 + 1 = ap (λ (n : ℕ). n + 1) (grown ts us (frozen ts new) h.added) in
    let room : used_by us ≡ used_by ts + weight (state_of new) =
    ap used_by h.added ∙ used_append ts (frozen ts new ∷ []) ∙ (let o = frozen_weight ts new f in omega (arith, o)) in
    λ i. record { state = new_state ts us es new c h i; next = next i; used = room i; past = min (past + 1) 100; seq = seq + 1 }

-- ---- the reply to a change, by the limit that it is past
change_accepted : (m m' : Machine) (pair : Pair) (new : Plain) → nat_lt (2 ^ 20) (weight new) ≡ false → is_full_of m (weight new) ≡ false → is_heavy_of (between (value m) new) ≡ false → pair ≡ between (value m) new
    → m' ≡ with_state m new → (let a : Machine × Reply = (m', reply.Changed word.Apply pair (number m'.state) m'.seq None) in a ≡ changed m new)
change_accepted m m' pair new w f h p e = rw (w, f, h) (λ i. (e i, reply.Changed word.Apply (p i) (number (e i).state) (e i).seq None))

change_heavy : (m : Machine) (new : Plain) → nat_lt (2 ^ 20) (weight new) ≡ false → is_full_of m (weight new) ≡ false → is_heavy_of (between (value m) new) ≡ true → refused m None cause.PatchesTooBig ≡ changed m new
change_heavy m new w f h = rw (w, f, h) refl

change_full : (m : Machine) (new : Plain) → nat_lt (2 ^ 20) (weight new) ≡ false → is_full_of m (weight new) ≡ true → refused m None cause.Full ≡ changed m new
change_full m new w f = rw (w, f) refl

change_big : (m : Machine) (new : Plain) → nat_lt (2 ^ 20) (weight new) ≡ true → refused m None cause.TooBig ≡ changed m new
change_big m new w = rw w refl

-- ---- the steps of the command, where its patches leave these entries of the root draft
pub record IsApplied (ts : List Tree) (root : ℕ) (ps : List Patch) (new : TableOf) (wrote : Bool) : Type 0 where
  pub state : IsFlatState ts root
  pub flat : IsTrue (are_flat ps)
  pub entries : Flat new
  pub applied : applied_from 0 ps (state_of (table_at ts root)) ≡ Ok (state_of new)
  pub written : writes ps (state_of (table_at ts root)) ≡ wrote

judged_step : (ts : List Tree) (root past seq : ℕ) (ps : List Patch) (new : TableOf) (wrote : Bool) → IsApplied ts root ps new wrote → judged (machine_of ts root past seq) wrote (Ok (state_of new)) ≡ apply_step (machine_of ts root past seq) ps
judged_step ts root past seq ps new wrote a = step_judged (machine_of ts root past seq) ps (state_of (table_at ts root)) wrote (Ok (state_of new)) (value_kept ts root a.state) a.flat a.applied a.written

pub applied_change : (ts us : List Tree) (root : ℕ) (ps : List Patch) (new : TableOf) (c : Change) → length ts < 2 ^ 21 → IsApplied ts root ps new true → IsKeptChange ts us (table_at ts root) new c → IsAppliedChange ts us root ps c
applied_change ts us root ps new c few a k =
    let between = between_kept ts root new in
    record {
      state = changed_state ts us (table_at ts root) new c k a.entries;
      step = λ past seq.
          let m = machine_of ts root past seq in
          let small = at_most (weight (state_of new)) (2 ^ 20) k.small in
          let room = full_kept ts root past seq new a.entries few ∙ k.room in
          change_accepted m (machine_of us c.root (min (past + 1) 100) (seq + 1)) c.pair (state_of new) small room (ap is_heavy_of between ∙ k.light) (k.pair ∙ sym between)
          (changed_machine ts us root past seq (table_at ts root) new c k a.entries)
          ∙ judged_step ts root past seq ps new true a;
    }

pub applied_nothing : (ts us : List Tree) (root : ℕ) (ps : List Patch) (new : TableOf) → us ≡ ts → IsApplied ts root ps new false → IsUnchanged ts us root ps
applied_nothing ts us root ps new e a = record { stands = e; step = λ past seq. judged_step ts root past seq ps new false a }

applied_big : (ts us : List Tree) (root : ℕ) (ps : List Patch) (new : TableOf) → IsApplied ts root ps new true → IsBigChange ts us new → IsRefused ts us root ps None cause.TooBig
applied_big ts us root ps new a k = record {
  stands = k.stands;
  step = λ past seq. change_big (machine_of ts root past seq) (state_of new) k.big ∙ judged_step ts root past seq ps new true a;
}

applied_full : (ts us : List Tree) (root : ℕ) (ps : List Patch) (new : TableOf) → length ts < 2 ^ 21 → IsApplied ts root ps new true → IsFullChange ts us new → IsRefused ts us root ps None cause.Full
applied_full ts us root ps new few a k = record {
  stands = k.stands;
  step = λ past seq.
      let small = at_most (weight (state_of new)) (2 ^ 20) k.small in
      change_full (machine_of ts root past seq) (state_of new) small (full_kept ts root past seq new a.entries few ∙ k.full) ∙ judged_step ts root past seq ps new true a;
}

applied_heavy : (ts us : List Tree) (root : ℕ) (ps : List Patch) (new : TableOf) → length ts < 2 ^ 21 → IsApplied ts root ps new true → IsHeavyChange ts us (table_at ts root) new → IsRefused ts us root ps None cause.PatchesTooBig
applied_heavy ts us root ps new few a k = record {
  stands = k.stands;
  step = λ past seq.
      let small = at_most (weight (state_of new)) (2 ^ 20) k.small in
      let room = full_kept ts root past seq new a.entries few ∙ k.room in
      change_heavy (machine_of ts root past seq) (state_of new) small room (ap is_heavy_of (between_kept ts root new) ∙ k.heavy) ∙ judged_step ts root past seq ps new true a;
}

pub applied_stop : (ts us : List Tree) (root : ℕ) (ps : List Patch) (new : TableOf) (stop : ChangeStop) → length ts < 2 ^ 21 → IsApplied ts root ps new true → Changes ts us (table_at ts root) new (Err stop) → Applies ts us root ps (Err (change_stop stop))
applied_stop ts us root ps new change.TooBig few a k = applied_big ts us root ps new a k
applied_stop ts us root ps new change.Full few a k = applied_full ts us root ps new few a k
applied_stop ts us root ps new change.PatchesTooBig few a k = applied_heavy ts us root ps new few a k
applied_stop ts us root ps new change.Memory few a k = k

-- patches that can't be applied, of a root draft that is as it was opened
pub applied_fault : (ts : List Tree) (root : ℕ) (ps : List Patch) (old new : Option Content) (stop : EditStop) → IsFlatState ts root → IsTrue (are_flat ps) → entries_in old ≡ table_at ts root
    → EditsAll old new ps (Err stop) → Applies ts ts root ps (Err (edit_stop stop))
applied_fault ts root ps old new (edit.At at why) s f e a = record {
  stands = refl;
  step = λ past seq. step_refused (machine_of ts root past seq) ps (state_in old) (record { at = at; why = why }) (value_kept ts root s ∙ ap (λ (es : TableOf). state_of es) (sym e)) f a;
}
applied_fault ts root ps old new edit.Memory s f e a = refl

-- what edits of the root draft come to, by the entries and the mark that it has then
pub draft_applied : (ts : List Tree) (root : ℕ) (ps : List Patch) (old new : Option Content) (wrote : Bool) → IsFlatState ts root → IsTrue (are_flat ps) → entries_in old ≡ table_at ts root → is_marked old ≡ false → IsFlatObject new
    → EditsAll old new ps (Ok tt) → is_marked new ≡ wrote → IsApplied ts root ps (entries_in new) wrote
draft_applied ts root ps old new wrote s f e m flat edits w = record {
  state = s;
  flat = f;
  entries = object_flat new flat;
  applied = ap (λ (es : TableOf). applied_from 0 ps (state_of es)) (sym e) ∙ edits.0;
  written = ap (λ (es : TableOf). writes ps (state_of es)) (sym e) ∙ sym (edits.1 ∙ ap (λ (b : Bool). b || writes ps (state_in old)) m) ∙ w;
}

-- ---- the number at a path
pub shown_some : (m : Machine) (o : Option Tree) (n : Option ℕ) → Some n ≡ option_map number_if o → (let a : Machine × Reply = (m, reply.Node n) in a ≡ node_shown m o)
shown_some m None n e = absurd (cc)
shown_some m (Some t) n e = let same : n ≡ number_if t = cc in ap (λ (k : Option ℕ). let a : Machine × Reply = (m, reply.Node k) in a) same

pub shown_none : (m : Machine) (o : Option Tree) → None ≡ option_map number_if o → no_path m word.Node ≡ node_shown m o
shown_none m None e = refl
shown_none m (Some t) e = absurd (cc)
