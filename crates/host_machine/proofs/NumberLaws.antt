-- A flat state is one container: it takes one number, and its own weight is its weight.
use Rattle.std.proofs.Common.{◌≡◌, ℕ, ◌+◌, List, [], ◌∷◌, ap, refl, sym, ◌∙◌, subst, arith, Bool, true, false, cond}
use Rattle.std.specs.Prelude.{IsTrue, ◌&&◌, Option, Some, None}
use Rattle.std.specs.FinMap.Entries.{find}
use Rattle.std.specs.Ordering.{eq_by_cmp}
use Rattle.value_model.specs.declared.key.Key.{Key}
use Rattle.value_model.specs.declared.key.Key.TheVariants as key
use Rattle.value_model.specs.declared.kind.Kind.TheVariants as kind
use Rattle.value_model.specs.Order.{key_cmp}
use Rattle.value_model.specs.Plain as plain_value
use Rattle.value_model.specs.Plain.{Plain, Table, entries, weight}
use Rattle.value_model.specs.Search.{left_true, right_true}
use Rattle.numbered.specs.Tree.{Tree, prim, node, number}
use Rattle.numbered.specs.Loading.{places, places_in, numbered, numbered_in, loaded}
use Rattle.numbered.proofs.Laws.{used_loaded}
use Rattle.numbered.specs.Store.{used as used_by}
use Rattle.host_machine.specs.Flat.{is_integer, is_field_key, is_flat_table}
use Rattle.host_machine.specs.Machine.{Machine, opened, number_if}
use Rattle.host_machine.specs.Paths.{branch_list, then_subtree, subtree_at}

abbrev Flat : Table → Type 0
Flat es = IsTrue (is_flat_table es)

abbrev state : Table → Plain
state es = plain_value.node kind.Obj (entries es)

no_place : (v : Plain) → IsTrue (is_integer v) → places v ≡ 0
no_place (plain_value.prim k) h = refl
no_place (plain_value.node kind es) h = absurd (cc)

flat_head : (e : Key × Plain) (es : Table) → Flat (e ∷ es) → IsTrue (is_integer e.1)
flat_head e es h = right_true (is_field_key e.0) (is_integer e.1) (left_true (is_field_key e.0 && is_integer e.1) (is_flat_table es) h)

flat_tail : (e : Key × Plain) (es : Table) → Flat (e ∷ es) → Flat es
flat_tail e es h = right_true (is_field_key e.0 && is_integer e.1) (is_flat_table es) h

pub flat_places : (es : Table) → Flat es → places_in (entries es) ≡ 0
flat_places [] h = refl
flat_places (e ∷ es) h = omega (arith, no_place e.1 (flat_head e es h), flat_places es (flat_tail e es h))

pub flat_number : (next : ℕ) (es : Table) → Flat es → number (numbered next (state es)) ≡ next
flat_number next es h = omega (arith, flat_places es h)

pub flat_used : (es : Table) → Flat es → used_by (loaded [] (state es)) ≡ weight (state es)
flat_used es h = omega (arith, used_loaded 1 kind.Obj (entries es), flat_places es h)

pub flat_opened : (es : Table) → Flat es → opened (state es) ≡ record { state = numbered 1 (state es); next = 2; used = weight (state es); past = 0; seq = 0 }
flat_opened es h =
    let next : places (state es) + 1 ≡ 2 = omega (arith, flat_places es h) in
    λ i. record { state = numbered 1 (state es); next = next i; used = flat_used es h i; past = 0; seq = 0 }

-- ---- what stands below its root has no number
integer_leaf : (next : ℕ) (v : Plain) → IsTrue (is_integer v) → number_if (numbered next v) ≡ None
integer_leaf next (plain_value.prim k) h = refl
integer_leaf next (plain_value.node kind es) h = absurd (cc)

below_leaf : (path : List Key) (u t : Tree) → number_if u ≡ None → subtree_at path u ≡ Some t → number_if t ≡ None
below_leaf [] u t n e = let same : u ≡ t = cc in subst (λ (w : Tree). number_if w ≡ None) same n
below_leaf (k ∷ path) (prim j) t n e = absurd (cc)
below_leaf (k ∷ path) (node id kind es) t n e = absurd (cc)

found_at : (b : Bool) (u v : Tree) (o : Option Tree) → number_if v ≡ None → (o ≡ Some u → number_if u ≡ None) → cond b (Some v) o ≡ Some u → number_if u ≡ None
found_at true u v o n h p = let same : v ≡ u = cc in subst (λ (w : Tree). number_if w ≡ None) same n
found_at false u v o n h p = h p

found_leaf : (k : Key) (next : ℕ) (es : Table) (u : Tree) → Flat es → find key_cmp k (branch_list (numbered_in next (entries es))) ≡ Some u → number_if u ≡ None
found_leaf k next [] u h e = absurd (cc)
found_leaf k next (d ∷ es) u h e =
    found_at (eq_by_cmp key_cmp k d.0) u (numbered next d.1) (find key_cmp k (branch_list (numbered_in (next + places d.1) (entries es)))) (integer_leaf next d.1 (flat_head d es h))
    (λ p. found_leaf k (next + places d.1) es u (flat_tail d es h) p) e

along_leaf : (path : List Key) (o : Option Tree) (t : Tree) → ((u : Tree) → o ≡ Some u → number_if u ≡ None) → then_subtree (subtree_at path) o ≡ Some t → number_if t ≡ None
along_leaf path None t h e = absurd (cc)
along_leaf path (Some u) t h e = below_leaf path u t (h u refl) e

pub leaf_below : (k : Key) (path : List Key) (next : ℕ) (es : Table) (t : Tree) → Flat es → subtree_at (k ∷ path) (numbered next (state es)) ≡ Some t → number_if t ≡ None
leaf_below k path next es t h e = along_leaf path (find key_cmp k (branch_list (numbered_in next (entries es)))) t (λ u p. found_leaf k next es u h p) e
