-- Where the path of a draft leads, and that no two drafts have one path.
use Rattle.std.proofs.Common.{pos, ◌≡◌, ℕ, zero, suc, ◌+◌, ◌-◌, ◌<◌, ◌≤◌, List, [], ◌∷◌, refl, ap, sym, ◌∙◌, subst, arith, Bool, true, false, Ok, Less, Greater, Equal}
use Rattle.std.specs.Prelude.{◌==◌, nat_lt, Option, Some, None, IsSomeAnd, if◌then◌else◌, slice_get}
use Rattle.std.specs.FinMap.Entries.{is_sorted, below_all}
use Rattle.std.specs.Ordering.{is_eq, ordering_reverse}
use Rattle.value_model.specs.declared.key.Key.{Key}
use Rattle.value_model.specs.declared.key.Key.TheVariants as key
use Rattle.value_model.specs.declared.kind.Kind.{Kind}
use Rattle.value_model.specs.declared.kind.Kind.TheVariants as kind
use Rattle.value_model.specs.Order.{key_cmp, key_total, key_exact}
use Rattle.value_model.specs.Places.{ascends_at}
use Rattle.value_model.specs.Plain.{list_of}
use Rattle.value_model.specs.Search.{left_true, right_true, less_from_test}
use Rattle.value_model.specs.Well.{well, all_well, fits, all_fit}
use Rattle.numbered.specs.Laws.{well_at}
use Rattle.numbered.proofs.Laws.{before_more, before_le, place_in_child}
use Rattle.numbered.specs.Store.{tree_at}
use Rattle.numbered.specs.Tree.{Tree, Branches, prim, node, none, branch, plain, plains, number, containers, containers_in, place, children, before}
use Rattle.node_store.specs.Nodes.{keys_in}
use Rattle.std.proofs.lemmas.Cmp.{tied_itself}
use Rattle.run_heap.specs.declared.value.ObjRef.{ObjRef}
use Rattle.run_heap.specs.declared.value.Rv.{Rv}
use Rattle.run_heap.specs.declared.value.Rv.TheVariants.{Undefined, Prim, Obj, Frozen}
use Rattle.run_heap.specs.declared.content.Content.{Content}
use Rattle.run_heap.specs.Heap.{Heap, drafts, copied, is_draft}
use Rattle.run_heap.specs.Operations.{frozen_at, original, slot_of, source, source_in}
use Rattle.run_heap.specs.Places.{step, path_to, place_of}
use Rattle.run_heap.specs.Sound.{IsSound, IsOpenedAs}
use Rattle.run_heap.specs.Values.{same}
use Rattle.draft_core.proofs.Paths.{path_entry}
use Rattle.draft_laws.specs.Walks.{IsNode, IsPathOfDraft, under, child, then_subtree, subtree_at}

-- ---- the entry in which a place lies
record Entry (n : ℕ) (es : Branches) : Type 0 where
  index : ℕ
  name : Key
  tree : Tree
  named : slice_get (keys_in es) index ≡ Some name
  there : slice_get (children es) index ≡ Some tree
  low : before index es ≤ n
  high : n < before index es + containers tree

entry_of : (n : ℕ) (es : Branches) → n < containers_in es → Entry n es
entry_of n none l = absurd (omega arith)
entry_of n (branch k v es) l = elim (nat_lt n (containers v)) as (λ b. nat_lt n (containers v) ≡ b → Entry n (branch k v es)) [
  | true ↦ λ p. let less : n < containers v = grind (arith, p) in record { index = 0; name = k; tree = v; named = refl; there = refl; low = omega arith; high = omega (arith, less) }
  | false ↦ λ p.
      let more : containers v ≤ n = grind (arith, p) in
      let e = entry_of (n - containers v) es (omega (arith, l, more)) in
      let a = e.low in
      let b = e.high in
      record { index = suc e.index; name = e.name; tree = e.tree; named = e.named; there = e.there; low = omega (arith, a, more); high = omega (arith, b, more) }
] refl

-- ---- keys that ascend
key_eq : (k : Key) → is_eq (key_cmp k k) ≡ true
key_eq k = rw (tied_itself key_total k) refl

below_at : (x k : Key) (es : Branches) (i : ℕ) → below_all key_cmp x (list_of (plains es)) ≡ true → slice_get (keys_in es) i ≡ Some k → key_cmp x k ≡ Less
below_at x k none i h p = absurd (cc)
below_at x k (branch j v es) zero h p = let q : j ≡ k = cc in subst (λ (y : Key). key_cmp x y ≡ Less) q (less_from_test _ (left_true _ _ h))
below_at x k (branch j v es) (suc i) h p = below_at x k es i (right_true _ _ h) p

under_at : (k : Key) (v : Tree) (es : Branches) (i : ℕ) → is_sorted key_cmp (list_of (plains es)) ≡ true → slice_get (keys_in es) i ≡ Some k → slice_get (children es) i ≡ Some v → under k es ≡ Some v
under_at k v none i s p q = absurd (cc)
under_at k v (branch j w es) zero s p q =
    let a : j ≡ k = cc in
    let b : w ≡ v = cc in
    rw (a, key_eq k) (ap Some b)
under_at k v (branch j w es) (suc i) s p q =
    let less = below_at j k es i (left_true _ _ s) p in
    let more : key_cmp k j ≡ Greater = key_total.antisymm k j ∙ ap ordering_reverse less in
    rw more (under_at k v es i (right_true _ _ s) p q)

not_less : (k : Key) → key_cmp k k ≡ Less → ⊥
not_less k h = let e = key_eq k in let no : is_eq Less ≡ true = rw h at e in absurd (cc)

one_index : (k : Key) (es : Branches) (i j : ℕ) → is_sorted key_cmp (list_of (plains es)) ≡ true → slice_get (keys_in es) i ≡ Some k → slice_get (keys_in es) j ≡ Some k → i ≡ j
one_index k none i j s p q = absurd (cc)
one_index k (branch x v es) zero zero s p q = refl
one_index k (branch x v es) zero (suc j) s p q = let e : x ≡ k = cc in absurd (not_less k (subst (λ (y : Key). key_cmp y k ≡ Less) e (below_at x k es j (left_true _ _ s) q)))
one_index k (branch x v es) (suc i) zero s p q = let e : x ≡ k = cc in absurd (not_less k (subst (λ (y : Key). key_cmp y k ≡ Less) e (below_at x k es i (left_true _ _ s) p)))
one_index k (branch x v es) (suc i) (suc j) s p q = ap suc (one_index k es i j (right_true _ _ s) p q)

-- ---- what is in order
fits_at : (of : Kind) (es : Branches) (i : ℕ) (k : Key) (v : Tree) → all_fit of (plains es) ≡ true → slice_get (keys_in es) i ≡ Some k → slice_get (children es) i ≡ Some v → fits of k (plain v) ≡ true
fits_at of none i k v f p q = absurd (cc)
fits_at of (branch j w es) zero k v f p q =
    let a : j ≡ k = cc in
    let b : w ≡ v = cc in
    subst (λ (x : Key). fits of x (plain v) ≡ true) a (subst (λ (t : Tree). fits of j (plain t) ≡ true) b (left_true _ _ f))
fits_at of (branch j w es) (suc i) k v f p q = fits_at of es i k v (right_true _ _ f) p q

well_child : (es : Branches) (i : ℕ) (v : Tree) → all_well (plains es) ≡ true → slice_get (children es) i ≡ Some v → well (plain v) ≡ true
well_child none i v w q = absurd (cc)
well_child (branch j x es) zero v w q = let b : x ≡ v = cc in subst (λ (t : Tree). well (plain t) ≡ true) b (left_true _ _ w)
well_child (branch j x es) (suc i) v w q = well_child es i v (right_true _ _ w) q

-- a container's entries are in order
record InOrder (of : Kind) (es : Branches) : Type 0 where
  ascend : ascends_at of (list_of (plains es)) ≡ true
  fit : all_fit of (plains es) ≡ true
  deep : all_well (plains es) ≡ true

in_order : (id : ℕ) (of : Kind) (es : Branches) → well (plain (node id of es)) ≡ true → InOrder of es
in_order id of es w = record { ascend = left_true _ _ (left_true _ _ w); fit = right_true _ _ (left_true _ _ w); deep = right_true _ _ w }

-- ---- the child at a step
object_child : (es : Branches) (i : ℕ) (k : Key) (v : Tree) → is_sorted key_cmp (list_of (plains es)) ≡ true → fits kind.Obj k (plain v) ≡ true → slice_get (keys_in es) i ≡ Some k → slice_get (children es) i ≡ Some v → child kind.Obj k es ≡ Some v
object_child es i (key.Text s) v a f p q = under_at (key.Text s) v es i a p q
object_child es i key.Null v a f p q = absurd (cc)
object_child es i (key.Bool b) v a f p q = absurd (cc)
object_child es i (key.Int n) v a f p q = absurd (cc)

set_child : (k : Key) (v : Tree) → fits kind.Set k (plain v) ≡ true → 1 ≤ containers v → ⊥
set_child k (prim j) f c = absurd (omega arith)
set_child k (node id of es) f c = absurd (cc)

child_at : (of : Kind) (es : Branches) (i : ℕ) (k : Key) (v : Tree) → InOrder of es → 1 ≤ containers v → slice_get (keys_in es) i ≡ Some k → slice_get (children es) i ≡ Some v → child of (step of i k) es ≡ Some v
child_at kind.Obj es i k v o c p q = object_child es i k v o.ascend (fits_at kind.Obj es i k v o.fit p q) p q
child_at kind.List es i k v o c p q = q
child_at kind.Map es i k v o c p q = under_at k v es i o.ascend p q
child_at kind.Set es i k v o c p q = absurd (set_child k v (fits_at kind.Set es i k v o.fit p q) c)

same_index : (of : Kind) (es : Branches) (i j : ℕ) (k l : Key) → InOrder of es → slice_get (keys_in es) i ≡ Some k → slice_get (keys_in es) j ≡ Some l → step of i k ≡ step of j l → i ≡ j
same_index kind.List es i j k l o p q e = cc
same_index kind.Obj es i j k l o p q e = one_index k es i j o.ascend p (q ∙ ap Some (sym e))
same_index kind.Map es i j k l o p q e = one_index k es i j o.ascend p (q ∙ ap Some (sym e))
same_index kind.Set es i j k l o p q e = one_index k es i j o.ascend p (q ∙ ap Some (sym e))

-- ---- the path of a place under a container
path_under : (id n : ℕ) (of : Kind) (es : Branches) (e : Entry n es) → path_to (suc n) (node id of es) ≡ step of e.index e.name ∷ path_to (n - before e.index es) e.tree
path_under id n of es e =
    let z : 0 + e.index ≡ e.index = omega arith in
    path_entry of 0 e.index n es e.name e.tree e.named e.there e.low e.high
    ∙ ap (λ (i : ℕ). step of i e.name ∷ path_to (n - before e.index es) e.tree) z

leads : (fuel n : ℕ) (t : Tree) → n ≤ fuel → n < containers t → well (plain t) ≡ true → subtree_at (path_to n t) t ≡ place n t
leads fuel n (prim k) f l w = absurd (omega arith)
leads fuel zero (node id of es) f l w = refl
leads zero (suc n) (node id of es) f l w = absurd (omega arith)
leads (suc fuel) (suc n) (node id of es) f l w =
    let e = entry_of n es (omega arith) in
    let o = in_order id of es w in
    let low = e.low in
    let high = e.high in
    let here = child_at of es e.index e.name e.tree o (omega (arith, low, high)) e.named e.there in
    let deep = leads fuel (n - before e.index es) e.tree (omega (arith, f)) (omega (arith, low, high)) (well_child es e.index e.tree o.deep e.there) in
    ap (λ (path : List Key). subtree_at path (node id of es)) (path_under id n of es e)
    ∙ ap (then_subtree (subtree_at (path_to (n - before e.index es) e.tree))) here
    ∙ deep
    ∙ sym (place_in_child e.index n es e.tree e.there e.low e.high)

-- ---- no two places have one path
abbrev head_of : Key → List Key → Key
head_of d [] = d
head_of d (k ∷ ks) = k

abbrev tail_of : List Key → List Key
tail_of [] = []
tail_of (k ∷ ks) = ks

not_empty : (k : Key) (ks : List Key) → [] ≡ k ∷ ks → ⊥
not_empty k ks e = absurd (cc)

one_place : (fuel m n : ℕ) (t : Tree) → m ≤ fuel → m < containers t → n < containers t → well (plain t) ≡ true → path_to m t ≡ path_to n t → m ≡ n
one_place fuel m n (prim k) f a b w p = absurd (omega arith)
one_place fuel zero zero (node id of es) f a b w p = refl
one_place fuel zero (suc n) (node id of es) f a b w p = absurd (not_empty _ _ (p ∙ path_under id n of es (entry_of n es (omega arith))))
one_place fuel (suc m) zero (node id of es) f a b w p = absurd (not_empty _ _ (sym p ∙ path_under id m of es (entry_of m es (omega arith))))
one_place zero (suc m) (suc n) (node id of es) f a b w p = absurd (omega arith)
one_place (suc fuel) (suc m) (suc n) (node id of es) f a b w p =
    let x = entry_of m es (omega arith) in
    let y = entry_of n es (omega arith) in
    let o = in_order id of es w in
    let both = sym (path_under id m of es x) ∙ p ∙ path_under id n of es y in
    let index : x.index ≡ y.index = same_index of es x.index y.index x.name y.name o x.named y.named (ap (head_of x.name) both) in
    let rest : path_to (m - before x.index es) x.tree ≡ path_to (n - before y.index es) y.tree = ap tail_of both in
    let there : Some x.tree ≡ Some y.tree = sym x.there ∙ ap (slice_get (children es)) index ∙ y.there in
    let child : x.tree ≡ y.tree = cc in
    let here : path_to (m - before x.index es) x.tree ≡ path_to (n - before x.index es) x.tree =
    rest ∙ (λ i. path_to (n - before (sym index i) es) (sym child i)) in
    let before_same = ap (λ (i : ℕ). before i es) index in
    let tree_same = ap containers child in
    let a0 = x.low in
    let a1 = x.high in
    let b0 = y.low in
    let b1 = y.high in
    let deep = one_place fuel (m - before x.index es) (n - before x.index es) x.tree (omega (arith, f)) (omega (arith, a0, a1)) (omega (arith, b0, b1, before_same, tree_same)) (well_child es x.index x.tree o.deep x.there) here in
    omega (arith, deep, a0, b0, before_same)

-- ---- each container place has a path
-- the entry that a step leads to
record Stepped (of : Kind) (k : Key) (es : Branches) (v : Tree) : Type 0 where
  index : ℕ
  name : Key
  named : slice_get (keys_in es) index ≡ Some name
  there : slice_get (children es) index ≡ Some v
  is : step of index name ≡ k

-- a key is found under itself
record Found (k : Key) (es : Branches) (v : Tree) : Type 0 where
  index : ℕ
  named : slice_get (keys_in es) index ≡ Some k
  there : slice_get (children es) index ≡ Some v

tied : (j k : Key) → is_eq (key_cmp j k) ≡ true → j ≡ k
tied j k h = elim (key_cmp j k) as (λ o. key_cmp j k ≡ o → is_eq o ≡ true → j ≡ k) [
  | Less ↦ λ p q. absurd (cc)
  | Equal ↦ λ p q. key_exact j k p
  | Greater ↦ λ p q. absurd (cc)
] refl h

found_under : (k : Key) (es : Branches) (v : Tree) → under k es ≡ Some v → Found k es v
found_under k none v h = absurd (cc)
found_under k (branch j w es) v h = elim (is_eq (key_cmp k j)) as (λ b. is_eq (key_cmp k j) ≡ b → (if b then Some w else under k es) ≡ Some v → Found k (branch j w es) v) [
  | true ↦ λ p q. record { index = 0; named = ap Some (sym (tied k j p)); there = q }
  | false ↦ λ p q. let f = found_under k es v q in record { index = suc f.index; named = f.named; there = f.there }
] refl h

keyed_step : (of : Kind) (k : Key) (es : Branches) (v : Tree) → ((i : ℕ) → step of i k ≡ k) → under k es ≡ Some v → Stepped of k es v
keyed_step of k es v own h = let f = found_under k es v h in record { index = f.index; name = k; named = f.named; there = f.there; is = own f.index }

listed_step : (i : ℕ) (es : Branches) (v : Tree) → slice_get (children es) i ≡ Some v → (k : Key) × (slice_get (keys_in es) i ≡ Some k)
listed_step i none v h = absurd (cc)
listed_step zero (branch k w es) v h = (k, refl)
listed_step (suc i) (branch k w es) v h = listed_step i es v h

stepped : (of : Kind) (k : Key) (es : Branches) (v : Tree) → child of k es ≡ Some v → Stepped of k es v
stepped kind.Obj (key.Text s) es v h = keyed_step kind.Obj (key.Text s) es v (λ i. refl) h
stepped kind.List (key.Int (pos i)) es v h = let j = listed_step i es v h in record { index = i; name = j.0; named = j.1; there = h; is = refl }
stepped kind.Map k es v h = keyed_step kind.Map k es v (λ i. refl) h
stepped _ _ es v h = absurd (cc)

record Named (path : List Key) (t : Tree) : Type 0 where
  name : ℕ
  inside : name < containers t
  is : path_to name t ≡ path

root_named : (t : Tree) → IsNode t → Named [] t
root_named (prim k) n = absurd n
root_named (node id of es) n = record { name = 0; inside = omega arith; is = refl }

child_named : (id : ℕ) (of : Kind) (k : Key) (es : Branches) (v : Tree) (path : List Key) → Stepped of k es v → Named path v → Named (k ∷ path) (node id of es)
child_named id of k es v path e d =
    let m = before e.index es + d.name in
    let inside = d.inside in
    let more = before_more e.index es v e.there in
    let all = before_le (suc e.index) es in
    let z : 0 + e.index ≡ e.index = omega arith in
    let y : m - before e.index es ≡ d.name = omega arith in
    record {
      name = suc m;
      inside = omega (arith, inside, more, all);
      is =
          path_entry of 0 e.index m es e.name v e.named e.there (omega arith) (omega (arith, inside))
          ∙ (λ i. step of (z i) e.name ∷ path_to (y i) v)
          ∙ (λ i. e.is i ∷ d.is i);
    }

path_named : (path : List Key) (t u : Tree) → subtree_at path t ≡ Some u → IsNode u → Named path t
path_named [] t u h n = let e : u ≡ t = cc in root_named t (subst IsNode e n)
path_named (k ∷ path) (prim j) u h n = absurd (cc)
path_named (k ∷ path) (node id of es) u h n = elim (child of k es) as (λ c. child of k es ≡ c → then_subtree (subtree_at path) c ≡ Some u → Named (k ∷ path) (node id of es)) [
  | None ↦ λ p q. absurd (cc)
  | Some v ↦ λ p q. child_named id of k es v path (stepped of k es v p) (path_named path v u q n)
] refl h

-- ---- drafts
abbrev root_of : Heap → Tree
root_of h = tree_at h.states h.root

record IsAt (h : Heap) (v : Rv) (path : List Key) : Type 0 where
  object : ObjRef
  is : v ≡ Obj object
  scope : object.scope ≡ h.scope
  inside : object.slot < drafts h
  along : path_to object.slot (root_of h) ≡ path

eq_of : (m n : ℕ) → (m == n) ≡ true → m ≡ n
eq_of m n h = grind (arith, h)

eq_true : (m n : ℕ) → m ≡ n → (m == n) ≡ true
eq_true m n h = grind (arith, h)

lt_of : (m n : ℕ) → nat_lt m n ≡ true → m < n
lt_of m n h = grind (arith, h)

lt_true : (m n : ℕ) → m < n → nat_lt m n ≡ true
lt_true m n h = grind (arith, h)

at_object : (h : Heap) (r : ObjRef) (path : List Key) (b : Bool) → is_draft h (Obj r) ≡ b → (if b then Some (path_to r.slot (root_of h)) else None) ≡ Some path → IsAt h (Obj r) path
at_object h r path true d p = record {
  object = r;
  is = refl;
  scope = eq_of r.scope h.scope (left_true _ _ d);
  inside = lt_of r.slot (drafts h) (right_true _ _ d);
  along = cc;
}
at_object h r path false d p = absurd (cc)

is_at : (h : Heap) (v : Rv) (path : List Key) → place_of h v ≡ Some path → IsAt h v path
is_at h Undefined path p = absurd (cc)
is_at h (Prim k) path p = absurd (cc)
is_at h (Obj r) path p = at_object h r path (is_draft h (Obj r)) refl p
is_at h (Frozen id) path p = absurd (cc)

module _ (h : Heap) (s : IsSound h) where
  root_well : well (plain (root_of h)) ≡ true
  root_well = well_at h.states h.root s.store s.root

  object_leads : (r : ObjRef) (path : List Key) → r.slot < drafts h → path_to r.slot (root_of h) ≡ path → subtree_at path (root_of h) ≡ place r.slot (root_of h)
  object_leads r path l p =
      ap (λ (x : List Key). subtree_at x (root_of h)) (sym p)
      ∙ leads r.slot r.slot (root_of h) (omega arith) l root_well

  -- the container that an object was opened on
  opened_place : (scope n : ℕ) (o : Option Tree) (c : Option Content) → IsOpenedAs c (copied scope n o) → IsSomeAnd o (λ t. o ≡ Some t)
  opened_place scope n o None i = absurd i
  opened_place scope n None (Some c) i = absurd i
  opened_place scope n (Some (prim k)) (Some c) i = absurd i
  opened_place scope n (Some (node id of es)) (Some c) i = refl

  opened_original : (scope n : ℕ) (o : Option Tree) (c : Option Content) → IsOpenedAs c (copied scope n o) → IsSomeAnd o (λ t. frozen_at o ≡ Frozen (number t))
  opened_original scope n o None i = absurd i
  opened_original scope n None (Some c) i = absurd i
  opened_original scope n (Some (prim k)) (Some c) i = absurd i
  opened_original scope n (Some (node id of es)) (Some c) i = refl

  opened_source : (scope n : ℕ) (o : Option Tree) (c : Option Content) → IsOpenedAs c (copied scope n o) → IsSomeAnd o (λ t. source_in c ≡ Some (number t))
  opened_source scope n o None i = absurd i
  opened_source scope n None (Some c) i = absurd i
  opened_source scope n (Some (prim k)) (Some c) i = absurd i
  opened_source scope n (Some (node id of es)) (Some c) i = i.1

  original_object : (r : ObjRef) → r.scope ≡ h.scope → r.slot < drafts h → original h (Obj r) ≡ Ok (frozen_at (place r.slot (root_of h)))
  original_object r here l = rw (eq_true r.scope h.scope here, lt_true r.slot (drafts h) l) refl

  and_more : (o : Option Tree) (P Q : Tree → Type 0) → IsSomeAnd o P → ((t : Tree) → P t → Q t) → IsSomeAnd o Q
  and_more None P Q p f = absurd p
  and_more (Some t) P Q p f = f t p

  at_path : (P : Tree → Type 0) (r : ObjRef) (path : List Key) → r.slot < drafts h → path_to r.slot (root_of h) ≡ path → IsSomeAnd (place r.slot (root_of h)) P → IsSomeAnd (subtree_at path (root_of h)) P
  at_path P r path l q a = subst (λ (o : Option Tree). IsSomeAnd o P) (sym (object_leads r path l q)) a

  -- what follows of the place that a draft is named after, follows of what stands at its path
  leading : (v : Rv) (path : List Key) (P Q : Tree → Type 0) (a : IsAt h v path) → IsSomeAnd (place a.object.slot (root_of h)) P → ((t : Tree) → P t → Q t) → IsSomeAnd (subtree_at path (root_of h)) Q
  leading v path P Q a x f = at_path Q a.object path a.inside a.along (and_more (place a.object.slot (root_of h)) P Q x f)

  pub path_place : (v : Rv) (path : List Key) → place_of h v ≡ Some path → IsSomeAnd (subtree_at path (root_of h)) (λ t. place (slot_of v) (root_of h) ≡ Some t)
  path_place v path p =
      let a = is_at h v path p in
      let n = a.object.slot in
      leading v path (λ t. place n (root_of h) ≡ Some t) (λ t. place (slot_of v) (root_of h) ≡ Some t) a
      (opened_place h.scope n (place n (root_of h)) (h.object n) (s.drafts n a.inside))
      (λ t e. ap (λ (x : Rv). place (slot_of x) (root_of h)) a.is ∙ e)

  pub path_original : (v : Rv) (path : List Key) → place_of h v ≡ Some path → IsSomeAnd (subtree_at path (root_of h)) (λ t. original h v ≡ Ok (Frozen (number t)))
  path_original v path p =
      let a = is_at h v path p in
      let n = a.object.slot in
      leading v path (λ t. frozen_at (place n (root_of h)) ≡ Frozen (number t)) (λ t. original h v ≡ Ok (Frozen (number t))) a
      (opened_original h.scope n (place n (root_of h)) (h.object n) (s.drafts n a.inside))
      (λ t e. ap (original h) a.is ∙ original_object a.object a.scope a.inside ∙ ap Ok e)

  pub path_source : (v : Rv) (path : List Key) → place_of h v ≡ Some path → IsSomeAnd (subtree_at path (root_of h)) (λ t. source h v ≡ Some (number t))
  path_source v path p =
      let a = is_at h v path p in
      let n = a.object.slot in
      leading v path (λ t. source_in (h.object n) ≡ Some (number t)) (λ t. source h v ≡ Some (number t)) a
      (opened_source h.scope n (place n (root_of h)) (h.object n) (s.drafts n a.inside))
      (λ t e. ap (source h) a.is ∙ e)

  pub one_path : (v w : Rv) (path : List Key) → place_of h v ≡ Some path → place_of h w ≡ Some path → same v w ≡ true
  one_path v w path p q =
      let a = is_at h v path p in
      let b = is_at h w path q in
      let n = one_place a.object.slot a.object.slot b.object.slot (root_of h) (omega arith) a.inside b.inside root_well (a.along ∙ sym b.along) in
      let one = eq_true a.object.scope b.object.scope (a.scope ∙ sym b.scope) in
      let two = eq_true a.object.slot b.object.slot n in
      rw (a.is, b.is, one, two) refl

pub each_container : (h : Heap) (path : List Key) (t : Tree) → subtree_at path (root_of h) ≡ Some t → IsNode t → IsPathOfDraft h path
each_container h path t e n =
    let d = path_named path (root_of h) t e n in
    let v : Rv = Obj (record { scope = h.scope; slot = d.name }) in
    let here : is_draft h v ≡ true = rw (eq_true h.scope h.scope refl, lt_true d.name (drafts h) d.inside) refl in
    (v, rw here (ap (λ (p : List Key). let o : Option (List Key) = Some p in o) d.is))
