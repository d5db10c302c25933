-- Each home place with another number is listed.
use Rattle.std.proofs.Common.{◌≡◌, ℕ, zero, suc, ◌+◌, pos, negsuc, List, [], ◌∷◌, ◌++◌, refl, ap, sym, ◌∙◌, subst, arith, Bool, true, false, cond, Option, Some, None, ◌⊎◌, inl, inr, append_assoc, append-nil, map}
use Rattle.std.specs.Prelude.{◌&&◌, ◌||◌, slice_get}
use Rattle.std.specs.FinMap.Entries.{find}
use Rattle.std.specs.Ordering.{eq_by_cmp}
use Rattle.std.proofs.lemmas.Bool.{or_right}
use Rattle.value_model.specs.declared.key.Key.{Key}
use Rattle.value_model.specs.declared.key.Key.TheVariants as key
use Rattle.value_model.specs.declared.kind.Kind.{Kind}
use Rattle.value_model.specs.declared.kind.Kind.TheVariants as kind
use Rattle.value_model.specs.Order.{key_cmp, key_exact}
use Rattle.value_model.proofs.Tables.{is_eq-same}
use Rattle.numbered.specs.Tree as tree
use Rattle.numbered.specs.Tree.{Tree, Branches, plain, plains}
use Rattle.host_machine.specs.Paths.{branch_list, subtree, subtree_in, then_subtree, subtree_at}
use Rattle.run_heap.specs.Heap.{Heap}
use Rattle.run_heap.specs.Operations.{source_in}
use Rattle.run_heap.specs.Places.{step}
use Rattle.result_trees.specs.Final.{Final, Finals, prim, frozen, object, none, entry, plain_of, plains_of}
use Rattle.home_places.specs.Homes.{is_home, has_other_number, entry_list, entry_in, final_child, then_final, final_at, is_changed_home, home_here, all_below, homes, homes_in}
use Rattle.home_places.specs.Paths.{same_path, among}
use Rattle.home_places.proofs.HomeLaws.{tied}
use Rattle.home_places.proofs.ListedLaws.{same_keys}

-- the same entry of a result tree and of its state, from the i-th on, at this step
abbrev IsEntry : Kind → ℕ → Finals → Branches → Key → Final → Tree → Type 0
IsEntry of i none bs k g u = ⊥
IsEntry of i (entry j v es) tree.none k g u = ⊥
IsEntry of i (entry j v es) (tree.branch l t bs) k g u = ((step of i j ≡ k) × (v ≡ g) × (t ≡ u)) ⊎ IsEntry of (suc i) es bs k g u

-- ---- by key
abbrev IsNamed : Finals → Branches → Key → Final → Tree → Type 0
IsNamed none bs k g u = ⊥
IsNamed (entry j v es) tree.none k g u = ⊥
IsNamed (entry j v es) (tree.branch l t bs) k g u = ((j ≡ k) × (v ≡ g) × (t ≡ u)) ⊎ IsNamed es bs k g u

named : (es : Finals) (bs : Branches) (k : Key) (g : Final) (u : Tree) → plains bs ≡ plains_of es → find key_cmp k (entry_list es) ≡ Some g → find key_cmp k (branch_list bs) ≡ Some u → IsNamed es bs k g u
named none bs k g u p e f = absurd (cc)
named (entry j v es) tree.none k g u p e f = absurd (cc)
named (entry j v es) (tree.branch l t bs) k g u p e f =
    let parts = same_keys l j (plain t) (plain_of v) (plains bs) (plains_of es) p in
    let there : find key_cmp k ((j, t) ∷ branch_list bs) ≡ Some u = subst (λ (x : Key). find key_cmp k ((x, t) ∷ branch_list bs) ≡ Some u) parts.0 f in
    by (eq_by_cmp key_cmp k j) refl e there (named es bs k g u parts.2)
  where
    by : (b : Bool) → eq_by_cmp key_cmp k j ≡ b → cond b (Some v) (find key_cmp k (entry_list es)) ≡ Some g → cond b (Some t) (find key_cmp k (branch_list bs)) ≡ Some u
        → (find key_cmp k (entry_list es) ≡ Some g → find key_cmp k (branch_list bs) ≡ Some u → IsNamed es bs k g u) → IsNamed (entry j v es) (tree.branch l t bs) k g u
    by true q x y rest = inl (sym (key_exact k j (tied (key_cmp k j) q)), cc, cc)
    by false q x y rest = inr (rest x y)

object_entry : (i : ℕ) (es : Finals) (bs : Branches) (k : Key) (g : Final) (u : Tree) → IsNamed es bs k g u → IsEntry kind.Obj i es bs k g u
object_entry i none bs k g u n = absurd n
object_entry i (entry j v es) tree.none k g u n = absurd n
object_entry i (entry j v es) (tree.branch l t bs) k g u (inl n) = inl n
object_entry i (entry j v es) (tree.branch l t bs) k g u (inr n) = inr (object_entry (suc i) es bs k g u n)

map_entry : (i : ℕ) (es : Finals) (bs : Branches) (k : Key) (g : Final) (u : Tree) → IsNamed es bs k g u → IsEntry kind.Map i es bs k g u
map_entry i none bs k g u n = absurd n
map_entry i (entry j v es) tree.none k g u n = absurd n
map_entry i (entry j v es) (tree.branch l t bs) k g u (inl n) = inl n
map_entry i (entry j v es) (tree.branch l t bs) k g u (inr n) = inr (map_entry (suc i) es bs k g u n)

-- ---- by index
index_entry : (m i p : ℕ) (es : Finals) (bs : Branches) (g : Final) (u : Tree) → p ≡ i + m → slice_get (map (λ (e : Key × Final). e.1) (entry_list es)) m ≡ Some g → slice_get (map (λ (e : Key × Tree). e.1) (branch_list bs)) m ≡ Some u
    → IsEntry kind.List i es bs (key.Int (pos p)) g u
index_entry m i p none bs g u q e f = absurd (cc)
index_entry m i p (entry j v es) tree.none g u q e f = absurd (cc)
index_entry zero i p (entry j v es) (tree.branch l t bs) g u q e f = let z : i ≡ p = omega (arith, q) in inl (ap (λ (a : ℕ). key.Int (pos a)) z, cc, cc)
index_entry (suc m) i p (entry j v es) (tree.branch l t bs) g u q e f = inr (index_entry m (suc i) p es bs g u (omega (arith, q)) e f)

entry_at : (of : Kind) (es : Finals) (bs : Branches) (k : Key) (g : Final) (u : Tree) → plains bs ≡ plains_of es → entry_in of k (entry_list es) ≡ Some g → subtree_in of k (branch_list bs) ≡ Some u → IsEntry of 0 es bs k g u
entry_at kind.Obj es bs k g u p e f = object_entry 0 es bs k g u (named es bs k g u p e f)
entry_at kind.Map es bs k g u p e f = map_entry 0 es bs k g u (named es bs k g u p e f)
entry_at kind.Set es bs k g u p e f = absurd (cc)
entry_at kind.List es bs (key.Int (pos m)) g u p e f = index_entry m 0 m es bs g u (omega arith) e f
entry_at kind.List es bs (key.Int (negsuc m)) g u p e f = absurd (cc)
entry_at kind.List es bs key.Null g u p e f = absurd (cc)
entry_at kind.List es bs (key.Bool b) g u p e f = absurd (cc)
entry_at kind.List es bs (key.Text s) g u p e f = absurd (cc)

entry_plain : (of : Kind) (i : ℕ) (es : Finals) (bs : Branches) (k : Key) (g : Final) (u : Tree) → plains bs ≡ plains_of es → IsEntry of i es bs k g u → plain u ≡ plain_of g
entry_plain of i none bs k g u p a = absurd a
entry_plain of i (entry j v es) tree.none k g u p a = absurd a
entry_plain of i (entry j v es) (tree.branch l t bs) k g u p (inl a) =
    let parts = same_keys l j (plain t) (plain_of v) (plains bs) (plains_of es) p in
    ap plain (sym a.2) ∙ parts.1 ∙ ap plain_of a.1
entry_plain of i (entry j v es) (tree.branch l t bs) k g u p (inr a) =
    let parts = same_keys l j (plain t) (plain_of v) (plains bs) (plains_of es) p in
    entry_plain of (suc i) es bs k g u parts.2 a

-- ---- lists of paths
among_left : (ps qs : List (List Key)) (path : List Key) → among ps path ≡ true → among (ps ++ qs) path ≡ true
among_left [] qs path e = absurd (cc)
among_left (p ∷ ps) qs path e = by (same_path p path) e (among_left ps qs path)
  where
    by : (b : Bool) → (b || among ps path) ≡ true → (among ps path ≡ true → among (ps ++ qs) path ≡ true) → (b || among (ps ++ qs) path) ≡ true
    by true x rest = refl
    by false x rest = rest x

among_right : (ps qs : List (List Key)) (path : List Key) → among qs path ≡ true → among (ps ++ qs) path ≡ true
among_right [] qs path e = e
among_right (p ∷ ps) qs path e = or_right (same_path p path) (among (ps ++ qs) path) (among_right ps qs path e)

all_below_among : (k : Key) (ps : List (List Key)) (path : List Key) → among ps path ≡ true → among (all_below k ps) (k ∷ path) ≡ true
all_below_among k [] path e = absurd (cc)
all_below_among k (p ∷ ps) path e = by (same_path p path) refl e (all_below_among k ps path)
  where
    by : (b : Bool) → same_path p path ≡ b → (b || among ps path) ≡ true → (among ps path ≡ true → among (all_below k ps) (k ∷ path) ≡ true) → among (all_below k (p ∷ ps)) (k ∷ path) ≡ true
    by true q x rest = rw (is_eq-same k, q) refl
    by false q x rest = or_right (same_path (k ∷ p) (k ∷ path)) (among (all_below k ps) (k ∷ path)) (rest x)

-- ---- the places
entry_listed : (h : Heap) (at : List Key) (of : Kind) (i : ℕ) (es : Finals) (bs : Branches) (k : Key) (g : Final) (u : Tree) (path : List Key) → IsEntry of i es bs k g u → among (homes h (at ++ k ∷ []) g u) path ≡ true
    → among (homes_in h at of i es bs) (k ∷ path) ≡ true
entry_listed h at of i none bs k g u path a e = absurd a
entry_listed h at of i (entry j v es) tree.none k g u path a e = absurd a
entry_listed h at of i (entry j v es) (tree.branch l t bs) k g u path (inl a) e =
    let here : among (homes h (at ++ step of i j ∷ []) v t) path ≡ true = (λ n. among (homes h (at ++ a.0 n ∷ []) (a.1 n) (a.2 n)) path) ∙ e in
    let below : among (all_below (step of i j) (homes h (at ++ step of i j ∷ []) v t)) (k ∷ path) ≡ true =
    subst (λ (x : Key). among (all_below (step of i j) (homes h (at ++ step of i j ∷ []) v t)) (x ∷ path) ≡ true) a.0 (all_below_among (step of i j) (homes h (at ++ step of i j ∷ []) v t) path here) in
    among_left (all_below (step of i j) (homes h (at ++ step of i j ∷ []) v t)) (homes_in h at of (suc i) es bs) (k ∷ path) below
entry_listed h at of i (entry j v es) (tree.branch l t bs) k g u path (inr a) e =
    among_right (all_below (step of i j) (homes h (at ++ step of i j ∷ []) v t)) (homes_in h at of (suc i) es bs) (k ∷ path) (entry_listed h at of (suc i) es bs k g u path a e)

here_changed : (h : Heap) (at : List Key) (n : ℕ) (t : Tree) → (is_home h at n && has_other_number (source_in (h.object n)) t) ≡ true → among (home_here h at n t) [] ≡ true
here_changed h at n t e = rw e refl

-- what stands behind the first step
record Step (k : Key) (path : List Key) (f : Final) (t : Tree) (h : Heap) (at : List Key) : Type 0 where
  final : Final
  there : Tree
  reads : final_child k f ≡ Some final
  leads : subtree k t ≡ Some there
  changed : is_changed_home h ((at ++ k ∷ []) ++ path) (final_at path final) (subtree_at path there) ≡ true

none_there : (h : Heap) (path : List Key) (o : Option Final) → is_changed_home h path o None ≡ true → ⊥
none_there h path None e = absurd (cc)
none_there h path (Some (prim k)) e = absurd (cc)
none_there h path (Some (frozen t)) e = absurd (cc)
none_there h path (Some (object n of es)) e = absurd (cc)

first_step : (h : Heap) (at : List Key) (k : Key) (path : List Key) (f : Final) (t : Tree) → is_changed_home h (at ++ k ∷ path) (final_at (k ∷ path) f) (subtree_at (k ∷ path) t) ≡ true → Step k path f t h at
first_step h at k path f t e = by (final_child k f) (subtree k t) refl refl (subst (λ (p : List Key). is_changed_home h p (final_at (k ∷ path) f) (subtree_at (k ∷ path) t) ≡ true) (sym (append_assoc at (k ∷ []) path)) e)
  where
    by : (o : Option Final) (u : Option Tree) → final_child k f ≡ o → subtree k t ≡ u → is_changed_home h ((at ++ k ∷ []) ++ path) (then_final (final_at path) o) (then_subtree (subtree_at path) u) ≡ true → Step k path f t h at
    by None u p q x = absurd (cc)
    by (Some g) None p q x = absurd (none_there h ((at ++ k ∷ []) ++ path) (final_at path g) x)
    by (Some g) (Some u) p q x = record { final = g; there = u; reads = p; leads = q; changed = x }

node_entry : (n id : ℕ) (of to : Kind) (es : Finals) (bs : Branches) (k : Key) (g : Final) (u : Tree) → plain (tree.node id to bs) ≡ plain_of (object n of es) → final_child k (object n of es) ≡ Some g → subtree k (tree.node id to bs) ≡ Some u → IsEntry of 0 es bs k g u
node_entry n id of to es bs k g u p e f =
    let kinds : to ≡ of = cc in
    let inside : plains bs ≡ plains_of es = cc in
    entry_at of es bs k g u inside e (subst (λ (x : Kind). subtree_in x k (branch_list bs) ≡ Some u) kinds f)

pub homes_complete : (path : List Key) (f : Final) (h : Heap) (at : List Key) (t : Tree) → plain t ≡ plain_of f → is_changed_home h (at ++ path) (final_at path f) (subtree_at path t) ≡ true → among (homes h at f t) path ≡ true
homes_complete [] (prim k) h at t p e = absurd (cc)
homes_complete [] (frozen u) h at t p e = absurd (cc)
homes_complete [] (object n of es) h at t p e =
    let here : (is_home h at n && has_other_number (source_in (h.object n)) t) ≡ true = subst (λ (q : List Key). (is_home h q n && has_other_number (source_in (h.object n)) t) ≡ true) (append-nil at) e in
    among_left (home_here h at n t) (homes_in h at of 0 es (tree.branches_of t)) [] (here_changed h at n t here)
homes_complete (k ∷ path) (prim j) h at t p e = absurd (cc)
homes_complete (k ∷ path) (frozen u) h at t p e = absurd (cc)
homes_complete (k ∷ path) (object n of es) h at (tree.prim j) p e = absurd (cc)
homes_complete (k ∷ path) (object n of es) h at (tree.node id to bs) p e =
    let s = first_step h at k path (object n of es) (tree.node id to bs) e in
    let a = node_entry n id of to es bs k s.final s.there p s.reads s.leads in
    let inside : plains bs ≡ plains_of es = cc in
    let deep = homes_complete path s.final h (at ++ k ∷ []) s.there (entry_plain of 0 es bs k s.final s.there inside a) s.changed in
    among_right (home_here h at n (tree.node id to bs)) (homes_in h at of 0 es bs) (k ∷ path) (entry_listed h at of 0 es bs k s.final s.there path a deep)
