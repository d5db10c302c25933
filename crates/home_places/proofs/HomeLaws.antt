-- Home places lead in the opening state and in the new one to containers of one kind.
use Rattle.std.proofs.Common.{◌≡◌, ℕ, zero, suc, ◌+◌, ◌-◌, ◌<◌, pos, negsuc, List, [], ◌∷◌, map, refl, ap, sym, ◌∙◌, subst, arith, Bool, true, false, cond, Option, Some, None, ◌⊎◌, inl, inr, Ordering, Less, Equal, Greater}
use Rattle.std.specs.Prelude.{nat_lt, option_map, slice_get, if◌then◌else◌}
use Rattle.std.specs.FinMap.Entries.{find}
use Rattle.std.specs.Ordering.{is_eq, eq_by_cmp}
use Rattle.std.proofs.lemmas.Option.{slice_get-map}
use Rattle.value_model.specs.declared.key.Key.{Key}
use Rattle.value_model.specs.declared.key.Key.TheVariants as key
use Rattle.value_model.specs.declared.kind.Kind.{Kind}
use Rattle.value_model.specs.declared.kind.Kind.TheVariants as kind
use Rattle.value_model.specs.Order.{key_cmp, key_exact}
use Rattle.value_model.specs.Places.{child_at, child}
use Rattle.value_model.specs.Plain as plain_value
use Rattle.value_model.specs.Plain.{Plain, Entries, Table, list_of}
use Rattle.value_model.specs.Search.{left_true, right_true}
use Rattle.value_model.specs.Well.{all_fit}
use Rattle.numbered.proofs.Laws.{of_number}
use Rattle.numbered.specs.Store.{IsStore, IsOf, AllOf, tree_at}
use Rattle.numbered.specs.Tree as tree
use Rattle.numbered.specs.Tree.{Tree, Branches, plain, plains, containers, place, place_in}
use Rattle.host_machine.specs.Paths.{branch_list, subtree, then_subtree, subtree_at}
use Rattle.run_heap.specs.declared.value.Rv.{Rv}
use Rattle.run_heap.specs.declared.content.Content.{Content}
use Rattle.run_heap.specs.declared.value.Given.TheVariants as given
use Rattle.run_heap.specs.Heap.{Heap, drafts, copied, given_table}
use Rattle.run_heap.specs.Operations.{Rows, source_in}
use Rattle.run_heap.specs.Places.{step, path_to, path_in}
use Rattle.run_heap.specs.Sound.{IsSound, IsOpenedAs}
use Rattle.result_trees.specs.Final.{Final, Finals, prim, frozen, object, none, entry, plain_of, plains_of}
use Rattle.result_trees.proofs.KeptLaws.{not_opened}
use Rattle.result_trees.proofs.Readings.{IfContent, Reads, ReadsRows, Shows}
use Rattle.home_places.specs.Homes.{is_home, has_other_number, entry_list, entry_in, then_final, final_at, is_changed_home, changed_homes}
use Rattle.home_places.specs.Paths.{same_path, OfOneKind, AreHomes}
use Rattle.home_places.proofs.Steps.{Found, IsInStore, container_of, keyed_obj, keyed_map, keys_found, indexes_found, child_plain}

-- ---- the path of a place leads to it
no_places : (es : Branches) (n : ℕ) → all_fit kind.Set (plains es) ≡ true → place_in n es ≡ None
no_places tree.none n f = refl
no_places (tree.branch k (tree.prim j) es) n f =
    let z : n - 0 ≡ n = omega arith in
    let no : nat_lt n 0 ≡ false = grind arith in
    rw (no, z) (no_places es n (right_true _ _ f))
no_places (tree.branch k (tree.node id of ds) es) n f = absurd (cc)

-- each step leads to its entry, or there is no place inside
steps_of : (ts : List Tree) (of : Kind) (es : Branches) → IsInStore ts of es → Found of (branch_list es) 0 es ⊎ ((n : ℕ) → place_in n es ≡ None)
steps_of ts kind.Obj es c = inl (keys_found kind.Obj keyed_obj es c.ascends)
steps_of ts kind.Map es c = inl (keys_found kind.Map keyed_map es c.ascends)
steps_of ts kind.List es c = inl (indexes_found es)
steps_of ts kind.Set es c = inr (λ n. no_places es n c.fit)

module _ (ts : List Tree) (s : IsStore ts) where
  mutual
    pub path_leads : (t : Tree) (n : ℕ) (u : Tree) → IsOf ts t → place n t ≡ Some u → subtree_at (path_to n t) t ≡ Some u
    path_leads (tree.prim k) n u o p = absurd (cc)
    path_leads (tree.node id of es) zero u o p = p
    path_leads (tree.node id of es) (suc n) u o p =
        let c = container_of ts id of es s o in
        elim (steps_of ts of es c) [
          | inl found ↦ path_in_leads es n 0 id of es u found c.all p
          | inr empty ↦ absurd (let q : None ≡ Some u = sym (empty n) ∙ p in cc)
        ]

    pub path_in_leads : (es : Branches) (n i id : ℕ) (of : Kind) (all : Branches) (u : Tree) → Found of (branch_list all) i es → AllOf ts es → place_in n es ≡ Some u → subtree_at (path_in of i n es) (tree.node id of all) ≡ Some u
    path_in_leads tree.none n i id of all u f a p = absurd (cc)
    path_in_leads (tree.branch k v es) n i id of all u f a p = elim (nat_lt n (containers v)) as (λ (b : Bool). nat_lt n (containers v) ≡ b → (if b then place n v else place_in (n - containers v) es) ≡ Some u → subtree_at (if b then step of i k ∷ path_to n v else path_in of (i + 1) (n - containers v) es) (tree.node id of all) ≡ Some u) [
      | true ↦ λ q there.
          ap (then_subtree (subtree_at (path_to n v))) f.0 ∙ path_leads v n u a.0 there
      | false ↦ λ q there.
          let one : i + 1 ≡ suc i = omega arith in
          ap (λ (j : ℕ). subtree_at (path_in of j (n - containers v) es) (tree.node id of all)) one ∙ path_in_leads es (n - containers v) (suc i) id of all u f.1 a.1 there
    ] refl p

-- ---- what stands in an object and in a state with the same plain value
abbrev shown : Key × Final → Key × Plain
shown e = (e.0, plain_of e.1)

listed : (es : Finals) → list_of (plains_of es) ≡ map shown (entry_list es)
listed none = refl
listed (entry k v es) = ap (λ (ds : Table). (k, plain_of v) ∷ ds) (listed es)

found_at : (b : Bool) (e : Key × Final) (o : Option Final) → cond b (Some (plain_of e.1)) (option_map plain_of o) ≡ option_map plain_of (cond b (Some e.1) o)
found_at true e o = refl
found_at false e o = refl

found : (k : Key) (es : List (Key × Final)) → find key_cmp k (map shown es) ≡ option_map plain_of (find key_cmp k es)
found k [] = refl
found k (e ∷ es) = ap (λ (o : Option Plain). cond (eq_by_cmp key_cmp k e.0) (Some (plain_of e.1)) o) (found k es) ∙ found_at (eq_by_cmp key_cmp k e.0) e (find key_cmp k es)

values_shown : (es : List (Key × Final)) → map (λ (e : Key × Plain). e.1) (map shown es) ≡ map plain_of (map (λ (e : Key × Final). e.1) es)
values_shown [] = refl
values_shown (e ∷ es) = ap (λ (vs : List Plain). plain_of e.1 ∷ vs) (values_shown es)

element : (i : ℕ) (es : List (Key × Final)) → slice_get (map (λ (e : Key × Plain). e.1) (map shown es)) i ≡ option_map plain_of (slice_get (map (λ (e : Key × Final). e.1) es) i)
element i es = ap (λ (vs : List Plain). slice_get vs i) (values_shown es) ∙ slice_get-map plain_of (map (λ (e : Key × Final). e.1) es) i

shown_in : (of : Kind) (k : Key) (es : List (Key × Final)) → child_at of k (map shown es) ≡ option_map plain_of (entry_in of k es)
shown_in kind.List (key.Int (pos i)) es = element i es
shown_in kind.List (key.Int (negsuc i)) es = refl
shown_in kind.List key.Null es = refl
shown_in kind.List (key.Bool b) es = refl
shown_in kind.List (key.Text s) es = refl
shown_in kind.Set k es = refl
shown_in kind.Obj k es = found k es
shown_in kind.Map k es = found k es

record Matches (k : Key) (t : Tree) (g : Final) : Type 0 where
  there : Tree
  leads : subtree k t ≡ Some there
  same : plain there ≡ plain_of g

matched : (k : Key) (t : Tree) (g : Final) (o : Option Tree) → subtree k t ≡ o → option_map plain o ≡ Some (plain_of g) → Matches k t g
matched k t g None p e = absurd (cc)
matched k t g (Some u) p e = record { there = u; leads = p; same = cc }

child_matches : (k : Key) (t : Tree) (n : ℕ) (of : Kind) (es : Finals) (g : Final) → plain t ≡ plain_of (object n of es) → entry_in of k (entry_list es) ≡ Some g → Matches k t g
child_matches k t n of es g e f =
    let its : child k (plain_of (object n of es)) ≡ Some (plain_of g) = ap (child_at of k) (listed es) ∙ shown_in of k (entry_list es) ∙ ap (option_map plain_of) f in
    matched k t g (subtree k t) refl (sym (child_plain k t) ∙ ap (child k) e ∙ its)

-- ---- an entry is read from some value
found_reads : (h : Heap) (k : Key) (es : Finals) (t : Rows) (g : Final) → ReadsRows h es t → find key_cmp k (entry_list es) ≡ Some g → (v : Rv) × Reads h g v
found_reads h k none t g r e = absurd (cc)
found_reads h k (entry j f es) [] g r e = absurd r
found_reads h k (entry j f es) (x ∷ t) g r e = at_first (eq_by_cmp key_cmp k j) (found_reads h k es t g r.2) e
  where
    at_first : (b : Bool) → (find key_cmp k (entry_list es) ≡ Some g → (v : Rv) × Reads h g v) → cond b (Some f) (find key_cmp k (entry_list es)) ≡ Some g → (v : Rv) × Reads h g v
    at_first true rest q = let p : f ≡ g = cc in (x.1, subst (λ (y : Final). Reads h y x.1) p r.1)
    at_first false rest q = rest q

element_reads : (h : Heap) (i : ℕ) (es : Finals) (t : Rows) (g : Final) → ReadsRows h es t → slice_get (map (λ (e : Key × Final). e.1) (entry_list es)) i ≡ Some g → (v : Rv) × Reads h g v
element_reads h i none t g r e = absurd (cc)
element_reads h i (entry j f es) [] g r e = absurd r
element_reads h zero (entry j f es) (x ∷ t) g r e = let p : f ≡ g = cc in (x.1, subst (λ (y : Final). Reads h y x.1) p r.1)
element_reads h (suc i) (entry j f es) (x ∷ t) g r e = element_reads h i es t g r.2 e

pub entry_reads : (h : Heap) (of : Kind) (k : Key) (es : Finals) (t : Rows) (g : Final) → ReadsRows h es t → entry_in of k (entry_list es) ≡ Some g → (v : Rv) × Reads h g v
entry_reads h kind.Obj k es t g r e = found_reads h k es t g r e
entry_reads h kind.Map k es t g r e = found_reads h k es t g r e
entry_reads h kind.Set k es t g r e = absurd (cc)
entry_reads h kind.List (key.Int (pos i)) es t g r e = element_reads h i es t g r e
entry_reads h kind.List (key.Int (negsuc i)) es t g r e = absurd (cc)
entry_reads h kind.List key.Null es t g r e = absurd (cc)
entry_reads h kind.List (key.Bool b) es t g r e = absurd (cc)
entry_reads h kind.List (key.Text s) es t g r e = absurd (cc)

pub rows_in : (h : Heap) (of : Kind) (es : Finals) (o : Option Content) → IfContent o (λ c. (c.kind ≡ of) × ReadsRows h es c.table) → (t : Rows) × ReadsRows h es t
rows_in h of es None a = absurd a
rows_in h of es (Some c) a = (c.table, a.1)

-- ---- an object of a result tree, and what stands at its place in the new state
record Stands (h : Heap) (path : List Key) (t : Tree) (n : ℕ) (of : Kind) (es : Finals) : Type 0 where
  shows : Shows h n of es
  there : Tree
  leads : subtree_at path t ≡ Some there
  same : plain there ≡ plain_of (object n of es)

stands_here : (h : Heap) (f : Final) (v : Rv) (t : Tree) (n : ℕ) (of : Kind) (es : Finals) → Reads h f v → plain t ≡ plain_of f → f ≡ object n of es → Stands h [] t n of es
stands_here h f v t n of es r p e =
    let reads : Reads h (object n of es) v = subst (λ (g : Final). Reads h g v) e r in
    record { shows = reads.1; there = t; leads = refl; same = p ∙ ap plain_of e }

mutual_step : (h : Heap) (k : Key) (path : List Key) (t : Tree) (g : Final) (n : ℕ) (of : Kind) (es : Finals) (m : Matches k t g) → Stands h path m.there n of es → Stands h (k ∷ path) t n of es
mutual_step h k path t g n of es m a = record { shows = a.shows; there = a.there; leads = ap (then_subtree (subtree_at path)) m.leads ∙ a.leads; same = a.same }

stands : (h : Heap) (path : List Key) (f : Final) (v : Rv) (t : Tree) (n : ℕ) (of : Kind) (es : Finals) → Reads h f v → plain t ≡ plain_of f → final_at path f ≡ Some (object n of es) → Stands h path t n of es
stands h [] f v t n of es r p e = stands_here h f v t n of es r p (cc)
stands h (k ∷ path) (prim j) v t n of es r p e = absurd (cc)
stands h (k ∷ path) (frozen u) v t n of es r p e = absurd (cc)
stands h (k ∷ path) (object m to fs) v t n of es r p e = onward (entry_in to k (entry_list fs)) refl e (λ g w u a b c. stands h path g w u n of es a b c)
  where
    onward : (o : Option Final) → entry_in to k (entry_list fs) ≡ o → then_final (final_at path) o ≡ Some (object n of es)
        → ((g : Final) (w : Rv) (u : Tree) → Reads h g w → plain u ≡ plain_of g → final_at path g ≡ Some (object n of es) → Stands h path u n of es) → Stands h (k ∷ path) t n of es
    onward None q c law = absurd (cc)
    onward (Some g) q c law =
        let rows = rows_in h to fs (h.object m) r.1 in
        let read = entry_reads h to k fs rows.0 g rows.1 q in
        let here = child_matches k t m to fs g p q in
        mutual_step h k path t g n of es here (law g read.0 here.there read.1 here.same c)

-- ---- home places
pub tied : (o : Ordering) → is_eq o ≡ true → o ≡ Equal
tied Less h = absurd (cc)
tied Equal h = refl
tied Greater h = absurd (cc)

pub paths_same : (p q : List Key) → same_path p q ≡ true → p ≡ q
paths_same [] [] e = refl
paths_same [] (k ∷ q) e = absurd (cc)
paths_same (j ∷ p) [] e = absurd (cc)
paths_same (j ∷ p) (k ∷ q) e =
    let first = key_exact j k (tied (key_cmp j k) (left_true _ _ e)) in
    let rest = paths_same p q (right_true _ _ e) in
    λ i. first i ∷ rest i

kind_same : (h : Heap) (of to : Kind) (es : Finals) (t : Rows) (source : Option ℕ) (o : Option Content) → IfContent o (λ c. (c.kind ≡ of) × ReadsRows h es c.table) → IsOpenedAs o (Some (record { kind = to; table = t; source = source; written = false })) → to ≡ of
kind_same h of to es t source None a b = absurd a
kind_same h of to es t source (Some c) a b = sym b.0 ∙ a.0

new_kind : (i : ℕ) (to of : Kind) (es : Branches) (fs : Finals) (u : Tree) → to ≡ of → plain u ≡ plain_value.node of (plains_of fs) → OfOneKind (Some (tree.node i to es)) (Some u)
new_kind i to of es fs (tree.prim k) e p = absurd (cc)
new_kind i to of es fs (tree.node j q ds) e p = let same : q ≡ of = cc in e ∙ sym same

module _ (h : Heap) (s : IsSound h) (f : Final) (v : Rv) (t : Tree) (reads : Reads h f v) (value : plain t ≡ plain_of f) where
  abbrev pub root : Tree
  root = tree_at h.states h.root

  at_home : (path : List Key) (n : ℕ) (of : Kind) (es : Finals) → n < drafts h → path_to n root ≡ path → Stands h path t n of es → OfOneKind (subtree_at path root) (subtree_at path t)
  at_home path n of es l p a = by (place n root) refl
    where
      opened_on : (o : Option Tree) → place n root ≡ o → IsOpenedAs (h.object n) (copied h.scope n o)
      opened_on o q = subst (λ (x : Option Tree). IsOpenedAs (h.object n) (copied h.scope n x)) q (s.drafts n l)

      by : (o : Option Tree) → place n root ≡ o → OfOneKind (subtree_at path root) (subtree_at path t)
      by None q = absurd (not_opened (h.object n) (opened_on None q))
      by (Some (tree.prim k)) q = absurd (not_opened (h.object n) (opened_on (Some (tree.prim k)) q))
      by (Some (tree.node i to ds)) q =
          let u = tree.node i to ds in
          let lead : subtree_at path root ≡ Some u = ap (λ (x : List Key). subtree_at x root) (sym p) ∙ path_leads h.states s.store root n u (of_number h.states h.root s.store s.root) q in
          let g = given.From (record { scope = h.scope; slot = n + 1 }) in
          let kinds = kind_same h of to es (given_table g ds) (Some i) (h.object n) a.shows (opened_on (Some u) q) in
          subst (λ (x : Option Tree). OfOneKind x (subtree_at path t)) (sym lead)
          (subst (λ (x : Option Tree). OfOneKind (Some u) x) (sym a.leads) (new_kind i to of ds es a.there kinds a.same))

  pub are_homes : AreHomes (changed_homes h f t) root t
  are_homes path e = by (final_at path f) (subtree_at path t) refl e
    where
      by : (o : Option Final) (u : Option Tree) → final_at path f ≡ o → is_changed_home h path o u ≡ true → OfOneKind (subtree_at path root) (subtree_at path t)
      by None u p q = absurd (cc)
      by (Some (prim k)) u p q = absurd (cc)
      by (Some (frozen x)) u p q = absurd (cc)
      by (Some (object n of es)) None p q = absurd (cc)
      by (Some (object n of es)) (Some u) p q =
          let home = left_true (is_home h path n) (has_other_number (source_in (h.object n)) u) q in
          let low : n < drafts h = (let b : nat_lt n (drafts h) ≡ true = left_true (nat_lt n (drafts h)) _ home in grind (arith, b)) in
          at_home path n of es low (paths_same (path_to n root) path (right_true (nat_lt n (drafts h)) _ home)) (stands h path f v t n of es reads value p)
