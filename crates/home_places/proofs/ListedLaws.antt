-- Each listed home place is a home place with another number.
use Rattle.std.proofs.Common.{◌≡◌, ℕ, suc, List, [], ◌∷◌, ◌++◌, refl, ap, sym, ◌∙◌, subst, Bool, true, false, cond, Some, ◌⊎◌, inl, inr, append_assoc, append-nil}
use Rattle.std.specs.Prelude.{◌&&◌, ◌||◌, if◌then◌else◌, ⊤}
use Rattle.std.specs.FinMap.Entries.{find, is_sorted, below_all}
use Rattle.std.specs.Ordering.{is_lt}
use Rattle.std.proofs.lemmas.Bool.{or_right}
use Rattle.value_model.specs.declared.key.Key.{Key}
use Rattle.value_model.specs.declared.kind.Kind.{Kind}
use Rattle.value_model.specs.declared.kind.Kind.TheVariants as kind
use Rattle.value_model.specs.Order.{key_cmp}
use Rattle.value_model.specs.Places.{ascends_at}
use Rattle.value_model.specs.Plain as plain_value
use Rattle.value_model.specs.Plain.{Plain, list_of}
use Rattle.value_model.specs.Search.{left_true, right_true}
use Rattle.value_model.proofs.Tables.{is_eq-same, is_eq-other}
use Rattle.value_model.specs.Well.{fits, all_fit, well, all_well}
use Rattle.numbered.specs.Tree as tree
use Rattle.numbered.specs.Tree.{Tree, Branches, plain, plains}
use Rattle.host_machine.specs.Paths.{branch_list, subtree, subtree_in, then_subtree, subtree_at}
use Rattle.run_heap.specs.Heap.{Heap}
use Rattle.run_heap.specs.Operations.{source_in}
use Rattle.run_heap.specs.Places.{step}
use Rattle.result_trees.specs.Final.{Final, Finals, prim, frozen, object, none, entry, plain_of, plains_of}
use Rattle.home_places.specs.Homes.{is_home, has_other_number, entry_list, entry_in, then_final, final_at, is_changed_home, home_here, all_below, homes, homes_in}
use Rattle.home_places.specs.Paths.{same_path, among}
use Rattle.home_places.proofs.HomeLaws.{paths_same}
use Rattle.home_places.proofs.Steps.{Found, keyed_obj, keyed_map, keys_found, indexes_found, less_other}

-- ---- each entry of a result tree is found at its step
abbrev FinalFound : Kind → List (Key × Final) → ℕ → Finals → Type 0
FinalFound of all i none = ⊤
FinalFound of all i (entry k v es) = (entry_in of (step of i k) all ≡ Some v) × FinalFound of all (suc i) es

shift : (e : Key × Final) (all : List (Key × Final)) (i : ℕ) (es : Finals) → FinalFound kind.List all i es → FinalFound kind.List (e ∷ all) (suc i) es
shift e all i none f = tt
shift e all i (entry k v es) f = (f.0, shift e all (suc i) es f.1)

list_found : (es : Finals) → FinalFound kind.List (entry_list es) 0 es
list_found none = tt
list_found (entry k v es) = (refl, shift (k, v) (entry_list es) 0 es (list_found es))

abbrev KeysFound : List (Key × Final) → Finals → Type 0
KeysFound all none = ⊤
KeysFound all (entry k v es) = (find key_cmp k all ≡ Some v) × KeysFound all es

skip : (e : Key × Final) (all : List (Key × Final)) (es : Finals) → below_all key_cmp e.0 (list_of (plains_of es)) ≡ true → KeysFound all es → KeysFound (e ∷ all) es
skip e all none b f = tt
skip e all (entry k v es) b f =
    let other = is_eq-other k e.0 (less_other e.0 k (left_true (is_lt (key_cmp e.0 k)) _ b)) in
    (ap (λ (c : Bool). cond c (Some e.1) (find key_cmp k all)) other ∙ f.0, skip e all es (right_true (is_lt (key_cmp e.0 k)) _ b) f.1)

all_found : (es : Finals) → is_sorted key_cmp (list_of (plains_of es)) ≡ true → KeysFound (entry_list es) es
all_found none s = tt
all_found (entry k v es) s = (
  ap (λ (c : Bool). cond c (Some v) (find key_cmp k (entry_list es))) (is_eq-same k),
  skip (k, v) (entry_list es) es (left_true (below_all key_cmp k (list_of (plains_of es))) _ s) (all_found es (right_true (below_all key_cmp k (list_of (plains_of es))) _ s)),
)

object_found : (all : List (Key × Final)) (i : ℕ) (es : Finals) → KeysFound all es → FinalFound kind.Obj all i es
object_found all i none f = tt
object_found all i (entry k v es) f = (f.0, object_found all (suc i) es f.1)

map_found : (all : List (Key × Final)) (i : ℕ) (es : Finals) → KeysFound all es → FinalFound kind.Map all i es
map_found all i none f = tt
map_found all i (entry k v es) f = (f.0, map_found all (suc i) es f.1)

-- ---- lists of paths
pub among_both : (ps qs : List (List Key)) (path : List Key) → among (ps ++ qs) path ≡ true → (among ps path ≡ true) ⊎ (among qs path ≡ true)
among_both [] qs path e = inr e
among_both (p ∷ ps) qs path e = by (same_path p path) refl e (among_both ps qs path)
  where
    by : (b : Bool) → same_path p path ≡ b → (b || among (ps ++ qs) path) ≡ true → (among (ps ++ qs) path ≡ true → (among ps path ≡ true) ⊎ (among qs path ≡ true)) → (among (p ∷ ps) path ≡ true) ⊎ (among qs path ≡ true)
    by true q x rest = inl (rw q refl)
    by false q x rest = elim (rest x) [ inl y ↦ inl (rw q y) | inr y ↦ inr y ]

pub same_self : (p : List Key) → same_path p p ≡ true
same_self [] = refl
same_self (k ∷ p) = rw (is_eq-same k) (same_self p)

pub first_listed : (p : List Key) (ps : List (List Key)) → among (p ∷ ps) p ≡ true
first_listed p ps = rw (same_self p) refl

pub later_listed : (p : List Key) (ps : List (List Key)) (q : List Key) → among ps q ≡ true → among (p ∷ ps) q ≡ true
later_listed p ps q e = or_right (same_path p q) (among ps q) e

record IsBelow (k : Key) (ps : List (List Key)) (path : List Key) : Type 0 where
  rest : List Key
  whole : path ≡ k ∷ rest
  listed : among ps rest ≡ true

among_below : (k : Key) (ps : List (List Key)) (path : List Key) → among (all_below k ps) path ≡ true → IsBelow k ps path
among_below k [] path e = absurd (cc)
among_below k (p ∷ ps) path e = by (same_path (k ∷ p) path) refl e (among_below k ps path)
  where
    by : (b : Bool) → same_path (k ∷ p) path ≡ b → (b || among (all_below k ps) path) ≡ true → (among (all_below k ps) path ≡ true → IsBelow k ps path) → IsBelow k (p ∷ ps) path
    by true q x rest = record { rest = p; whole = sym (paths_same (k ∷ p) path q); listed = first_listed p ps }
    by false q x rest = let r = rest x in record { rest = r.rest; whole = r.whole; listed = later_listed p ps r.rest r.listed }

-- ---- the listed places
record Listed (h : Heap) (at : List Key) (of : Kind) (all : List (Key × Final)) (t : Tree) (path : List Key) : Type 0 where
  key : Key
  rest : List Key
  first : Final
  there : Tree
  whole : path ≡ key ∷ rest
  entry : entry_in of key all ≡ Some first
  leads : subtree key t ≡ Some there
  changed : is_changed_home h ((at ++ key ∷ []) ++ rest) (final_at rest first) (subtree_at rest there) ≡ true

pub no_member : (h : Heap) (at : List Key) (i : ℕ) (es : Finals) (bs : Branches) → all_fit kind.Set (plains_of es) ≡ true → homes_in h at kind.Set i es bs ≡ []
no_member h at i none bs f = refl
no_member h at i (entry k v es) tree.none f = refl
no_member h at i (entry k (prim j) es) (tree.branch l t bs) f = no_member h at (suc i) es bs (right_true _ _ f)
no_member h at i (entry k (frozen u) es) (tree.branch l t bs) f = no_member h at (suc i) es bs (right_true (fits kind.Set k (plain u)) _ f)
no_member h at i (entry k (object n of ds) es) (tree.branch l t bs) f = absurd (cc)

pub same_keys : (k l : Key) (v : Plain) (w : Plain) (es ds : plain_value.Entries) → plain_value.entry k v es ≡ plain_value.entry l w ds → (k ≡ l) × (v ≡ w) × (es ≡ ds)
same_keys k l v w es ds e = (cc, cc, cc)

here_listed : (h : Heap) (at : List Key) (n : ℕ) (of : Kind) (es : Finals) (t : Tree) (path : List Key) → among (home_here h at n t) path ≡ true → is_changed_home h (at ++ path) (final_at path (object n of es)) (subtree_at path t) ≡ true
here_listed h at n of es t path e = by (is_home h at n && has_other_number (source_in (h.object n)) t) refl e
  where
    by : (b : Bool) → (is_home h at n && has_other_number (source_in (h.object n)) t) ≡ b → among (if b then [] ∷ [] else []) path ≡ true → is_changed_home h (at ++ path) (final_at path (object n of es)) (subtree_at path t) ≡ true
    by false q x = absurd (cc)
    by true q x = subst (λ (p : List Key). is_changed_home h (at ++ p) (final_at p (object n of es)) (subtree_at p t) ≡ true) (nothing_left path x) (rw append-nil q)
      where
        nothing_left : (p : List Key) → among ([] ∷ []) p ≡ true → [] ≡ p
        nothing_left [] y = refl
        nothing_left (k ∷ p) y = absurd (cc)

inside_listed : (h : Heap) (at : List Key) (n : ℕ) (of : Kind) (es : Finals) (t : Tree) (path : List Key) → Listed h at of (entry_list es) t path → is_changed_home h (at ++ path) (final_at path (object n of es)) (subtree_at path t) ≡ true
inside_listed h at n of es t path l =
    let p = l.key ∷ l.rest in
    let first : final_at p (object n of es) ≡ final_at l.rest l.first = ap (then_final (final_at l.rest)) l.entry in
    let there : subtree_at p t ≡ subtree_at l.rest l.there = ap (then_subtree (subtree_at l.rest)) l.leads in
    let same : (at ++ l.key ∷ []) ++ l.rest ≡ at ++ p = append_assoc at (l.key ∷ []) l.rest in
    let here : is_changed_home h (at ++ p) (final_at p (object n of es)) (subtree_at p t) ≡ true = (λ i. is_changed_home h (sym same i) (first i) (there i)) ∙ l.changed in
    subst (λ (q : List Key). is_changed_home h (at ++ q) (final_at q (object n of es)) (subtree_at q t) ≡ true) (sym l.whole) here

-- the entries at their steps, in the result tree and in its state; a Set has none
record Both (h : Heap) (at : List Key) (of : Kind) (es : Finals) (bs : Branches) : Type 0 where
  finals : FinalFound of (entry_list es) 0 es
  trees : Found of (branch_list bs) 0 bs

both_found : (h : Heap) (at : List Key) (of : Kind) (es : Finals) (bs : Branches) → plains bs ≡ plains_of es → ascends_at of (list_of (plains_of es)) ≡ true → all_fit of (plains_of es) ≡ true → Both h at of es bs ⊎ (homes_in h at of 0 es bs ≡ [])
both_found h at kind.Obj es bs e s f = inl (record { finals = object_found (entry_list es) 0 es (all_found es s); trees = keys_found kind.Obj keyed_obj bs (ap (λ (x : plain_value.Entries). is_sorted key_cmp (list_of x)) e ∙ s) })
both_found h at kind.Map es bs e s f = inl (record { finals = map_found (entry_list es) 0 es (all_found es s); trees = keys_found kind.Map keyed_map bs (ap (λ (x : plain_value.Entries). is_sorted key_cmp (list_of x)) e ∙ s) })
both_found h at kind.List es bs e s f = inl (record { finals = list_found es; trees = indexes_found bs })
both_found h at kind.Set es bs e s f = inr (no_member h at 0 es bs f)

mutual
  pub homes_listed : (f : Final) (h : Heap) (at : List Key) (t : Tree) (path : List Key) → plain t ≡ plain_of f → well (plain_of f) ≡ true → among (homes h at f t) path ≡ true → is_changed_home h (at ++ path) (final_at path f) (subtree_at path t) ≡ true
  homes_listed (prim k) h at t path p w e = absurd (cc)
  homes_listed (frozen u) h at t path p w e = absurd (cc)
  homes_listed (object n of es) h at (tree.prim k) path p w e = absurd (cc)
  homes_listed (object n of es) h at (tree.node id to bs) path p w e =
      let t = tree.node id to bs in
      let kinds : to ≡ of = cc in
      let inside : plains bs ≡ plains_of es = cc in
      let first = left_true (ascends_at of (list_of (plains_of es)) && all_fit of (plains_of es)) (all_well (plains_of es)) w in
      let wells = right_true (ascends_at of (list_of (plains_of es)) && all_fit of (plains_of es)) (all_well (plains_of es)) w in
      let found = both_found h at of es bs inside (left_true (ascends_at of (list_of (plains_of es))) _ first) (right_true (ascends_at of (list_of (plains_of es))) _ first) in
      elim (among_both (home_here h at n t) (homes_in h at of 0 es bs) path e) [
        | inl x ↦ here_listed h at n of es t path x
        | inr x ↦ elim found [
          | inl b ↦ inside_listed h at n of es t path (entries_listed es h at of 0 bs (entry_list es) id to bs path kinds b.finals b.trees inside wells x)
          | inr none_there ↦ absurd (let q : among [] path ≡ true = subst (λ (ps : List (List Key)). among ps path ≡ true) none_there x in cc)
        ]
      ]

  entries_listed : (es : Finals) (h : Heap) (at : List Key) (of : Kind) (i : ℕ) (bs : Branches) (all : List (Key × Final)) (id : ℕ) (to : Kind) (alls : Branches) (path : List Key) → to ≡ of → FinalFound of all i es → Found of (branch_list alls) i bs → plains bs ≡ plains_of es → all_well (plains_of es) ≡ true
      → among (homes_in h at of i es bs) path ≡ true → Listed h at of all (tree.node id to alls) path
  entries_listed none h at of i bs all id to alls path q f g p w e = absurd (cc)
  entries_listed (entry k v es) h at of i tree.none all id to alls path q f g p w e = absurd (cc)
  entries_listed (entry k v es) h at of i (tree.branch l u bs) all id to alls path q f g p w e =
      let parts = same_keys l k (plain u) (plain_of v) (plains bs) (plains_of es) p in
      elim (among_both (all_below (step of i k) (homes h (at ++ step of i k ∷ []) v u)) (homes_in h at of (suc i) es bs) path e) [
        | inl x ↦
            let below = among_below (step of i k) (homes h (at ++ step of i k ∷ []) v u) path x in
            record {
              key = step of i k;
              rest = below.rest;
              first = v;
              there = u;
              whole = below.whole;
              entry = f.0;
              leads = ap (λ (a : Kind). subtree_in a (step of i k) (branch_list alls)) q ∙ ap (λ (a : Key). subtree_in of (step of i a) (branch_list alls)) (sym parts.0) ∙ g.0;
              changed = homes_listed v h (at ++ step of i k ∷ []) u below.rest parts.1 (left_true (well (plain_of v)) _ w) below.listed;
            }
        | inr x ↦ entries_listed es h at of (suc i) bs all id to alls path q f.1 g.1 parts.2 (right_true (well (plain_of v)) _ w) x
      ]
