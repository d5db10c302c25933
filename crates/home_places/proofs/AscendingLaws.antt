-- The list of home places ascends.
use Rattle.std.proofs.Common.{◌≡◌, ℕ, suc, ◌<◌, pos, List, [], ◌∷◌, ◌++◌, refl, ap, sym, ◌∙◌, subst, arith, Bool, true, false, Less, Ordering}
use Rattle.std.specs.Prelude.{◌&&◌, if◌then◌else◌, nat_lt, ⊤}
use Rattle.std.specs.FinMap.Entries.{is_sorted, below_all}
use Rattle.std.specs.Ordering.{is_lt, ordering_then}
use Rattle.std.specs.Cmp.Lexicographic.{slice_cmp}
use Rattle.std.proofs.lemmas.Cmp.{tied_itself}
use Rattle.value_model.specs.declared.key.Key.{Key}
use Rattle.value_model.specs.declared.key.Key.TheVariants as key
use Rattle.value_model.specs.declared.kind.Kind.{Kind}
use Rattle.value_model.specs.declared.kind.Kind.TheVariants as kind
use Rattle.value_model.specs.Order.{key_cmp, key_total}
use Rattle.value_model.specs.Places.{ascends_at}
use Rattle.value_model.specs.Plain.{list_of}
use Rattle.value_model.specs.Search.{left_true, right_true, less_from_test}
use Rattle.value_model.specs.Well.{all_fit, well, all_well}
use Rattle.numbered.specs.Tree as tree
use Rattle.numbered.specs.Tree.{Tree, Branches, branches_of}
use Rattle.run_heap.specs.Heap.{Heap}
use Rattle.run_heap.specs.Operations.{source_in}
use Rattle.run_heap.specs.Places.{step}
use Rattle.result_trees.specs.Final.{Final, Finals, prim, frozen, object, none, entry, plain_of, plains_of}
use Rattle.home_places.specs.Homes.{is_home, has_other_number, home_here, all_below, homes, homes_in}
use Rattle.home_places.specs.Paths.{IsBefore, AllBehind, AreAscending}
use Rattle.home_places.proofs.ListedLaws.{no_member}

-- ---- lists of paths
-- each begins with a key behind this one
abbrev BeginBehind : Key → List (List Key) → Type 0
BeginBehind x [] = ⊤
BeginBehind x ([] ∷ ps) = ⊥
BeginBehind x ((k ∷ p) ∷ ps) = (key_cmp x k ≡ Less) × BeginBehind x ps

first_less : (x k : Key) (p q : List Key) → key_cmp x k ≡ Less → IsBefore (x ∷ p) (k ∷ q)
first_less x k p q e = ap (λ (o : Ordering). ordering_then o (slice_cmp key_cmp p q)) e

same_first : (k : Key) (p q : List Key) → IsBefore p q → IsBefore (k ∷ p) (k ∷ q)
same_first k p q e = ap (λ (o : Ordering). ordering_then o (slice_cmp key_cmp p q)) (tied_itself key_total k) ∙ e

below_behind : (k : Key) (p : List Key) (qs : List (List Key)) → AllBehind p qs → AllBehind (k ∷ p) (all_below k qs)
below_behind k p [] a = tt
below_behind k p (q ∷ qs) a = (same_first k p q a.0, below_behind k p qs a.1)

below_ascends : (k : Key) (ps : List (List Key)) → AreAscending ps → AreAscending (all_below k ps)
below_ascends k [] a = tt
below_ascends k (p ∷ ps) a = (below_behind k p ps a.0, below_ascends k ps a.1)

begin_behind : (k : Key) (p : List Key) (qs : List (List Key)) → BeginBehind k qs → AllBehind (k ∷ p) qs
begin_behind k p [] b = tt
begin_behind k p ([] ∷ qs) b = absurd b
begin_behind k p ((j ∷ q) ∷ qs) b = (first_less k j p q b.0, begin_behind k p qs b.1)

behind_both : (p : List Key) (qs rs : List (List Key)) → AllBehind p qs → AllBehind p rs → AllBehind p (qs ++ rs)
behind_both p [] rs a b = b
behind_both p (q ∷ qs) rs a b = (a.0, behind_both p qs rs a.1 b)

both_ascend : (k : Key) (ps qs : List (List Key)) → AreAscending (all_below k ps) → AreAscending qs → BeginBehind k qs → AreAscending (all_below k ps ++ qs)
both_ascend k [] qs a b c = b
both_ascend k (p ∷ ps) qs a b c = (behind_both (k ∷ p) (all_below k ps) qs a.0 (begin_behind k p qs c), both_ascend k ps qs a.1 b c)

begin_both : (x : Key) (ps qs : List (List Key)) → BeginBehind x ps → BeginBehind x qs → BeginBehind x (ps ++ qs)
begin_both x [] qs a b = b
begin_both x ([] ∷ ps) qs a b = absurd a
begin_both x ((k ∷ p) ∷ ps) qs a b = (a.0, begin_both x ps qs a.1 b)

begin_below : (x k : Key) (ps : List (List Key)) → key_cmp x k ≡ Less → BeginBehind x (all_below k ps)
begin_below x k [] e = tt
begin_below x k (p ∷ ps) e = (e, begin_below x k ps e)

-- ---- the steps ascend
abbrev StepsBehind : Key → Kind → ℕ → Finals → Type 0
StepsBehind x of i none = ⊤
StepsBehind x of i (entry k v es) = (key_cmp x (step of i k) ≡ Less) × StepsBehind x of (suc i) es

abbrev StepsAscend : Kind → ℕ → Finals → Type 0
StepsAscend of i none = ⊤
StepsAscend of i (entry k v es) = StepsBehind (step of i k) of (suc i) es × StepsAscend of (suc i) es

index_less : (i j : ℕ) → i < j → key_cmp (key.Int (pos i)) (key.Int (pos j)) ≡ Less
index_less i j l = let t : nat_lt i j ≡ true = grind (arith, l) in rw t refl

indexes_behind : (m i : ℕ) (es : Finals) → m < i → StepsBehind (key.Int (pos m)) kind.List i es
indexes_behind m i none l = tt
indexes_behind m i (entry k v es) l = (index_less m i l, indexes_behind m (suc i) es (omega (arith, l)))

indexes_ascend : (i : ℕ) (es : Finals) → StepsAscend kind.List i es
indexes_ascend i none = tt
indexes_ascend i (entry k v es) = (indexes_behind i (suc i) es (omega arith), indexes_ascend (suc i) es)

object_behind : (x : Key) (i : ℕ) (es : Finals) → below_all key_cmp x (list_of (plains_of es)) ≡ true → StepsBehind x kind.Obj i es
object_behind x i none b = tt
object_behind x i (entry k v es) b = (less_from_test (key_cmp x k) (left_true (is_lt (key_cmp x k)) _ b), object_behind x (suc i) es (right_true (is_lt (key_cmp x k)) _ b))

object_ascends : (i : ℕ) (es : Finals) → is_sorted key_cmp (list_of (plains_of es)) ≡ true → StepsAscend kind.Obj i es
object_ascends i none s = tt
object_ascends i (entry k v es) s = (object_behind k (suc i) es (left_true (below_all key_cmp k (list_of (plains_of es))) _ s), object_ascends (suc i) es (right_true (below_all key_cmp k (list_of (plains_of es))) _ s))

map_behind : (x : Key) (i : ℕ) (es : Finals) → below_all key_cmp x (list_of (plains_of es)) ≡ true → StepsBehind x kind.Map i es
map_behind x i none b = tt
map_behind x i (entry k v es) b = (less_from_test (key_cmp x k) (left_true (is_lt (key_cmp x k)) _ b), map_behind x (suc i) es (right_true (is_lt (key_cmp x k)) _ b))

map_ascends : (i : ℕ) (es : Finals) → is_sorted key_cmp (list_of (plains_of es)) ≡ true → StepsAscend kind.Map i es
map_ascends i none s = tt
map_ascends i (entry k v es) s = (map_behind k (suc i) es (left_true (below_all key_cmp k (list_of (plains_of es))) _ s), map_ascends (suc i) es (right_true (below_all key_cmp k (list_of (plains_of es))) _ s))

-- ---- the places
entries_behind : (x : Key) (h : Heap) (at : List Key) (of : Kind) (i : ℕ) (es : Finals) (bs : Branches) → StepsBehind x of i es → BeginBehind x (homes_in h at of i es bs)
entries_behind x h at of i none bs s = tt
entries_behind x h at of i (entry k v es) tree.none s = tt
entries_behind x h at of i (entry k v es) (tree.branch j t bs) s =
    begin_both x (all_below (step of i k) (homes h (at ++ step of i k ∷ []) v t)) (homes_in h at of (suc i) es bs)
    (begin_below x (step of i k) (homes h (at ++ step of i k ∷ []) v t) s.0) (entries_behind x h at of (suc i) es bs s.1)

-- the root of a list of paths comes before all that go on
root_first : (x : Key) (ps : List (List Key)) → BeginBehind x ps → AllBehind [] ps
root_first x [] b = tt
root_first x ([] ∷ ps) b = absurd b
root_first x ((k ∷ p) ∷ ps) b = (refl, root_first x ps b.1)

abbrev AllLonger : List (List Key) → Type 0
AllLonger [] = ⊤
AllLonger ([] ∷ ps) = ⊥
AllLonger ((k ∷ p) ∷ ps) = AllLonger ps

longer_behind : (ps : List (List Key)) → AllLonger ps → AllBehind [] ps
longer_behind [] a = tt
longer_behind ([] ∷ ps) a = absurd a
longer_behind ((k ∷ p) ∷ ps) a = (refl, longer_behind ps a)

longer_both : (ps qs : List (List Key)) → AllLonger ps → AllLonger qs → AllLonger (ps ++ qs)
longer_both [] qs a b = b
longer_both ([] ∷ ps) qs a b = absurd a
longer_both ((k ∷ p) ∷ ps) qs a b = longer_both ps qs a b

longer_below : (k : Key) (ps : List (List Key)) → AllLonger (all_below k ps)
longer_below k [] = tt
longer_below k (p ∷ ps) = longer_below k ps

entries_longer : (h : Heap) (at : List Key) (of : Kind) (i : ℕ) (es : Finals) (bs : Branches) → AllLonger (homes_in h at of i es bs)
entries_longer h at of i none bs = tt
entries_longer h at of i (entry k v es) tree.none = tt
entries_longer h at of i (entry k v es) (tree.branch j t bs) =
    longer_both (all_below (step of i k) (homes h (at ++ step of i k ∷ []) v t)) (homes_in h at of (suc i) es bs) (longer_below (step of i k) (homes h (at ++ step of i k ∷ []) v t)) (entries_longer h at of (suc i) es bs)

here_ascends : (h : Heap) (at : List Key) (n : ℕ) (t : Tree) (ps : List (List Key)) → AllBehind [] ps → AreAscending ps → AreAscending (home_here h at n t ++ ps)
here_ascends h at n t ps a b = elim (is_home h at n && has_other_number (source_in (h.object n)) t) as (λ (x : Bool). AreAscending ((if x then [] ∷ [] else []) ++ ps)) [ true ↦ (a, b) | false ↦ b ]

abbrev AllAscend : Heap → List Key → Kind → ℕ → Finals → Branches → Type 0
AllAscend h at of i es bs = AreAscending (homes_in h at of i es bs)

kind_ascends : (es : Finals) (of : Kind) (h : Heap) (at : List Key) (bs : Branches) → ascends_at of (list_of (plains_of es)) ≡ true → all_fit of (plains_of es) ≡ true → (StepsAscend of 0 es → AllAscend h at of 0 es bs) → AllAscend h at of 0 es bs
kind_ascends es kind.Obj h at bs s f law = law (object_ascends 0 es s)
kind_ascends es kind.Map h at bs s f law = law (map_ascends 0 es s)
kind_ascends es kind.List h at bs s f law = law (indexes_ascend 0 es)
kind_ascends es kind.Set h at bs s f law = subst AreAscending (sym (no_member h at 0 es bs f)) tt

mutual
  pub homes_ascend : (f : Final) (h : Heap) (at : List Key) (t : Tree) → well (plain_of f) ≡ true → AreAscending (homes h at f t)
  homes_ascend (prim k) h at t w = tt
  homes_ascend (frozen u) h at t w = tt
  homes_ascend (object n of es) h at t w =
      let first = left_true (ascends_at of (list_of (plains_of es)) && all_fit of (plains_of es)) (all_well (plains_of es)) w in
      let wells = right_true (ascends_at of (list_of (plains_of es)) && all_fit of (plains_of es)) (all_well (plains_of es)) w in
      let rest = kind_ascends es of h at (branches_of t) (left_true (ascends_at of (list_of (plains_of es))) _ first) (right_true (ascends_at of (list_of (plains_of es))) _ first) (λ a. entries_ascend es of h at 0 (branches_of t) a wells) in
      here_ascends h at n t (homes_in h at of 0 es (branches_of t)) (longer_behind (homes_in h at of 0 es (branches_of t)) (entries_longer h at of 0 es (branches_of t))) rest

  pub entries_ascend : (es : Finals) (of : Kind) (h : Heap) (at : List Key) (i : ℕ) (bs : Branches) → StepsAscend of i es → all_well (plains_of es) ≡ true → AllAscend h at of i es bs
  entries_ascend none of h at i bs s w = tt
  entries_ascend (entry k v es) of h at i tree.none s w = tt
  entries_ascend (entry k v es) of h at i (tree.branch j t bs) s w =
      let first = homes_ascend v h (at ++ step of i k ∷ []) t (left_true (well (plain_of v)) _ w) in
      let rest = entries_ascend es of h at (suc i) bs s.1 (right_true (well (plain_of v)) _ w) in
      both_ascend (step of i k) (homes h (at ++ step of i k ∷ []) v t) (homes_in h at of (suc i) es bs)
      (below_ascends (step of i k) (homes h (at ++ step of i k ∷ []) v t) first) rest (entries_behind (step of i k) h at of (suc i) es bs s.0)
