-- The steps to a container's entries: each leads to its own entry.
use Rattle.std.proofs.Common.{◌≡◌, ◌≢◌, ℕ, suc, List, [], ◌∷◌, ap, refl, sym, ◌∙◌, subst, Bool, true, cond, Option, Some, None, Less}
use Rattle.std.specs.Prelude.{◌&&◌, ⊤, option_map}
use Rattle.std.specs.Ordering.{is_lt}
use Rattle.std.specs.FinMap.Entries.{find, is_sorted, below_all}
use Rattle.std.proofs.lemmas.Cmp.{tied_itself}
use Rattle.value_model.specs.declared.key.Key.{Key}
use Rattle.value_model.specs.declared.kind.Kind.{Kind}
use Rattle.value_model.specs.declared.kind.Kind.TheVariants as kind
use Rattle.value_model.specs.Order.{key_cmp, key_total}
use Rattle.value_model.specs.Places.{ascends_at, child, then_at, at}
use Rattle.value_model.specs.Plain.{Plain, list_of}
use Rattle.value_model.specs.Search.{left_true, right_true, less_from_test}
use Rattle.value_model.proofs.Tables.{is_eq-same, is_eq-other}
use Rattle.value_model.specs.Well.{all_fit, all_well, well}
use Rattle.numbered.specs.Laws.{well_at}
use Rattle.numbered.proofs.Laws.{children_of}
use Rattle.numbered.specs.Store.{IsStore, IsOf, AllOf}
use Rattle.numbered.specs.Tree.{Tree, Branches, node, none, branch, plain, plains}
use Rattle.host_machine.specs.Paths.{branch_list, subtree_in, subtree, then_subtree, subtree_at}
use Rattle.host_machine.proofs.PathLaws.{at_plain}
use Rattle.run_heap.specs.Places.{step}

-- ---- one step, in a numbered state and in its plain value
then_nothing : (o : Option Plain) → then_at (at []) o ≡ o
then_nothing None = refl
then_nothing (Some v) = refl

then_here : (o : Option Tree) → then_subtree (subtree_at []) o ≡ o
then_here None = refl
then_here (Some t) = refl

pub child_plain : (k : Key) (t : Tree) → child k (plain t) ≡ option_map plain (subtree k t)
child_plain k t = sym (then_nothing (child k (plain t))) ∙ at_plain (k ∷ []) t ∙ ap (option_map plain) (then_here (subtree k t))

-- ---- each step leads to its entry among these
abbrev pub Found : Kind → List (Key × Tree) → ℕ → Branches → Type 0
Found of all i none = ⊤
Found of all i (branch k v es) = (subtree_in of (step of i k) all ≡ Some v) × Found of all (suc i) es

shift : (e : Key × Tree) (all : List (Key × Tree)) (i : ℕ) (es : Branches) → Found kind.List all i es → Found kind.List (e ∷ all) (suc i) es
shift e all i none f = tt
shift e all i (branch k v es) f = (f.0, shift e all (suc i) es f.1)

pub indexes_found : (es : Branches) → Found kind.List (branch_list es) 0 es
indexes_found none = tt
indexes_found (branch k v es) = (refl, shift (k, v) (branch_list es) 0 es (indexes_found es))

-- the steps of such a container are its keys
pub record IsKeyed (of : Kind) : Type 0 where
  pub steps : (i : ℕ) (k : Key) → step of i k ≡ k
  pub looks : (k : Key) (es : List (Key × Tree)) → subtree_in of k es ≡ find key_cmp k es

pub keyed_obj : IsKeyed kind.Obj
keyed_obj = record { steps = λ i k. refl; looks = λ k es. refl }

pub keyed_map : IsKeyed kind.Map
keyed_map = record { steps = λ i k. refl; looks = λ k es. refl }

below_listed : (x : Key) (es : Branches) → below_all key_cmp x (list_of (plains es)) ≡ below_all key_cmp x (branch_list es)
below_listed x none = refl
below_listed x (branch k v es) = ap (λ (b : Bool). is_lt (key_cmp x k) && b) (below_listed x es)

pub sorted_listed : (es : Branches) → is_sorted key_cmp (list_of (plains es)) ≡ is_sorted key_cmp (branch_list es)
sorted_listed none = refl
sorted_listed (branch k v es) = λ i. below_listed k es i && sorted_listed es i

pub less_other : (x k : Key) → is_lt (key_cmp x k) ≡ true → k ≢ x
less_other x k h e =
    let less : key_cmp x x ≡ Less = subst (λ (j : Key). key_cmp x j ≡ Less) e (less_from_test (key_cmp x k) h) in
    let same = tied_itself key_total x in
    absurd (cc)

abbrev KeysFound : List (Key × Tree) → Branches → Type 0
KeysFound all none = ⊤
KeysFound all (branch k v es) = (find key_cmp k all ≡ Some v) × KeysFound all es

skip : (e : Key × Tree) (all : List (Key × Tree)) (es : Branches) → below_all key_cmp e.0 (branch_list es) ≡ true → KeysFound all es → KeysFound (e ∷ all) es
skip e all none b f = tt
skip e all (branch k v es) b f =
    let other = is_eq-other k e.0 (less_other e.0 k (left_true (is_lt (key_cmp e.0 k)) _ b)) in
    (ap (λ (c : Bool). cond c (Some e.1) (find key_cmp k all)) other ∙ f.0, skip e all es (right_true (is_lt (key_cmp e.0 k)) _ b) f.1)

keys_found_all : (es : Branches) → is_sorted key_cmp (branch_list es) ≡ true → KeysFound (branch_list es) es
keys_found_all none s = tt
keys_found_all (branch k v es) s = (
  ap (λ (c : Bool). cond c (Some v) (find key_cmp k (branch_list es))) (is_eq-same k),
  skip (k, v) (branch_list es) es (left_true (below_all key_cmp k (branch_list es)) _ s) (keys_found_all es (right_true (below_all key_cmp k (branch_list es)) _ s)),
)

to_found : (of : Kind) → IsKeyed of → (all : List (Key × Tree)) (i : ℕ) (es : Branches) → KeysFound all es → Found of all i es
to_found of keyed all i none f = tt
to_found of keyed all i (branch k v es) f = (ap (λ (j : Key). subtree_in of j all) (keyed.steps i k) ∙ keyed.looks k all ∙ f.0, to_found of keyed all (suc i) es f.1)

pub keys_found : (of : Kind) → IsKeyed of → (es : Branches) → is_sorted key_cmp (list_of (plains es)) ≡ true → Found of (branch_list es) 0 es
keys_found of keyed es s = to_found of keyed (branch_list es) 0 es (keys_found_all es (sym (sorted_listed es) ∙ s))

-- ---- what a store's container is
pub record IsInStore (ts : List Tree) (of : Kind) (es : Branches) : Type 0 where
  pub all : AllOf ts es
  pub ascends : ascends_at of (list_of (plains es)) ≡ true
  pub fit : all_fit of (plains es) ≡ true

pub container_of : (ts : List Tree) (id : ℕ) (of : Kind) (es : Branches) → IsStore ts → IsOf ts (node id of es) → IsInStore ts of es
container_of ts id of es s o =
    let wells : well (plain (node id of es)) ≡ true = subst (λ (t : Tree). well (plain t) ≡ true) o.1 (well_at ts id s o.0) in
    let first = left_true (ascends_at of (list_of (plains es)) && all_fit of (plains es)) (all_well (plains es)) wells in
    record {
      all = children_of ts id of es s o;
      ascends = left_true (ascends_at of (list_of (plains es))) (all_fit of (plains es)) first;
      fit = right_true (ascends_at of (list_of (plains es))) (all_fit of (plains es)) first;
    }
