-- A path leads in a numbered state where it leads in the plain value.
use Rattle.std.proofs.Common.{◌≡◌, ℕ, ℤ, pos, negsuc, List, [], ◌∷◌, map, ap, refl, sym, ◌∙◌, Bool, true, false, cond}
use Rattle.std.specs.Prelude.{Option, Some, None, option_map, slice_get}
use Rattle.std.specs.FinMap.Entries.{find}
use Rattle.std.specs.Ordering.{eq_by_cmp}
use Rattle.std.proofs.lemmas.Option.{slice_get-map}
use Rattle.value_model.specs.declared.key.Key.{Key}
use Rattle.value_model.specs.declared.key.Key.TheVariants as key
use Rattle.value_model.specs.declared.kind.Kind.{Kind}
use Rattle.value_model.specs.declared.kind.Kind.TheVariants as kind
use Rattle.value_model.specs.Order.{key_cmp}
use Rattle.value_model.specs.Places.{child_at, child, then_at, at}
use Rattle.value_model.specs.Plain.{Plain, Table, list_of}
use Rattle.numbered.specs.Tree.{Tree, Branches, prim, node, none, branch, plain, plains}
use Rattle.host_machine.specs.Paths.{branch_list, subtree_in, subtree, then_subtree, subtree_at}

-- an entry without the numbers
abbrev shown : Key × Tree → Key × Plain
shown e = (e.0, plain e.1)

listed : (es : Branches) → list_of (plains es) ≡ map shown (branch_list es)
listed none = refl
listed (branch k v es) = ap (λ (ds : Table). (k, plain v) ∷ ds) (listed es)

found_at : (b : Bool) (e : Key × Tree) (o : Option Tree) → cond b (Some (plain e.1)) (option_map plain o) ≡ option_map plain (cond b (Some e.1) o)
found_at true e o = refl
found_at false e o = refl

found : (k : Key) (es : List (Key × Tree)) → find key_cmp k (map shown es) ≡ option_map plain (find key_cmp k es)
found k [] = refl
found k (e ∷ es) = ap (λ (o : Option Plain). cond (eq_by_cmp key_cmp k e.0) (Some (plain e.1)) o) (found k es) ∙ found_at (eq_by_cmp key_cmp k e.0) e (find key_cmp k es)

values_shown : (es : List (Key × Tree)) → map (λ (e : Key × Plain). e.1) (map shown es) ≡ map plain (map (λ (e : Key × Tree). e.1) es)
values_shown [] = refl
values_shown (e ∷ es) = ap (λ (vs : List Plain). plain e.1 ∷ vs) (values_shown es)

element : (i : ℕ) (es : List (Key × Tree)) → slice_get (map (λ (e : Key × Plain). e.1) (map shown es)) i ≡ option_map plain (slice_get (map (λ (e : Key × Tree). e.1) es) i)
element i es = ap (λ (vs : List Plain). slice_get vs i) (values_shown es) ∙ slice_get-map plain (map (λ (e : Key × Tree). e.1) es) i

step_in : (kind : Kind) (k : Key) (es : List (Key × Tree)) → child_at kind k (map shown es) ≡ option_map plain (subtree_in kind k es)
step_in kind.List (key.Int (pos i)) es = element i es
step_in kind.List (key.Int (negsuc i)) es = refl
step_in kind.List key.Null es = refl
step_in kind.List (key.Bool b) es = refl
step_in kind.List (key.Text s) es = refl
step_in kind.Set k es = refl
step_in kind.Obj k es = found k es
step_in kind.Map k es = found k es

step : (k : Key) (t : Tree) → child k (plain t) ≡ option_map plain (subtree k t)
step k (prim j) = refl
step k (node id kind es) = ap (child_at kind k) (listed es) ∙ step_in kind k (branch_list es)

then_along : (path : List Key) (o : Option Tree) → ((t : Tree) → at path (plain t) ≡ option_map plain (subtree_at path t)) → then_at (at path) (option_map plain o) ≡ option_map plain (then_subtree (subtree_at path) o)
then_along path None h = refl
then_along path (Some t) h = h t

pub at_plain : (path : List Key) (t : Tree) → at path (plain t) ≡ option_map plain (subtree_at path t)
at_plain [] t = refl
at_plain (k ∷ path) t = ap (then_at (at path)) (step k t) ∙ then_along path (subtree k t) (at_plain path)
