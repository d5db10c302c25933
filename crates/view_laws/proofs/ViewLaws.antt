-- The law of views: the weights brought up to date have at each step what the weights from scratch have, and both ascend.
use Rattle.std.specs.Prelude.{◌≡◌, ℕ, ◌≤◌, ◌^◌, pos, negsuc, Bool, true, false, List, [], ◌∷◌, Option, Some, None, IsTrue, option_map, refl}
use Rattle.std.proofs.Common.{zero, suc, ap, sym, subst, ◌∙◌, arith, cond}
use Rattle.std.specs.Ordering.{eq_by_cmp}
use Rattle.std.specs.FinMap.Entries.{find, is_sorted, same_entries}
use lib.Dec.{T}
use Rattle.value_model.specs.declared.key.Key.{Key}
use Rattle.value_model.specs.declared.key.Key.TheVariants as key
use Rattle.value_model.specs.declared.kind.Kind.{Kind}
use Rattle.value_model.specs.declared.kind.Kind.TheVariants as kind
use Rattle.value_model.specs.Limits.{value_limit}
use Rattle.value_model.specs.Order.{key_cmp, key_total, key_exact}
use Rattle.value_model.specs.Places.{at, then_at, child_at}
use Rattle.value_model.specs.Plain.{Plain, Entries, prim, node, none, entry, list_of}
use Rattle.value_model.specs.Search.{left_true, right_true}
use Rattle.value_model.specs.Well.{well, all_well}
use Rattle.values.specs.declared.patch.Patch.{Patch}
use Rattle.guards_views_spec.specs.declared.Weigh.{Weigh}
use Rattle.guards_views_spec.specs.Views.{Weights, weighs, weights_of, total, scratch, updated}
use Rattle.derived_views.specs.Accepted.{AllAccepted}
use Rattle.derived_views.proofs.Limits.{children_accepted, light_entries}
use Rattle.derived_views.proofs.Scratch.{sorted_same, indexes_sorted, sum_at_most}
use Rattle.view_laws.specs.Standing.{entry_at, standing}
use Rattle.view_laws.specs.Step.{Step}
use Rattle.view_laws.proofs.EditLaws.{element_at}
use Rattle.view_laws.proofs.KeptLaws.{AscendsAt}
use Rattle.view_laws.proofs.ListLaws.{Left, left, applied_leads}
use Rattle.view_laws.proofs.WeightLaws.{found, updated_sorted, updated_right}

-- ---- what holds of each entry's value holds of every child
abbrev AllIn : (Plain → Type 0) → Entries → Type 0
AllIn P none = Unit {0}
AllIn P (entry k v es) = P v × AllIn P es

module _ (P : Plain → Type 0) where
  by_test : (b : Bool) (v w : Plain) (o : Option Plain) → P v → (o ≡ Some w → P w) → cond b (Some v) o ≡ Some w → P w
  by_test true v w o h more e = let same : v ≡ w = cc in subst P same h
  by_test false v w o h more e = more e

  of_found : (k : Key) (es : Entries) (w : Plain) → AllIn P es → find key_cmp k (list_of es) ≡ Some w → P w
  of_found k none w h e = absurd (cc)
  of_found k (entry j v es) w h e = by_test (eq_by_cmp key_cmp k j) v w (find key_cmp k (list_of es)) h.0 (of_found k es w h.1) e

  of_element : (n : ℕ) (es : Entries) (w : Plain) → AllIn P es → element_at n (list_of es) ≡ Some w → P w
  of_element n none w h e = absurd (cc)
  of_element zero (entry j v es) w h e = let same : v ≡ w = cc in subst P same h.0
  of_element (suc n) (entry j v es) w h e = of_element n es w h.1 e

  of_child : (kind : Kind) (k : Key) (es : Entries) (w : Plain) → AllIn P es → child_at kind k (list_of es) ≡ Some w → P w
  of_child kind.Obj k es w h e = of_found k es w h e
  of_child kind.Map k es w h e = of_found k es w h e
  of_child kind.Set k es w h e = absurd (cc)
  of_child kind.List (key.Int (pos n)) es w h e = of_element n es w h e
  of_child kind.List (key.Int (negsuc n)) es w h e = absurd (cc)
  of_child kind.List key.Null es w h e = absurd (cc)
  of_child kind.List (key.Bool b) es w h e = absurd (cc)
  of_child kind.List (key.Text s) es w h e = absurd (cc)

-- a fact of a value that its children have holds at every path
abbrev AtPath : (Plain → Type 0) → Option Plain → Type 0
AtPath P None = Unit {0}
AtPath P (Some v) = P v

module _ (P : Plain → Type 0) (inside : (kind : Kind) (es : Entries) → P (node kind es) → AllIn P es) where
  on_way : (path : List Key) (o : Option Plain) → ((w : Plain) → o ≡ Some w → AtPath P (at path w)) → AtPath P (then_at (at path) o)
  on_way path None h = tt
  on_way path (Some w) h = h w refl

  holds_at : (path : List Key) (v : Plain) → P v → AtPath P (at path v)
  holds_at [] v h = h
  holds_at (k ∷ path) (prim j) h = tt
  holds_at (k ∷ path) (node kind es) h = on_way path (child_at kind k (list_of es)) (λ w e. holds_at path w (of_child P kind k es w (inside kind es h) e))

-- ---- the keys ascend at every path
abbrev IsWell : Plain → Type 0
IsWell v = IsTrue (well v)

all_in : (es : Entries) → IsTrue (all_well es) → AllIn IsWell es
all_in none h = tt
all_in (entry k v es) h = (left_true _ _ h, all_in es (right_true _ _ h))

well_inside : (kind : Kind) (es : Entries) → IsWell (node kind es) → AllIn IsWell es
well_inside kind es h = all_in es (right_true _ _ h)

ascending : (o : Option Plain) → AtPath IsWell o → AscendsAt o
ascending None h = tt
ascending (Some (prim k)) h = tt
ascending (Some (node kind es)) h = left_true _ _ (left_true _ _ h)

well_at : (path : List Key) (v : Plain) → IsWell v → AscendsAt (at path v)
well_at path v h = ascending (at path v) (holds_at IsWell well_inside path v h)

-- ---- the weights ascend
weights_sorted : (w : Weigh) (o : Option Plain) → AscendsAt o → IsTrue (is_sorted key_cmp (weights_of w o))
weights_sorted w None h = refl
weights_sorted w (Some (prim j)) h = refl
weights_sorted w (Some (node kind.Obj es)) h = sorted_same w kind.Obj (λ i k. refl) 0 es ∙ h
weights_sorted w (Some (node kind.List es)) h = indexes_sorted w 0 es
weights_sorted w (Some (node kind.Map es)) h = sorted_same w kind.Map (λ i k. refl) 0 es ∙ h
weights_sorted w (Some (node kind.Set es)) h = sorted_same w kind.Set (λ i k. refl) 0 es ∙ h

-- ---- the law
same_weights : (ds es : Weights) → IsTrue (is_sorted key_cmp ds) → IsTrue (is_sorted key_cmp es) → ((k : Key) → find key_cmp k ds ≡ find key_cmp k es) → ds ≡ es
same_weights ds es p q h = same_entries key_cmp key_total key_exact ds es (subst T (sym p) tt) (subst T (sym q) tt) h

pub view_kept : (path : List Key) (w : Weigh) (patches : List Patch) (old new : Plain) (keys : List Key) → Step path patches old new keys → updated w (standing path new keys) (weights_of w (at path old)) ≡ weights_of w (at path new)
view_kept path w patches old new keys s =
    let l : Left path [] keys old new = left path patches [] keys old new s.touches s.placed (applied_leads path patches keys old new s.touches s.makes) in
    let before : AscendsAt (at path old) = well_at path old s.ascends in
    same_weights _ _ (updated_sorted w (λ k. entry_at k (at path new)) keys _ (weights_sorted w (at path old) before)) (weights_sorted w (at path new) (l.ascends before))
    (λ k. updated_right w (λ j. entry_at j (at path new)) k keys (weights_of w (at path old)) (λ n. found w k (at path old) ∙ ap (option_map (weighs w)) (sym (l.others k n)))
    ∙ sym (found w k (at path new)))

-- ---- sums within the limits
abbrev IsAccepted : Plain → Type 0
IsAccepted v = value_limit v ≡ None

all_accepted : (es : Entries) → AllAccepted es → AllIn IsAccepted es
all_accepted none h = tt
all_accepted (entry k v es) h = (h.0, all_accepted es h.1)

accepted_inside : (kind : Kind) (es : Entries) → IsAccepted (node kind es) → AllIn IsAccepted es
accepted_inside kind es h = all_accepted es (children_accepted kind es h)

small_sum : (w : Weigh) (o : Option Plain) → AtPath IsAccepted o → total (weights_of w o) ≤ 2 ^ 20
small_sum w None h = omega arith
small_sum w (Some (prim k)) h = omega arith
small_sum w (Some (node kind es)) h = let a = sum_at_most w kind 0 es in let b = light_entries kind es h in omega (arith, a, b)

pub small : (path : List Key) (w : Weigh) (v : Plain) → value_limit v ≡ None → scratch path w v ≤ 2 ^ 20
small path w v h = small_sum w (at path v) (holds_at IsAccepted accepted_inside path v h)
