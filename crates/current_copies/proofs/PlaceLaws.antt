-- What holds of a tree of sources, and of each of its places.
use Rattle.std.proofs.Common.{◌≡◌, ◌≢◌, ℕ, zero, suc, ◌-◌, ◌<◌, ◌≤◌, refl, subst, arith, true, false, Some, None, ◌⊎◌, inr}
use Rattle.std.specs.Prelude.{List, nat_lt, ⊤, ◌||◌, ◌&&◌, if◌then◌else◌}
use Rattle.std.proofs.lemmas.Bool.{or_parts}
use Rattle.value_model.specs.declared.key.Key.{Key}
use Rattle.value_model.specs.declared.kind.Kind.{Kind}
use Rattle.value_model.specs.Limits.{is_long_key, is_reserved_at, has_long_key, any_long_key, has_reserved_key, any_reserved_key}
use Rattle.value_model.specs.Places.{ascends_at}
use Rattle.value_model.specs.Plain.{list_of}
use Rattle.value_model.specs.Search.{left_true, right_true}
use Rattle.value_model.specs.Well.{well, all_well, all_fit}
use Rattle.numbered.proofs.Laws.{children_of}
use Rattle.numbered.specs.Store.{IsStore, IsOf, AllOf}
use Rattle.numbered.specs.Tree.{Tree, Branches, prim, node, none, branch, plain, plains, containers, containers_in, place, place_in}
use Rattle.result_trees.proofs.OrderLaws.{InOrder}
use Rattle.current_copies.specs.Copies.{made_at}

-- ---- each container is one of the store, or has the number 0
abbrev mutual
  pub IsSourced : List Tree → Tree → Type 0
  IsSourced ts (prim k) = ⊤
  IsSourced ts (node id of es) = ((id ≡ 0) ⊎ IsOf ts (node id of es)) × AllSourced ts es

  pub AllSourced : List Tree → Branches → Type 0
  AllSourced ts none = ⊤
  AllSourced ts (branch k v es) = IsSourced ts v × AllSourced ts es

module _ (ts : List Tree) (s : IsStore ts) where
  mutual
    pub store_sourced : (t : Tree) → IsOf ts t → IsSourced ts t
    store_sourced (prim k) o = tt
    store_sourced (node id of es) o = (inr o, all_sourced es (children_of ts id of es s o))

    pub all_sourced : (es : Branches) → AllOf ts es → AllSourced ts es
    all_sourced none a = tt
    all_sourced (branch k v es) a = (store_sourced v a.0, all_sourced es a.1)

mutual
  pub place_sourced : (ts : List Tree) (n : ℕ) (t u : Tree) → IsSourced ts t → place n t ≡ Some u → IsSourced ts u
  place_sourced ts n (prim k) u a h = absurd (cc)
  place_sourced ts zero (node id of es) u a h = let e : node id of es ≡ u = cc in subst (IsSourced ts) e a
  place_sourced ts (suc n) (node id of es) u a h = place_in_sourced ts n es u a.1 h

  pub place_in_sourced : (ts : List Tree) (n : ℕ) (es : Branches) (u : Tree) → AllSourced ts es → place_in n es ≡ Some u → IsSourced ts u
  place_in_sourced ts n none u a h = absurd (cc)
  place_in_sourced ts n (branch k v es) u a h = elim (nat_lt n (containers v)) as (λ b. nat_lt n (containers v) ≡ b → IsSourced ts u) [
    | true ↦ λ p. place_sourced ts n v u a.0 (rw p at h)
    | false ↦ λ p. place_in_sourced ts (n - containers v) es u a.1 (rw p at h)
  ] refl

-- ---- each place is in order where the whole is
pub record AreOrdered (of : Kind) (es : Branches) : Type 0 where
  pub long : any_long_key (plains es) ≡ false
  pub reserved : any_reserved_key of (plains es) ≡ false
  pub wells : all_well (plains es) ≡ true

pub inside : (id : ℕ) (of : Kind) (es : Branches) → InOrder (plain (node id of es)) → AreOrdered of es
inside id of es o = record {
  long = o.long;
  reserved = o.reserved;
  wells = right_true (ascends_at of (list_of (plains es)) && all_fit of (plains es)) (all_well (plains es)) o.wells;
}

first_ordered : (of : Kind) (k : Key) (v : Tree) (es : Branches) → AreOrdered of (branch k v es) → InOrder (plain v)
first_ordered of k v es o =
    let l = or_parts (is_long_key k || has_long_key (plain v)) (any_long_key (plains es)) o.long in
    let r = or_parts (is_reserved_at of k || has_reserved_key (plain v)) (any_reserved_key of (plains es)) o.reserved in
    record {
      long = (or_parts (is_long_key k) (has_long_key (plain v)) l.0).1;
      reserved = (or_parts (is_reserved_at of k) (has_reserved_key (plain v)) r.0).1;
      wells = left_true (well (plain v)) (all_well (plains es)) o.wells;
    }

rest_ordered : (of : Kind) (k : Key) (v : Tree) (es : Branches) → AreOrdered of (branch k v es) → AreOrdered of es
rest_ordered of k v es o = record {
  long = (or_parts (is_long_key k || has_long_key (plain v)) (any_long_key (plains es)) o.long).1;
  reserved = (or_parts (is_reserved_at of k || has_reserved_key (plain v)) (any_reserved_key of (plains es)) o.reserved).1;
  wells = right_true (well (plain v)) (all_well (plains es)) o.wells;
}

mutual
  pub place_ordered : (n : ℕ) (t u : Tree) → InOrder (plain t) → place n t ≡ Some u → InOrder (plain u)
  place_ordered n (prim k) u o h = absurd (cc)
  place_ordered zero (node id of es) u o h = let e : node id of es ≡ u = cc in subst (λ (x : Tree). InOrder (plain x)) e o
  place_ordered (suc n) (node id of es) u o h = place_in_ordered n of es u (inside id of es o) h

  pub place_in_ordered : (n : ℕ) (of : Kind) (es : Branches) (u : Tree) → AreOrdered of es → place_in n es ≡ Some u → InOrder (plain u)
  place_in_ordered n of none u o h = absurd (cc)
  place_in_ordered n of (branch k v es) u o h = elim (nat_lt n (containers v)) as (λ b. nat_lt n (containers v) ≡ b → InOrder (plain u)) [
    | true ↦ λ p. place_ordered n v u (first_ordered of k v es o) (rw p at h)
    | false ↦ λ p. place_in_ordered (n - containers v) of es u (rest_ordered of k v es o) (rw p at h)
  ] refl

-- ---- every name below the count has an object
mutual
  pub made_full : (scope m n : ℕ) (t : Tree) → n < containers t → made_at scope m (place n t) ≢ None
  made_full scope m n (prim k) l = absurd (omega arith)
  made_full scope m zero (node id of es) l = λ h. absurd (cc)
  made_full scope m (suc n) (node id of es) l = made_full_in scope m n es (omega arith)

  made_full_in : (scope m n : ℕ) (es : Branches) → n < containers_in es → made_at scope m (place_in n es) ≢ None
  made_full_in scope m n none l = absurd (omega arith)
  made_full_in scope m n (branch k v es) l = elim (nat_lt n (containers v)) as (λ b. nat_lt n (containers v) ≡ b → made_at scope m (if b then place n v else place_in (n - containers v) es) ≢ None) [
    | true ↦ λ p. made_full scope m n v (grind (arith, p))
    | false ↦ λ p. let low : containers v ≤ n = grind (arith, p) in made_full_in scope m (n - containers v) es (omega (arith, low, l))
  ] refl
