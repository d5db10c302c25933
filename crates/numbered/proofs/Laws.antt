-- What holds of stores and of numbered states: laws.
use Rattle.std.proofs.Common.{◌≡◌, ℕ, zero, suc, ◌+◌, ◌-◌, ◌<◌, ◌≤◌, List, [], ◌∷◌, ◌++◌, length, map, take, refl, ap, sym, ◌∙◌, subst, arith, true, false}
use Rattle.std.specs.Prelude.{Some, None, nat_lt, Bool, ◌||◌, ◌^◌, slice_get}
use Rattle.std.specs.List.{range_with_len}
use Rattle.std.proofs.lemmas.List.{append-nil, append_assoc, map-append}
use Rattle.std.proofs.lemmas.Grind.{common_steps, elements}
use Rattle.std.proofs.lemmas.Bool.{or_right}
use Rattle.value_model.specs.declared.key.Key.{Key}
use Rattle.value_model.specs.declared.key.Key.TheVariants as key
use Rattle.value_model.specs.declared.kind.Kind.{Kind}
use Rattle.value_model.specs.declared.limit.Limit.TheVariants as limit
use Rattle.value_model.specs.Limits.{value_limit, state_limit}
use Rattle.value_model.specs.Plain as plain_value
use Rattle.value_model.specs.Plain.{Plain, Entries, key_weight, weight, weights, values, values_in}
use Rattle.numbered.specs.Tree.{Tree, Branches, prim, node, none, branch, plain, plains, number, containers, containers_in, place, place_in, IsNumberedState, child_weight, child_weights, own_weight, branches_of, children, before}
use Rattle.numbered.specs.Store.{IsNumber, tree_at, used, IsOf, AllOf, IsNext, IsStore, is_full}
use Rattle.numbered.specs.Loading.{places, places_in, numbered, numbered_in, post_order, post_orders, additions, any_full, load_full}
use Rattle.numbered.specs.Laws.{state_at, Extends, IsSmall}

pub extends_refl : (ts : List Tree) → Extends ts ts
extends_refl ts = record { longer = omega arith; same = λ i d h. refl }

pub extends_then : (ts us vs : List Tree) → Extends ts us → Extends us vs → Extends ts vs
extends_then ts us vs a b = record {
  longer = let x = a.longer in let y = b.longer in omega (arith, x, y);
  same = λ i d h. let x = a.longer in b.same i d (omega (arith, h, x)) ∙ a.same i d h;
}

pub extends_append : (ts us : List Tree) → Extends ts (ts ++ us)
extends_append ts us = record { longer = grind (arith, common_steps); same = λ i d h. grind (arith, common_steps, elements, h) }

pub extends_take : (n : ℕ) (ts : List Tree) → Extends (take n ts) ts
extends_take n ts = record { longer = grind (arith, common_steps); same = λ i d h. grind (arith, common_steps, elements, h) }

-- cut to the length of the first, the second is the first
pub cut_back : (ts us : List Tree) → Extends ts us → take (length ts) us ≡ ts
cut_back [] us e = refl
cut_back (t ∷ ts) [] e = absurd (let l = e.longer in omega (arith, l))
cut_back (t ∷ ts) (u ∷ us) e =
    let first : u ≡ t = e.same 0 (prim key.Null) (omega arith) in
    let rest = cut_back ts us (record { longer = let l = e.longer in omega (arith, l); same = λ i d h. e.same (suc i) d (omega (arith, h)) }) in
    λ j. first j ∷ rest j

pub of_more : (ts us : List Tree) (t : Tree) → Extends ts us → IsOf ts t → IsOf us t
of_more ts us (prim k) e h = tt
of_more ts us (node id kind es) e h = let l = e.longer in ((h.0.0, omega (arith, h.0.1, l)), e.same (id - 1) (prim key.Null) (omega (arith, h.0.0, h.0.1)) ∙ h.1)

pub all_more : (ts us : List Tree) (es : Branches) → Extends ts us → AllOf ts es → AllOf us es
all_more ts us none e h = tt
all_more ts us (branch k v es) e h = (of_more ts us v e h.0, all_more ts us es e h.1)

next_number : (ts : List Tree) (t : Tree) → IsNext ts t → number t ≡ length ts + 1
next_number ts (prim k) h = absurd h
next_number ts (node id kind es) h = h.number

next_of : (ts : List Tree) (t : Tree) → IsNext ts t → IsNumber (ts ++ t ∷ []) (length ts + 1)
next_of ts t h = (omega arith, grind (arith, common_steps))

-- the state of a number has that number
pub number_at : (ts : List Tree) (id : ℕ) → IsStore ts → IsNumber ts id → number (tree_at ts id) ≡ id
number_at ts id s h =
    let n = next_number (take (id - 1) ts) (tree_at ts id) (state_at ts id s h) in
    let l : length (take (id - 1) ts) ≡ id - 1 = grind (arith, common_steps, h.0, h.1) in
    let one : 1 ≤ id = h.0 in
    omega (arith, n, l, one)

of_itself : (ts : List Tree) (t : Tree) (id : ℕ) → IsNumber ts id → tree_at ts id ≡ t → number t ≡ id → IsOf ts t
of_itself ts (prim k) id h e n = tt
of_itself ts (node i kind es) id h e n = (subst (IsNumber ts) (sym n) h, ap (tree_at ts) n ∙ e)

pub of_number : (ts : List Tree) (id : ℕ) → IsStore ts → IsNumber ts id → IsOf ts (tree_at ts id)
of_number ts id s h = of_itself ts (tree_at ts id) id h refl (number_at ts id s h)

children_then : (ts : List Tree) (id : ℕ) (kind : Kind) (es : Branches) → IsNext (take (id - 1) ts) (node id kind es) → AllOf ts es
children_then ts id kind es h = all_more (take (id - 1) ts) ts es (extends_take (id - 1) ts) h.children

-- the children of a store's state are the store's
pub children_of : (ts : List Tree) (id : ℕ) (kind : Kind) (es : Branches) → IsStore ts → IsOf ts (node id kind es) → AllOf ts es
children_of ts id kind es s h = children_then ts id kind es (subst (IsNext (take (id - 1) ts)) h.1 (state_at ts id s h.0))

-- ---- the places of a store's state are the store's
mutual
  pub place_of : (ts : List Tree) → IsStore ts → (n : ℕ) (t u : Tree) → IsOf ts t → place n t ≡ Some u → IsOf ts u
  place_of ts s n (prim k) u o h = absurd (cc)
  place_of ts s zero (node id kind es) u o h = let e : node id kind es ≡ u = cc in subst (IsOf ts) e o
  place_of ts s (suc n) (node id kind es) u o h = place_in_of ts s n es u (children_of ts id kind es s o) h

  pub place_in_of : (ts : List Tree) → IsStore ts → (n : ℕ) (es : Branches) (u : Tree) → AllOf ts es → place_in n es ≡ Some u → IsOf ts u
  place_in_of ts s n none u o h = absurd (cc)
  place_in_of ts s n (branch k v es) u o h = elim (nat_lt n (containers v)) as (λ b. nat_lt n (containers v) ≡ b → IsOf ts u) [
    | true ↦ λ p. place_of ts s n v u o.0 (rw p at h)
    | false ↦ λ p. place_in_of ts s (n - containers v) es u o.1 (rw p at h)
  ] refl

mutual
  place_container : (n : ℕ) (t : Tree) (k : Key) → place n t ≡ Some (prim k) → ⊥
  place_container n (prim j) k h = absurd (cc)
  place_container zero (node id kind es) k h = absurd (cc)
  place_container (suc n) (node id kind es) k h = place_in_container n es k h

  place_in_container : (n : ℕ) (es : Branches) (k : Key) → place_in n es ≡ Some (prim k) → ⊥
  place_in_container n none k h = absurd (cc)
  place_in_container n (branch j v es) k h = elim (nat_lt n (containers v)) as (λ b. nat_lt n (containers v) ≡ b → ⊥) [
    | true ↦ λ p. place_container n v k (rw p at h)
    | false ↦ λ p. place_in_container (n - containers v) es k (rw p at h)
  ] refl

same_number : (ts : List Tree) (u v : Tree) → ((k : Key) → u ≡ prim k → ⊥) → ((k : Key) → v ≡ prim k → ⊥) → IsOf ts u → IsOf ts v → number u ≡ number v → u ≡ v
same_number ts (prim k) v a b x y e = absurd (a k refl)
same_number ts (node i j es) (prim k) a b x y e = absurd (b k refl)
same_number ts (node i j es) (node m k ds) a b x y e = sym x.1 ∙ ap (tree_at ts) e ∙ y.1

-- a store's states are numbered states
pub numbered_state : (ts : List Tree) (t : Tree) → IsStore ts → IsOf ts t → IsNumberedState t
numbered_state ts t s o m n u v p q e =
    same_number ts u v
    (λ k h. place_container m t k (p ∙ ap Some h))
    (λ k h. place_container n t k (q ∙ ap Some h))
    (place_of ts s m t u o p) (place_of ts s n t v o q) e

-- ---- the entry in which a place lies
pub before_le : (i : ℕ) (es : Branches) → before i es ≤ containers_in es
before_le zero es = omega arith
before_le (suc i) none = omega arith
before_le (suc i) (branch k v es) = omega (arith, before_le i es)

pub before_more : (i : ℕ) (es : Branches) (v : Tree) → slice_get (children es) i ≡ Some v → before (suc i) es ≡ before i es + containers v
before_more i none v h = absurd (cc)
before_more zero (branch k w es) v h = let e : w ≡ v = cc in omega (arith, ap containers e)
before_more (suc i) (branch k w es) v h = omega (arith, before_more i es v h)

pub before_all : (es : Branches) → before (length (children es)) es ≡ containers_in es
before_all none = refl
before_all (branch k v es) = omega (arith, before_all es)

-- the n-th place under a container is a place of the child in which it lies
pub place_in_child : (i n : ℕ) (es : Branches) (v : Tree) → slice_get (children es) i ≡ Some v → before i es ≤ n → n < before i es + containers v → place_in n es ≡ place (n - before i es) v
place_in_child i n none v h a b = absurd (cc)
place_in_child zero n (branch k w es) v h a b =
    let e : w ≡ v = cc in
    let yes : nat_lt n (containers w) ≡ true = grind (arith, b, ap containers e) in
    let z : n - 0 ≡ n = omega arith in
    rw (yes, z) (ap (place n) e)
place_in_child (suc i) n (branch k w es) v h a b =
    let no : nat_lt n (containers w) ≡ false = grind (arith, a) in
    let back : n - (containers w + before i es) ≡ n - containers w - before i es = omega arith in
    rw (no, back) (place_in_child i (n - containers w) es v h (omega (arith, a)) (omega (arith, a, b)))

pub within_child : (i n : ℕ) (es : Branches) (v : Tree) → slice_get (children es) i ≡ Some v → n < before (i + 1) es → n < before i es + containers v
within_child i n es v h a =
    let one : i + 1 ≡ suc i = omega arith in
    let b : n < before (suc i) es = subst (λ j. n < before j es) one a in
    omega (arith, b, before_more i es v h)

-- a primitive has no places, a container is its first
pub first_place : (n : ℕ) (t : Tree) → n ≤ 0 → n < containers t → place n t ≡ Some t
first_place n (prim k) z h = absurd (omega arith)
first_place zero (node id kind es) z h = refl
first_place (suc n) (node id kind es) z h = absurd (omega arith)

pub next_place : (n : ℕ) (t : Tree) → 1 ≤ n → place n t ≡ place_in (n - 1) (branches_of t)
next_place n (prim k) h = refl
next_place zero (node id kind es) h = absurd (omega arith)
next_place (suc n) (node id kind es) h = let e : suc n - 1 ≡ n = omega arith in rw e refl

pub containers_of : (t : Tree) → containers t ≤ containers_in (branches_of t) + 1
containers_of (prim k) = omega arith
containers_of (node id kind es) = omega arith

-- ---- what a value's numbering keeps
mutual
  pub plain_numbered : (next : ℕ) (v : Plain) → plain (numbered next v) ≡ v
  plain_numbered next (plain_value.prim k) = refl
  plain_numbered next (plain_value.node kind es) = ap (plain_value.node kind) (plains_numbered next es)

  pub plains_numbered : (next : ℕ) (es : Entries) → plains (numbered_in next es) ≡ es
  plains_numbered next plain_value.none = refl
  plains_numbered next (plain_value.entry k v es) =
      let a = plain_numbered next v in
      let b = plains_numbered (next + places v) es in
      λ i. plain_value.entry k (a i) (b i)

mutual
  pub containers_numbered : (next : ℕ) (v : Plain) → containers (numbered next v) ≡ places v
  containers_numbered next (plain_value.prim k) = refl
  containers_numbered next (plain_value.node kind es) = omega (arith, all_containers_numbered next es)

  pub all_containers_numbered : (next : ℕ) (es : Entries) → containers_in (numbered_in next es) ≡ places_in es
  all_containers_numbered next plain_value.none = refl
  all_containers_numbered next (plain_value.entry k v es) = omega (arith, containers_numbered next v, all_containers_numbered (next + places v) es)

mutual
  pub containers_plain : (t : Tree) → containers t ≡ places (plain t)
  containers_plain (prim k) = refl
  containers_plain (node id kind es) = omega (arith, all_containers_plain es)

  pub all_containers_plain : (es : Branches) → containers_in es ≡ places_in (plains es)
  all_containers_plain none = refl
  all_containers_plain (branch k v es) = omega (arith, containers_plain v, all_containers_plain es)

-- read in post-order, the numbers follow one another
range_append : (a m n : ℕ) → range_with_len a (m + n) ≡ range_with_len a m ++ range_with_len (a + m) n
range_append a zero n = let z : 0 + n ≡ n = omega arith in let y : a + 0 ≡ a = omega arith in rw (z, y) refl
range_append a (suc m) n =
    let s : suc m + n ≡ suc (m + n) = omega arith in
    let t : a + suc m ≡ a + 1 + m = omega arith in
    rw (s, t) (ap (λ (ns : List ℕ). a ∷ ns) (range_append (a + 1) m n))

mutual
  pub numbers_follow : (next : ℕ) (v : Plain) → map number (post_order (numbered next v)) ≡ range_with_len next (places v)
  numbers_follow next (plain_value.prim k) = refl
  numbers_follow next (plain_value.node kind es) =
      let n : 1 + places_in es ≡ places_in es + 1 = omega arith in
      map-append number (post_orders (numbered_in next es)) (numbered next (plain_value.node kind es) ∷ [])
      ∙ ap (λ (ns : List ℕ). ns ++ (next + places_in es) ∷ []) (all_numbers_follow next es)
      ∙ sym (range_append next (places_in es) 1)
      ∙ ap (range_with_len next) (sym n)

  pub all_numbers_follow : (next : ℕ) (es : Entries) → map number (post_orders (numbered_in next es)) ≡ range_with_len next (places_in es)
  all_numbers_follow next plain_value.none = refl
  all_numbers_follow next (plain_value.entry k v es) =
      let a = numbers_follow next v in
      let b = all_numbers_follow (next + places v) es in
      map-append number (post_order (numbered next v)) (post_orders (numbered_in (next + places v) es))
      ∙ (λ i. a i ++ b i)
      ∙ sym (range_append next (places v) (places_in es))

mutual
  pub length_post : (t : Tree) → length (post_order t) ≡ containers t
  length_post (prim k) = refl
  length_post (node id kind es) = let l = length_posts es in grind (arith, common_steps, l)

  pub length_posts : (es : Branches) → length (post_orders es) ≡ containers_in es
  length_posts none = refl
  length_posts (branch k v es) = let a = length_post v in let b = length_posts es in grind (arith, common_steps, a, b)

-- ---- measures
pub key_weighs : (k : Key) → 1 ≤ key_weight k
key_weighs key.Null = omega arith
key_weighs (key.Bool b) = omega arith
key_weighs (key.Int n) = omega arith
key_weighs (key.Text s) = omega arith

-- every value weighs at least 1
mutual
  pub values_le_weight : (v : Plain) → values v ≤ weight v
  values_le_weight (plain_value.prim k) = key_weighs k
  values_le_weight (plain_value.node kind es) = omega (arith, values_in_le_weights kind es)

  pub values_in_le_weights : (kind : Kind) (es : Entries) → values_in es ≤ weights kind es
  values_in_le_weights kind plain_value.none = omega arith
  values_in_le_weights kind (plain_value.entry k v es) = omega (arith, values_le_weight v, values_in_le_weights kind es)

pub some_value : (v : Plain) → 1 ≤ values v
some_value (plain_value.prim k) = omega arith
some_value (plain_value.node kind es) = omega arith

-- every container is a value
mutual
  pub places_le_values : (v : Plain) → places v ≤ values v
  places_le_values (plain_value.prim k) = omega arith
  places_le_values (plain_value.node kind es) = omega (arith, places_in_le_values es)

  pub places_in_le_values : (es : Entries) → places_in es ≤ values_in es
  places_in_le_values plain_value.none = omega arith
  places_in_le_values (plain_value.entry k v es) = omega (arith, places_le_values v, places_in_le_values es)

pub used_append : (ts us : List Tree) → used (ts ++ us) ≡ used ts + used us
used_append [] us = omega arith
used_append (t ∷ ts) us = omega (arith, used_append ts us)

-- the own weights of all container places: each place but the root counts 1 more, in its parent
mutual
  pub used_post : (t : Tree) → used (post_order t) + child_weight t ≡ weight (plain t) + containers t
  used_post (prim k) = omega arith
  used_post (node id kind es) = omega (arith, used_append (post_orders es) (node id kind es ∷ []), used_posts kind es)

  pub used_posts : (kind : Kind) (es : Branches) → used (post_orders es) + child_weights kind es ≡ weights kind (plains es) + containers_in es
  used_posts kind none = omega arith
  used_posts kind (branch k v es) = omega (arith, used_append (post_order v) (post_orders es), used_post v, used_posts kind es)

-- what loading a container weighs: 1 more for each place in it
pub used_loaded : (next : ℕ) (kind : Kind) (es : Entries) → used (post_order (numbered next (plain_value.node kind es))) + 1 ≡ weight (plain_value.node kind es) + places (plain_value.node kind es)
used_loaded next kind es =
    let t = numbered next (plain_value.node kind es) in
    used_post t ∙ (λ i. weight (plain_numbered next (plain_value.node kind es) i) + containers_numbered next (plain_value.node kind es) i)

-- ---- additions made in turn
or_assoc : (a b c : Bool) → (a || (b || c)) ≡ ((a || b) || c)
or_assoc true b c = refl
or_assoc false b c = refl

-- exactly where the numbers or the weights of all of them together are too many
pub full_together : (ts more : List Tree) → length ts ≤ 2097151 → used ts ≤ 2 ^ 25 → any_full ts more ≡ nat_lt 2097151 (length ts + length more) || nat_lt (2 ^ 25) (used ts + used more)
full_together ts [] a b =
    let no : nat_lt 2097151 (length ts + 0) ≡ false = grind (arith, a) in
    let none : nat_lt (2 ^ 25) (used ts + 0) ≡ false = grind (arith, b) in
    rw (no, none) refl
full_together ts (t ∷ more) a b =
    let l : length (ts ++ t ∷ []) ≡ length ts + 1 = grind (arith, common_steps) in
    let w : used (ts ++ t ∷ []) ≡ used ts + own_weight t = omega (arith, used_append ts (t ∷ [])) in
    elim (nat_lt 2097150 (length ts)) as (λ x. nat_lt 2097150 (length ts) ≡ x → any_full ts (t ∷ more) ≡ nat_lt 2097151 (length ts + length (t ∷ more)) || nat_lt (2 ^ 25) (used ts + used (t ∷ more))) [
      | true ↦ λ p. let yes : nat_lt 2097151 (length ts + suc (length more)) ≡ true = grind (arith, p) in rw (p, yes) refl
      | false ↦ λ p. elim (nat_lt (2 ^ 25) (used ts + own_weight t)) as (λ y. nat_lt (2 ^ 25) (used ts + own_weight t) ≡ y → any_full ts (t ∷ more) ≡ nat_lt 2097151 (length ts + length (t ∷ more)) || nat_lt (2 ^ 25) (used ts + used (t ∷ more))) [
        | true ↦ λ q. let yes : nat_lt (2 ^ 25) (used ts + (own_weight t + used more)) ≡ true = grind (arith, q) in rw (p, q, yes) (sym (or_right _ true refl))
        | false ↦ λ q.
            let rest = full_together (ts ++ t ∷ []) more (grind (arith, l, p)) (grind (arith, w, q)) in
            let len : length ts + suc (length more) ≡ length (ts ++ t ∷ []) + length more = omega (arith, l) in
            let sum : used ts + (own_weight t + used more) ≡ used (ts ++ t ∷ []) + used more = omega (arith, w) in
            rw (p, q, len, sum) rest
      ] refl
    ] refl

pub full_append : (ts us vs : List Tree) → any_full ts (us ++ vs) ≡ any_full ts us || any_full (ts ++ us) vs
full_append ts [] vs = ap (λ (ws : List Tree). any_full ws vs) (sym (append-nil ts))
full_append ts (u ∷ us) vs =
    let rest = full_append (ts ++ u ∷ []) us vs in
    let same = append_assoc ts (u ∷ []) us in
    ap (λ (b : Bool). is_full ts u || b) (rest ∙ ap (λ (ws : List Tree). any_full (ts ++ u ∷ []) us || any_full ws vs) same) ∙ or_assoc (is_full ts u) _ _

within : (a b : ℕ) → nat_lt a b ≡ false → b ≤ a
within a b h = grind (arith, h)

small_value : (v : Plain) → value_limit v ≡ None → IsSmall v
small_value v = elim (nat_lt 32 (plain_value.depth v)) as (λ b. nat_lt 32 (plain_value.depth v) ≡ b → value_limit v ≡ None → IsSmall v) [
  | true ↦ λ p h. absurd (let e : Some limit.TooDeep ≡ None = rw p at h in cc)
  | false ↦ λ p. elim (nat_lt (2 ^ 20) (weight v)) as (λ c. nat_lt (2 ^ 20) (weight v) ≡ c → value_limit v ≡ None → IsSmall v) [
    | true ↦ λ q h. absurd (let e : Some limit.TooBig ≡ None = rw (p, q) at h in cc)
    | false ↦ λ q h. record { depth = within 32 (plain_value.depth v) p; weight = within (2 ^ 20) (weight v) q }
  ] refl
] refl

pub small_state : (v : Plain) → state_limit v ≡ None → IsSmall v
small_state (plain_value.prim k) h = absurd (cc)
small_state (plain_value.node kind es) h = small_value (plain_value.node kind es) h

next_small : (ts : List Tree) (t : Tree) → IsNext ts t → IsSmall (plain t)
next_small ts (prim k) h = absurd h
next_small ts (node id kind es) h = small_state (plain (node id kind es)) h.accepted

next_child : (ts : List Tree) (t : Tree) → IsNext ts t → child_weight t ≡ 1
next_child ts (prim k) h = absurd h
next_child ts (node id kind es) h = refl

pub child_at : (ts : List Tree) (id : ℕ) → IsStore ts → IsNumber ts id → child_weight (tree_at ts id) ≡ 1
child_at ts id s h = next_child (take (id - 1) ts) (tree_at ts id) (state_at ts id s h)

-- a store's states are accepted, in order and small
pub small_at : (ts : List Tree) (id : ℕ) → IsStore ts → IsNumber ts id → IsSmall (plain (tree_at ts id))
small_at ts id s h = next_small (take (id - 1) ts) (tree_at ts id) (state_at ts id s h)

pub values_at : (ts : List Tree) (id : ℕ) → IsStore ts → IsNumber ts id → values (plain (tree_at ts id)) ≤ 2 ^ 20
values_at ts id s h = let w = (small_at ts id s h).weight in let l = values_le_weight (plain (tree_at ts id)) in omega (arith, w, l)

pub containers_at : (ts : List Tree) (id : ℕ) → IsStore ts → IsNumber ts id → containers (tree_at ts id) ≤ 2 ^ 20
containers_at ts id s h =
    let v = values_at ts id s h in
    let l = places_le_values (plain (tree_at ts id)) in
    let c = containers_plain (tree_at ts id) in
    omega (arith, v, l, c)

-- loading is refused exactly where its additions together are too many or too heavy
pub load_full_together : (ts : List Tree) (v : Plain) → length ts ≤ 2097151 → used ts ≤ 2 ^ 25 → load_full ts v ≡ nat_lt 2097151 (length ts + places v) || nat_lt (2 ^ 25) (used ts + used (additions ts v))
load_full_together ts v a b =
    let n = length ts + 1 in
    full_together ts (additions ts v) a b
    ∙ ap (λ (m : ℕ). nat_lt 2097151 (length ts + m) || nat_lt (2 ^ 25) (used ts + used (additions ts v))) (length_post (numbered n v) ∙ containers_numbered n v)
