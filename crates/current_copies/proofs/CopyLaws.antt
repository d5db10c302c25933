-- A heap with a copy is sound, and its copies stand.
use Rattle.std.proofs.Common.{◌≡◌, ◌≢◌, ℕ, zero, suc, ◌+◌, ◌-◌, ◌<◌, ◌≤◌, refl, ap, sym, ◌∙◌, subst, arith, Bool, true, false, Option, Some, None, inl, inr}
use Rattle.std.specs.Prelude.{nat_lt, if◌then◌else◌, ◌&&◌}
use Rattle.value_model.specs.Places.{ascends_at}
use Rattle.value_model.specs.Plain.{list_of}
use Rattle.value_model.specs.Search.{left_true, right_true}
use Rattle.value_model.specs.Well.{all_well, all_fit}
use Rattle.numbered.proofs.Laws.{place_of}
use Rattle.numbered.specs.Store.{IsOf, tree_at}
use Rattle.numbered.specs.Tree.{Tree, prim, node, plain, plains, containers, place}
use Rattle.run_heap.specs.declared.content.Content.{Content}
use Rattle.run_heap.specs.declared.value.Given.TheVariants as given
use Rattle.run_heap.specs.Heap.{Heap, copied, opening, given_table}
use Rattle.run_heap.specs.Laws.{Onwards, ascends_given, stand_given, stored_given}
use Rattle.run_heap.proofs.Laws.{content_on, place_within, no_place, opened_as}
use Rattle.run_heap.specs.Operations.{source_in}
use Rattle.run_heap.specs.Sound.{IsSound, IsContent, IsOpenedAs, HasSource, Keeps, Grows}
use Rattle.result_trees.specs.Written.{AreOpenedOn, CopiesStand}
use Rattle.result_trees.proofs.KeptLaws.{place_add}
use Rattle.result_trees.proofs.OrderLaws.{InOrder}
use Rattle.current_copies.specs.Copies.{source_of, made_at, with_copy}
use Rattle.current_copies.proofs.PlaceLaws.{IsSourced, inside, place_sourced, place_ordered, made_full}

module _ (h : Heap) (t : Tree) (s : IsSound h) (sourced : IsSourced h.states t) (ordered : InOrder (plain t)) where
  abbrev after : Heap
  after = with_copy t h

  on : Onwards h after
  on = record { scope = refl; states = refl; more = omega arith }

  -- what holds of an object of the old heap or of a place of the copy holds of the object
  by_age : (P : Option Content → Type 0) (n : ℕ) → (n < h.next → P (h.object n)) → (h.next ≤ n → P (made_at h.scope n (place (n - h.next) t))) → P (after.object n)
  by_age P n a b = elim (nat_lt n h.next) as (λ (x : Bool). nat_lt n h.next ≡ x → P (if x then h.object n else made_at h.scope n (place (n - h.next) t))) [
    | true ↦ λ p. a (grind (arith, p))
    | false ↦ λ p. b (grind (arith, p))
  ] refl

  by_place : (P : Option Tree → Type 0) (q : ℕ) → P None → ((u : Tree) → place q t ≡ Some u → P (Some u)) → P (place q t)
  by_place P q a b = elim (place q t) as (λ (o : Option Tree). place q t ≡ o → P o) [ None ↦ λ p. a | Some u ↦ λ p. b u p ] refl

  table_made : (n : ℕ) (u : Tree) → InOrder (plain u) → n + containers u ≤ after.next → IsContent after (made_at h.scope n (Some u))
  table_made n (prim k) o l = tt
  table_made n (node id of es) o l =
      let g = given.From (record { scope = h.scope; slot = n + 1 }) in
      let first = left_true (ascends_at of (list_of (plains es)) && all_fit of (plains es)) (all_well (plains es)) o.wells in
      let rest = inside id of es o in
      record {
        ascends = ascends_given of g es (left_true (ascends_at of (list_of (plains es))) _ first);
        stand = stand_given of g es (right_true (ascends_at of (list_of (plains es))) _ first) rest.long rest.reserved;
        stored = stored_given after (n + 1) es (omega (arith, l));
      }

  of_zero : (id : ℕ) → id ≡ 0 → source_of (Some id) ≡ None
  of_zero zero e = refl
  of_zero (suc n) e = absurd (omega (arith, e))

  of_some : (id : ℕ) → 1 ≤ id → source_of (Some id) ≡ Some id
  of_some zero l = absurd (omega (arith, l))
  of_some (suc n) l = refl

  source_made : (n : ℕ) (u : Tree) → IsSourced h.states u → HasSource after (source_in (made_at h.scope n (Some u)))
  source_made n (prim k) a = tt
  source_made n (node id of es) a = elim a.0 [
    | inl e ↦ subst (HasSource after) (sym (of_zero id e)) tt
    | inr o ↦ subst (HasSource after) (sym (of_some id o.0.0)) o.0
  ]

  pub copy_sound : IsSound after
  copy_sound =
      let low = s.copied in
      record {
        store = s.store;
        root = s.root;
        copied = omega (arith, low);
        full = λ n l. by_age (λ (x : Option Content). x ≢ None) n (λ m. s.full n m) (λ m. made_full h.scope n (n - h.next) t (omega (arith, l, m)));
        fresh = λ n l. by_age (λ (x : Option Content). x ≡ None) n (λ m. absurd (omega (arith, l, m)))
            (λ m. ap (made_at h.scope n) (no_place (n - h.next) t (omega (arith, l, m))));
        tables = λ n. by_age (IsContent after) n (λ m. content_on h after (h.object n) on (s.tables n))
            (λ m. by_place (λ (o : Option Tree). IsContent after (made_at h.scope n o)) (n - h.next) tt
            (λ u p. let within = place_within (n - h.next) t u p in table_made n u (place_ordered (n - h.next) t u ordered p) (omega (arith, within, m))));
        drafts = λ n l. by_age (λ (x : Option Content). IsOpenedAs x (opening h n)) n (λ m. s.drafts n l) (λ m. absurd (omega (arith, l, low, m)));
        sources = λ n. by_age (λ (x : Option Content). HasSource after (source_in x)) n (λ m. s.sources n)
            (λ m. by_place (λ (o : Option Tree). HasSource after (source_in (made_at h.scope n o))) (n - h.next) tt
            (λ u p. source_made n u (place_sourced h.states (n - h.next) t u sourced p)));
      }

  keeps_itself : (c : Option Content) → Keeps c c
  keeps_itself None = tt
  keeps_itself (Some c) = (refl, refl, λ w. w)

  pub copy_grows : Grows h after
  copy_grows = record {
    scope = refl;
    states = refl;
    root = refl;
    more = omega arith;
    keeps = λ n. by_age (Keeps (h.object n)) n (λ m. keeps_itself (h.object n)) (λ m. subst (λ (x : Option Content). Keeps x (made_at h.scope n (place (n - h.next) t))) (sym (s.fresh n m)) tt);
  }

  -- ---- its objects stand as they were made
  there : (c b : Option Content) → IsOpenedAs c b → c ≡ None → ⊥
  there None b o e = o
  there (Some c) b o e = absurd (cc)

  old_stands : (n : ℕ) (b : Option Content) → IsOpenedAs (h.object n) b → IsOpenedAs (after.object n) b
  old_stands n b o = by_age (λ (x : Option Content). IsOpenedAs x b) n (λ m. o) (λ m. absurd (there (h.object n) b o (s.fresh n m)))

  -- an object made of a state of the store is as it was made
  made_as : (scope n : ℕ) (u : Tree) → IsOf h.states u → made_at scope n (Some u) ≡ copied scope n (Some u)
  made_as scope n (prim k) o = refl
  made_as scope n (node id of es) o =
      ap (λ (x : Option ℕ). Some (record { kind = of; table = given_table (given.From (record { scope = scope; slot = n + 1 })) es; source = x; written = false })) (of_some id o.0.0)

  place_made : (n q : ℕ) (u : Tree) → IsOf h.states u → q < containers u → made_at h.scope n (place q u) ≡ copied h.scope n (place q u)
  place_made n q u o l = by_place_of (place q u) refl
    where
      by_place_of : (x : Option Tree) → place q u ≡ x → made_at h.scope n x ≡ copied h.scope n x
      by_place_of None p = refl
      by_place_of (Some v) p = made_as h.scope n v (place_of h.states s.store q u v o p)

  pub new_object : (n : ℕ) → h.next ≤ n → after.object n ≡ made_at h.scope n (place (n - h.next) t)
  new_object n m = let no : nat_lt n h.next ≡ false = grind (arith, m) in rw no refl

  -- the objects of a place of the copy that keeps its numbers
  place_stands : (n : ℕ) (u : Tree) → h.next ≤ n → place (n - h.next) t ≡ Some u → IsOf h.states u → AreOpenedOn after n u
  place_stands n u m p o q l =
      let far : n + q - h.next ≡ n - h.next + q = omega (arith, m) in
      let there_now : place (n + q - h.next) t ≡ place q u = ap (λ (i : ℕ). place i t) far ∙ place_add (n - h.next) q t u p l in
      let is : after.object (n + q) ≡ copied h.scope (n + q) (place q u) =
      new_object (n + q) (omega (arith, m)) ∙ ap (made_at h.scope (n + q)) there_now ∙ place_made (n + q) q u o l in
      let some : copied h.scope (n + q) (place q u) ≢ None = λ e. made_full h.scope (n + q) q u l (place_made (n + q) q u o l ∙ e) in
      subst (λ (x : Option Content). IsOpenedAs x (copied h.scope (n + q) (place q u))) (sym is) (opened_as (copied h.scope (n + q) (place q u)) some)

  zero_source : (id : ℕ) (k : ℕ) → source_of (Some id) ≡ Some k → 1 ≤ id
  zero_source zero k e = absurd (cc)
  zero_source (suc n) k e = omega arith

  same_source : (id k : ℕ) → source_of (Some id) ≡ Some k → id ≡ k
  same_source zero k e = absurd (cc)
  same_source (suc n) k e = cc

  new_stands : (n id : ℕ) (u : Tree) → h.next ≤ n → place (n - h.next) t ≡ Some u → source_in (made_at h.scope n (Some u)) ≡ Some id → AreOpenedOn after n (tree_at h.states id)
  new_stands n id (prim k) m p e = absurd (cc)
  new_stands n id (node i of es) m p e =
      let q = same_source i id e in
      elim (place_sourced h.states (n - h.next) t (node i of es) sourced p).0 [
        | inl z ↦ absurd (let l = zero_source i id e in omega (arith, l, z))
        | inr o ↦ subst (AreOpenedOn after n) (sym o.1 ∙ ap (tree_at h.states) q) (place_stands n (node i of es) m p o)
      ]

  pub copy_copies : CopiesStand h → CopiesStand after
  copy_copies copies n id l e = by_age (λ (x : Option Content). source_in x ≡ Some id → AreOpenedOn after n (tree_at h.states id)) n
      (λ m e. λ q below. old_stands (n + q) (copied h.scope (n + q) (place q (tree_at h.states id))) (copies n id l e q below))
      (λ m. by_place (λ (o : Option Tree). source_in (made_at h.scope n o) ≡ Some id → AreOpenedOn after n (tree_at h.states id)) (n - h.next) (λ e. absurd (cc)) (λ u p e. new_stands n id u m p e)) e
