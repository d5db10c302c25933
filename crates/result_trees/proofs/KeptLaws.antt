-- What an object shows that was opened on a state, until an object that it leads to is written: that state.
use Rattle.std.proofs.Common.{◌≡◌, ℕ, zero, suc, ◌+◌, ◌-◌, ◌<◌, ◌≤◌, take, refl, ap, sym, ◌∙◌, subst, arith, Bool, true, false, Option, Some, None}
use Rattle.std.specs.Prelude.{nat_lt}
use Rattle.std.proofs.lemmas.Bool.{or_parts}
use Rattle.value_model.specs.declared.key.Key.{Key}
use Rattle.value_model.specs.declared.kind.Kind.{Kind}
use Rattle.value_model.specs.Plain as plain_value
use Rattle.value_model.specs.Plain.{Plain}
use Rattle.numbered.specs.Laws.{state_at}
use Rattle.numbered.proofs.Laws.{of_number, place_of}
use Rattle.numbered.specs.Store.{IsNumber, IsNext, tree_at}
use Rattle.numbered.specs.Tree as tree
use Rattle.numbered.specs.Tree.{Tree, Branches, plain, plains, containers, containers_in, place, place_in}
use Rattle.run_heap.specs.declared.value.Rv.TheVariants.{Prim, Obj, Frozen}
use Rattle.run_heap.specs.declared.value.Given.TheVariants as given
use Rattle.run_heap.specs.declared.content.Content.{Content}
use Rattle.run_heap.specs.Heap.{Heap, drafts, copied, given_table, given_value}
use Rattle.run_heap.proofs.Laws.{place_within}
use Rattle.run_heap.specs.Operations.{is_marked, source_in}
use Rattle.run_heap.specs.Sound.{IsSound, IsOpenedAs, HasSource}
use Rattle.result_trees.specs.Final.{Final, Finals, prim, frozen, object, none, entry, plain_of, plains_of}
use Rattle.result_trees.specs.Written.{is_written, any_written, AreOpenedOn, CopiesStand}
use Rattle.result_trees.proofs.Readings.{IfContent, Reads, ReadsRows, Shows}

mutual
  pub place_add : (n q : ℕ) (t u : Tree) → place n t ≡ Some u → q < containers u → place (n + q) t ≡ place q u
  place_add n q (tree.prim k) u h l = absurd (cc)
  place_add zero q (tree.node id of es) u h l =
      let e : tree.node id of es ≡ u = cc in
      let z : 0 + q ≡ q = omega arith in
      rw z (ap (place q) e)
  place_add (suc n) q (tree.node id of es) u h l = let z : suc n + q ≡ suc (n + q) = omega arith in rw z (place_in_add n q es u h l)

  pub place_in_add : (n q : ℕ) (es : Branches) (u : Tree) → place_in n es ≡ Some u → q < containers u → place_in (n + q) es ≡ place q u
  place_in_add n q tree.none u h l = absurd (cc)
  place_in_add n q (tree.branch k v es) u h l = elim (nat_lt n (containers v)) as (λ (b : Bool). nat_lt n (containers v) ≡ b → place_in (n + q) (tree.branch k v es) ≡ place q u) [
    | true ↦ λ p.
        let there : place n v ≡ Some u = rw p at h in
        let within = place_within n v u there in
        let yes : nat_lt (n + q) (containers v) ≡ true = grind (arith, within, l) in
        rw yes (place_add n q v u there l)
    | false ↦ λ p.
        let there : place_in (n - containers v) es ≡ Some u = rw p at h in
        let low : containers v ≤ n = grind (arith, p) in
        let no : nat_lt (n + q) (containers v) ≡ false = grind (arith, low) in
        let back : n + q - containers v ≡ n - containers v + q = omega (arith, low) in
        rw (no, back) (place_in_add (n - containers v) q es u there l)
  ] refl

pub not_opened : (c : Option Content) → IsOpenedAs c None → ⊥
not_opened None o = o
not_opened (Some c) o = o

-- an unwritten object is as it was opened
as_opened : (c : Option Content) (b : Option Content) → IsOpenedAs c b → is_marked c ≡ false → c ≡ b
as_opened None b o w = absurd o
as_opened (Some c) None o w = absurd o
as_opened (Some c) (Some b) o w = ap (λ (x : Content). Some x) (o.2 w)

same_source : (c : Option Content) (b : Content) (id : ℕ) → IsOpenedAs c (Some b) → source_in c ≡ Some id → b.source ≡ Some id
same_source None b id o e = absurd o
same_source (Some c) b id o e = sym o.1 ∙ e

module _ (h : Heap) where
  -- the objects of the places under a container
  abbrev pub OpenedIn : ℕ → Branches → Type 0
  OpenedIn n es = (q : ℕ) → q < containers_in es → IsOpenedAs (h.object (n + q)) (copied h.scope (n + q) (place_in q es))

  opened_at : (m n : ℕ) (o : Option Tree) → m ≡ n → IsOpenedAs (h.object m) (copied h.scope m o) → IsOpenedAs (h.object n) (copied h.scope n o)
  opened_at m n o e a = subst (λ (i : ℕ). IsOpenedAs (h.object i) (copied h.scope i o)) e a

  opened_with : (n : ℕ) (o p : Option Tree) → o ≡ p → IsOpenedAs (h.object n) (copied h.scope n o) → IsOpenedAs (h.object n) (copied h.scope n p)
  opened_with n o p e a = subst (λ (x : Option Tree). IsOpenedAs (h.object n) (copied h.scope n x)) e a

  pub first_opened : (n : ℕ) (k : Key) (v : Tree) (es : Branches) → OpenedIn n (tree.branch k v es) → AreOpenedOn h n v
  first_opened n k v es b q l =
      let yes : nat_lt q (containers v) ≡ true = grind (arith, l) in
      opened_with (n + q) (place_in q (tree.branch k v es)) (place q v) (rw yes refl) (b q (omega (arith, l)))

  pub rest_opened : (n : ℕ) (k : Key) (v : Tree) (es : Branches) → OpenedIn n (tree.branch k v es) → OpenedIn (n + containers v) es
  rest_opened n k v es b q l =
      let no : nat_lt (containers v + q) (containers v) ≡ false = grind arith in
      let back : containers v + q - containers v ≡ q = omega arith in
      opened_at (n + (containers v + q)) (n + containers v + q) (place_in q es) (omega arith)
      (opened_with (n + (containers v + q)) (place_in (containers v + q) (tree.branch k v es)) (place_in q es) (rw (no, back) refl) (b (containers v + q) (omega (arith, l))))

  pub children_opened : (n id : ℕ) (of : Kind) (es : Branches) → AreOpenedOn h n (tree.node id of es) → OpenedIn (n + 1) es
  children_opened n id of es b q l = opened_at (n + suc q) (n + 1 + q) (place_in q es) (omega arith) (b (suc q) (omega (arith, l)))

  -- an object that isn't written, by the state that it was opened on
  pub untouched : (n id : ℕ) (of : Kind) (es : Branches) → AreOpenedOn h n (tree.node id of es) → is_marked (h.object n) ≡ false
      → h.object n ≡ Some (record { kind = of; table = given_table (given.From (record { scope = h.scope; slot = n + 1 })) es; source = Some id; written = false })
  untouched n id of es b w = as_opened (h.object n) (copied h.scope n (Some (tree.node id of es))) (opened_at (n + 0) n (Some (tree.node id of es)) (omega arith) (b 0 (omega arith))) w

  mutual
    pub value_shown : (u : Tree) (n : ℕ) (f : Final) → AreOpenedOn h n u → Reads h f (given_value (given.From (record { scope = h.scope; slot = n })) u) → is_written h f ≡ false → plain_of f ≡ plain u
    value_shown (tree.prim k) n (prim j) b r w = let e : Prim k ≡ Prim j = r in let q : j ≡ k = cc in ap plain_value.prim q
    value_shown (tree.prim k) n (frozen t) b r w = let e : Prim k ≡ Frozen r.0 = r.1 in absurd (cc)
    value_shown (tree.prim k) n (object m of fs) b r w = absurd r.0
    value_shown (tree.node id to es) n (prim j) b r w = let e : Obj (record { scope = h.scope; slot = n }) ≡ Prim j = r in absurd (cc)
    value_shown (tree.node id to es) n (frozen t) b r w = let e : Obj (record { scope = h.scope; slot = n }) ≡ Frozen r.0 = r.1 in absurd (cc)
    value_shown (tree.node id to es) n (object m of fs) b r w =
        let q : n ≡ m = r.0 in
        let shows : Shows h n of fs = subst (λ (i : ℕ). Shows h i of fs) (sym q) r.1 in
        let marks = or_parts (is_marked (h.object m)) (any_written h fs) w in
        let here = untouched n id to es b (ap (λ (i : ℕ). is_marked (h.object i)) q ∙ marks.0) in
        let content : (to ≡ of) × ReadsRows h fs (given_table (given.From (record { scope = h.scope; slot = n + 1 })) es) =
        subst (λ (o : Option Content). IfContent o (λ c. (c.kind ≡ of) × ReadsRows h fs c.table)) here shows in
        let rest = rows_shown es (n + 1) fs (children_opened n id to es b) content.1 marks.1 in
        let kinds : of ≡ to = sym content.0 in
        λ i. plain_value.node (kinds i) (rest i)

    pub rows_shown : (es : Branches) (n : ℕ) (fs : Finals) → OpenedIn n es → ReadsRows h fs (given_table (given.From (record { scope = h.scope; slot = n })) es) → any_written h fs ≡ false → plains_of fs ≡ plains es
    rows_shown tree.none n none b r w = refl
    rows_shown tree.none n (entry k f fs) b r w = absurd r
    rows_shown (tree.branch k v es) n none b r w = absurd r
    rows_shown (tree.branch k v es) n (entry j f fs) b r w =
        let marks = or_parts (is_written h f) (any_written h fs) w in
        let keys : j ≡ k = sym r.0 in
        let first = value_shown v n f (first_opened n k v es b) r.1 marks.0 in
        let rest = rows_shown es (n + containers v) fs (rest_opened n k v es b) r.2 marks.1 in
        λ i. plain_value.entry (keys i) (first i) (rest i)

-- ---- an object with a source
module _ (h : Heap) (s : IsSound h) where
  abbrev pub root : Tree
  root = tree_at h.states h.root

  -- the drafts of the places below a place
  pub draft_opened : (n : ℕ) (u : Tree) → place n root ≡ Some u → AreOpenedOn h n u
  draft_opened n u p q l =
      let within = place_within n root u p in
      subst (λ (o : Option Tree). IsOpenedAs (h.object (n + q)) (copied h.scope (n + q) o)) (place_add n q root u p l) (s.drafts (n + q) (omega (arith, within, l)))

  draft_source : (n id : ℕ) → n < drafts h → source_in (h.object n) ≡ Some id → AreOpenedOn h n (tree_at h.states id)
  draft_source n id l e = by (place n root) refl
    where
      opened_on : (o : Option Tree) → place n root ≡ o → IsOpenedAs (h.object n) (copied h.scope n o)
      opened_on o p = subst (λ (x : Option Tree). IsOpenedAs (h.object n) (copied h.scope n x)) p (s.drafts n l)

      by : (o : Option Tree) → place n root ≡ o → AreOpenedOn h n (tree_at h.states id)
      by None p = absurd (not_opened (h.object n) (opened_on None p))
      by (Some (tree.prim k)) p = absurd (not_opened (h.object n) (opened_on (Some (tree.prim k)) p))
      by (Some (tree.node i to es)) p =
          let g = given.From (record { scope = h.scope; slot = n + 1 }) in
          let number : Some i ≡ Some id = same_source (h.object n) (record { kind = to; table = given_table g es; source = Some i; written = false }) id (opened_on (Some (tree.node i to es)) p) e in
          let q : i ≡ id = cc in
          let state : tree_at h.states i ≡ tree.node i to es = (place_of h.states s.store n root (tree.node i to es) (of_number h.states h.root s.store s.root) p).1 in
          subst (AreOpenedOn h n) (sym state ∙ ap (tree_at h.states) q) (draft_opened n (tree.node i to es) p)

  pub opened_source : CopiesStand h → (n id : ℕ) → source_in (h.object n) ≡ Some id → AreOpenedOn h n (tree_at h.states id)
  opened_source copies n id e = elim (nat_lt n (drafts h)) as (λ (b : Bool). nat_lt n (drafts h) ≡ b → AreOpenedOn h n (tree_at h.states id)) [
    | true ↦ λ p. draft_source n id (grind (arith, p)) e
    | false ↦ λ p. copies n id (grind (arith, p)) e
  ] refl

  pub source_number : (n id : ℕ) → source_in (h.object n) ≡ Some id → IsNumber h.states id
  source_number n id e = subst (λ (o : Option ℕ). HasSource h o) e (s.sources n)

  pub no_primitive : (id : ℕ) (k : Key) → IsNumber h.states id → tree_at h.states id ≡ tree.prim k → ⊥
  no_primitive id k n p = subst (IsNext (take (id - 1) h.states)) p (state_at h.states id s.store n)

  -- the state that an object keeps the number of is what it shows
  pub kept_shown : CopiesStand h → (n : ℕ) (of : Kind) (fs : Finals) (id : ℕ) → Shows h n of fs → is_written h (object n of fs) ≡ false → source_in (h.object n) ≡ Some id → plain (tree_at h.states id) ≡ plain_of (object n of fs)
  kept_shown copies n of fs id shows w e = by (tree_at h.states id) refl
    where
      by : (u : Tree) → tree_at h.states id ≡ u → plain (tree_at h.states id) ≡ plain_of (object n of fs)
      by (tree.prim k) p = absurd (no_primitive id k (source_number n id e) p)
      by (tree.node i to es) p = ap plain p ∙ sym (value_shown h (tree.node i to es) n (object n of fs) (subst (AreOpenedOn h n) p (opened_source copies n id e)) (refl, shows) w)
