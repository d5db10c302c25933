-- An object with a source leads to a written object exactly where one of the names from its own on, as many as that state has
-- containers, is that of a written object.
use Rattle.std.proofs.Common.{◌≡◌, ℕ, zero, suc, ◌+◌, refl, ap, sym, ◌∙◌, subst, arith, Bool, true, false, Option, Some}
use Rattle.std.specs.Prelude.{◌||◌}
use Rattle.value_model.specs.declared.kind.Kind.{Kind}
use Rattle.numbered.specs.Store.{tree_at}
use Rattle.numbered.specs.Tree as tree
use Rattle.numbered.specs.Tree.{Tree, Branches, containers, containers_in}
use Rattle.run_heap.specs.declared.value.Rv.TheVariants.{Prim, Obj, Frozen}
use Rattle.run_heap.specs.declared.value.Given.TheVariants as given
use Rattle.run_heap.specs.declared.content.Content.{Content}
use Rattle.run_heap.specs.Heap.{Heap, given_table, given_value}
use Rattle.run_heap.specs.Operations.{is_marked, source_in}
use Rattle.run_heap.specs.Sound.{IsSound, HasSource}
use Rattle.result_trees.specs.Final.{Final, Finals, prim, frozen, object, none, entry, read_value}
use Rattle.result_trees.specs.Written.{is_written, any_written, any_marked, AreOpenedOn, CopiesStand}
use Rattle.result_trees.proofs.KeptLaws.{OpenedIn, first_opened, rest_opened, children_opened, untouched, opened_source, no_primitive}
use Rattle.result_trees.proofs.Readings.{IfContent, Reads, ReadsRows, Shows, reads}

or_assoc : (a b c : Bool) → (a || (b || c)) ≡ ((a || b) || c)
or_assoc true b c = refl
or_assoc false b c = refl

marked_both : (h : Heap) (n a b : ℕ) → any_marked h n (a + b) ≡ any_marked h n a || any_marked h (n + a) b
marked_both h n zero b =
    let z : 0 + b ≡ b = omega arith in
    let y : n + 0 ≡ n = omega arith in
    rw (z, y) refl
marked_both h n (suc a) b =
    let z : suc a + b ≡ suc (a + b) = omega arith in
    let y : n + suc a ≡ suc n + a = omega arith in
    rw (z, y) (ap (λ (x : Bool). is_marked (h.object n) || x) (marked_both h (suc n) a b) ∙ or_assoc (is_marked (h.object n)) (any_marked h (suc n) a) (any_marked h (suc n + a) b))

module _ (h : Heap) where
  -- a container: where it isn't written it is as it was opened
  node_written : (n id : ℕ) (to of : Kind) (es : Branches) (fs : Finals) → AreOpenedOn h n (tree.node id to es) → Shows h n of fs
      → (ReadsRows h fs (given_table (given.From (record { scope = h.scope; slot = n + 1 })) es) → any_written h fs ≡ any_marked h (suc n) (containers_in es))
      → (is_marked (h.object n) || any_written h fs) ≡ (is_marked (h.object n) || any_marked h (suc n) (containers_in es))
  node_written n id to of es fs b shows law = by (is_marked (h.object n)) refl
    where
      by : (m : Bool) → is_marked (h.object n) ≡ m → (m || any_written h fs) ≡ (m || any_marked h (suc n) (containers_in es))
      by true e = refl
      by false e =
          let here = untouched h n id to es b e in
          let content : (to ≡ of) × ReadsRows h fs (given_table (given.From (record { scope = h.scope; slot = n + 1 })) es) =
          subst (λ (o : Option Content). IfContent o (λ c. (c.kind ≡ of) × ReadsRows h fs c.table)) here shows in
          law content.1

  mutual
    pub value_written : (u : Tree) (n : ℕ) (f : Final) → AreOpenedOn h n u → Reads h f (given_value (given.From (record { scope = h.scope; slot = n })) u) → is_written h f ≡ any_marked h n (containers u)
    value_written (tree.prim k) n (prim j) b r = refl
    value_written (tree.prim k) n (frozen t) b r = refl
    value_written (tree.prim k) n (object m of fs) b r = absurd r.0
    value_written (tree.node id to es) n (prim j) b r = let e : Obj (record { scope = h.scope; slot = n }) ≡ Prim j = r in absurd (cc)
    value_written (tree.node id to es) n (frozen t) b r = let e : Obj (record { scope = h.scope; slot = n }) ≡ Frozen r.0 = r.1 in absurd (cc)
    value_written (tree.node id to es) n (object m of fs) b r =
        let q : n ≡ m = r.0 in
        let one : 1 + containers_in es ≡ suc (containers_in es) = omega arith in
        let next : n + 1 ≡ suc n = omega arith in
        let shows : Shows h n of fs = subst (λ (i : ℕ). Shows h i of fs) (sym q) r.1 in
        ap (λ (i : ℕ). is_marked (h.object i) || any_written h fs) (sym q)
        ∙ node_written n id to of es fs b shows (λ reads. rows_written es (n + 1) fs (children_opened h n id to es b) reads ∙ ap (λ (i : ℕ). any_marked h i (containers_in es)) next)
        ∙ ap (λ (c : ℕ). any_marked h n c) (sym one)

    pub rows_written : (es : Branches) (n : ℕ) (fs : Finals) → OpenedIn h n es → ReadsRows h fs (given_table (given.From (record { scope = h.scope; slot = n })) es) → any_written h fs ≡ any_marked h n (containers_in es)
    rows_written tree.none n none b r = refl
    rows_written tree.none n (entry k f fs) b r = absurd r
    rows_written (tree.branch k v es) n none b r = absurd r
    rows_written (tree.branch k v es) n (entry j f fs) b r =
        let first = value_written v n f (first_opened h n k v es b) r.1 in
        let rest = rows_written es (n + containers v) fs (rest_opened h n k v es b) r.2 in
        (λ i. first i || rest i) ∙ sym (marked_both h n (containers v) (containers_in es))

-- by the state that is its source
pub object_written : (h : Heap) → IsSound h → CopiesStand h → (n id : ℕ) (of : Kind) (es : Finals) → source_in (h.object n) ≡ Some id → Shows h n of es → is_written h (object n of es) ≡ any_marked h n (containers (tree_at h.states id))
object_written h s copies n id of es e shows = by (tree_at h.states id) refl
  where
    by : (u : Tree) → tree_at h.states id ≡ u → is_written h (object n of es) ≡ any_marked h n (containers (tree_at h.states id))
    by (tree.prim k) p = absurd (no_primitive h s id k (let there : HasSource h (Some id) = subst (HasSource h) e (s.sources n) in there) p)
    by (tree.node i to bs) p =
        value_written h (tree.node i to bs) n (object n of es) (subst (AreOpenedOn h n) p (opened_source h s copies n id e)) (refl, shows)
        ∙ ap (λ (u : Tree). any_marked h n (containers u)) (sym p)

named : (h : Heap) (n id : ℕ) (f : Final) → IsSound h → CopiesStand h → source_in (h.object n) ≡ Some id → Reads h f (Obj (record { scope = h.scope; slot = n })) → is_written h f ≡ any_marked h n (containers (tree_at h.states id))
named h n id (prim k) s copies e r = let q : Obj (record { scope = h.scope; slot = n }) ≡ Prim k = r in absurd (cc)
named h n id (frozen t) s copies e r = let q : Obj (record { scope = h.scope; slot = n }) ≡ Frozen r.0 = r.1 in absurd (cc)
named h n id (object m of es) s copies e r =
    let q : n ≡ m = r.0 in
    ap (λ (i : ℕ). is_written h (object i of es)) (sym q) ∙ object_written h s copies n id of es e (subst (λ (i : ℕ). Shows h i of es) (sym q) r.1)

pub written_by_names : (h : Heap) (levels n id : ℕ) (f : Final) → IsSound h → CopiesStand h → source_in (h.object n) ≡ Some id → read_value levels h (Obj (record { scope = h.scope; slot = n })) ≡ Some f → is_written h f ≡ any_marked h n (containers (tree_at h.states id))
written_by_names h levels n id f s copies e r = named h n id f s copies e (reads levels h (Obj (record { scope = h.scope; slot = n })) f r)
