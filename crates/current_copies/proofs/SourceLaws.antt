-- What is read from a sound heap gives a tree of sources that shows the same.
use Rattle.std.proofs.Common.{◌≡◌, ℕ, [], ◌∷◌, refl, ap, subst, Bool, true, false, Option, Some, None, inl}
use Rattle.value_model.specs.declared.kind.Kind.{Kind}
use Rattle.value_model.specs.Plain as plain_value
use Rattle.numbered.proofs.Laws.{of_number}
use Rattle.numbered.specs.Store.{IsNumber, tree_at}
use Rattle.numbered.specs.Tree.{plain, plains}
use Rattle.run_heap.specs.declared.content.Content.{Content}
use Rattle.run_heap.specs.declared.value.Rv.{Rv}
use Rattle.run_heap.specs.Heap.{Heap}
use Rattle.run_heap.specs.Operations.{Rows, source_in}
use Rattle.run_heap.specs.Sound.{IsSound, IsStored, RowsStored, IsContent}
use Rattle.result_trees.specs.Final.{Final, Finals, prim, frozen, object, none, entry, plain_of, plains_of}
use Rattle.result_trees.specs.Written.{is_written, kept, CopiesStand}
use Rattle.result_trees.proofs.KeptLaws.{kept_shown, source_number}
use Rattle.result_trees.proofs.Readings.{IfContent, Reads, ReadsRows, Shows}
use Rattle.current_copies.specs.Copies.{sourced, sources, sources_in}
use Rattle.current_copies.proofs.PlaceLaws.{IsSourced, AllSourced, store_sourced}

kept_source : (h : Heap) (n id : ℕ) (w : Bool) → kept h n w ≡ Some id → (w ≡ false) × (source_in (h.object n) ≡ Some id)
kept_source h n id true e = absurd (cc)
kept_source h n id false e = (refl, e)

record Inside (h : Heap) (of : Kind) (es : Finals) : Type 0 where
  rows : Rows
  reads : ReadsRows h es rows
  stored : RowsStored h rows

rows_of : (h : Heap) (of : Kind) (es : Finals) (o : Option Content) → IsContent h o → IfContent o (λ c. (c.kind ≡ of) × ReadsRows h es c.table) → Inside h of es
rows_of h of es None t a = absurd a
rows_of h of es (Some c) t a = record { rows = c.table; reads = a.1; stored = t.stored }

module _ (h : Heap) (s : IsSound h) (copies : CopiesStand h) where
  object_plain : (n : ℕ) (of : Kind) (es : Finals) (o : Option ℕ) → kept h n (is_written h (object n of es)) ≡ o → Shows h n of es → plains (sources_in h es) ≡ plains_of es → plain (sourced h of (sources_in h es) o) ≡ plain_of (object n of es)
  object_plain n of es None p shows inside = ap (plain_value.node of) inside
  object_plain n of es (Some id) p shows inside = let k = kept_source h n id (is_written h (object n of es)) p in kept_shown h s copies n of es id shows k.0 k.1

  mutual
    pub plain_sources : (f : Final) (v : Rv) → Reads h f v → plain (sources h f) ≡ plain_of f
    plain_sources (prim k) v r = refl
    plain_sources (frozen t) v r = refl
    plain_sources (object n of es) v r =
        let c = rows_of h of es (h.object n) (s.tables n) r.1 in
        object_plain n of es (kept h n (is_written h (object n of es))) refl r.1 (plains_sources es c.rows c.reads)

    pub plains_sources : (fs : Finals) (t : Rows) → ReadsRows h fs t → plains (sources_in h fs) ≡ plains_of fs
    plains_sources none t r = refl
    plains_sources (entry k f fs) [] r = absurd r
    plains_sources (entry k f fs) (e ∷ t) r =
        let first = plain_sources f e.1 r.1 in
        let rest = plains_sources fs t r.2 in
        λ i. plain_value.entry k (first i) (rest i)

  of_state : (id : ℕ) → IsNumber h.states id → IsSourced h.states (tree_at h.states id)
  of_state id n = store_sourced h.states s.store (tree_at h.states id) (of_number h.states id s.store n)

  object_sourced : (n : ℕ) (of : Kind) (es : Finals) (o : Option ℕ) → kept h n (is_written h (object n of es)) ≡ o → AllSourced h.states (sources_in h es) → IsSourced h.states (sourced h of (sources_in h es) o)
  object_sourced n of es None p inside = (inl refl, inside)
  object_sourced n of es (Some id) p inside = let k = kept_source h n id (is_written h (object n of es)) p in of_state id (source_number h s n id k.1)

  mutual
    pub sources_sourced : (f : Final) (v : Rv) → IsStored h v → Reads h f v → IsSourced h.states (sources h f)
    sources_sourced (prim k) v d r = tt
    sources_sourced (frozen t) v d r =
        let there : IsNumber h.states r.0 = subst (λ (w : Rv). IsStored h w) r.1 d in
        subst (IsSourced h.states) r.2 (of_state r.0 there)
    sources_sourced (object n of es) v d r =
        let c = rows_of h of es (h.object n) (s.tables n) r.1 in
        object_sourced n of es (kept h n (is_written h (object n of es))) refl (all_sourced es c.rows c.stored c.reads)

    pub all_sourced : (fs : Finals) (t : Rows) → RowsStored h t → ReadsRows h fs t → AllSourced h.states (sources_in h fs)
    all_sourced none t d r = tt
    all_sourced (entry k f fs) [] d r = absurd r
    all_sourced (entry k f fs) (e ∷ t) d r = (sources_sourced f e.1 d.0 r.1, all_sourced fs t d.1 r.2)
