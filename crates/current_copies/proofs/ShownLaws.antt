-- What stands for a copy is read as what was copied.
use Rattle.std.proofs.Common.{◌≡◌, ℕ, suc, ◌+◌, ◌-◌, ◌<◌, ◌≤◌, refl, ap, sym, ◌∙◌, subst, arith, true, false, Option, Some}
use Rattle.std.specs.Prelude.{nat_lt, IsSomeAnd}
use Rattle.value_model.specs.declared.key.Key.{Key}
use Rattle.value_model.specs.declared.kind.Kind.{Kind}
use Rattle.value_model.specs.Plain as plain_value
use Rattle.value_model.specs.Plain.{depth, weight}
use Rattle.numbered.specs.Tree as tree
use Rattle.numbered.specs.Tree.{Tree, Branches, plain, plains, containers, containers_in, place, place_in}
use Rattle.run_heap.specs.declared.content.Content.{Content}
use Rattle.run_heap.specs.declared.value.Rv.{Rv}
use Rattle.run_heap.specs.declared.value.Given.TheVariants as given
use Rattle.run_heap.specs.Heap.{Heap, given_table, given_value}
use Rattle.run_heap.specs.Sound.{IsSound, IsStored, Grows}
use Rattle.result_trees.specs.Final.{Final, Finals, prim, object, none, entry, plain_of, plains_of, read_value, final, returned}
use Rattle.result_trees.specs.Written.{CopiesStand}
use Rattle.result_trees.proofs.BackLaws.{height, tallest, read_back}
use Rattle.result_trees.proofs.OrderLaws.{InOrder, in_order}
use Rattle.result_trees.proofs.Readings.{IfContent, Reads, ReadsRows, reads}
use Rattle.current_copies.specs.Copies.{source_of, made_at, sources, with_copy, copy_root}
use Rattle.current_copies.proofs.CopyLaws.{new_object, copy_sound, copy_grows, copy_copies}
use Rattle.current_copies.proofs.PlaceLaws.{IsSourced}
use Rattle.current_copies.proofs.SourceLaws.{plain_sources, sources_sourced}

-- the result tree of a copy whose first object has this name
abbrev mutual
  named : ℕ → Tree → Final
  named n (tree.prim k) = prim k
  named n (tree.node id of es) = object n of (all_named (n + 1) es)

  all_named : ℕ → Branches → Finals
  all_named n tree.none = none
  all_named n (tree.branch k v es) = entry k (named n v) (all_named (n + containers v) es)

mutual
  plain_named : (n : ℕ) (t : Tree) → plain_of (named n t) ≡ plain t
  plain_named n (tree.prim k) = refl
  plain_named n (tree.node id of es) = ap (plain_value.node of) (plains_named (n + 1) es)

  plains_named : (n : ℕ) (es : Branches) → plains_of (all_named n es) ≡ plains es
  plains_named n tree.none = refl
  plains_named n (tree.branch k v es) =
      let first = plain_named n v in
      let rest = plains_named (n + containers v) es in
      λ i. plain_value.entry k (first i) (rest i)

mutual
  height_named : (n : ℕ) (t : Tree) → height (named n t) ≤ containers t
  height_named n (tree.prim k) = omega arith
  height_named n (tree.node id of es) = omega (arith, tallest_named (n + 1) es)

  tallest_named : (n : ℕ) (es : Branches) → tallest (all_named n es) ≤ containers_in es
  tallest_named n tree.none = omega arith
  tallest_named n (tree.branch k v es) = omega (arith, height_named n v, tallest_named (n + containers v) es)

module _ (h : Heap) where
  -- the objects from n on are those of these places
  abbrev Placed : ℕ → Tree → Type 0
  Placed n t = (q : ℕ) → q < containers t → h.object (n + q) ≡ made_at h.scope (n + q) (place q t)

  abbrev PlacedIn : ℕ → Branches → Type 0
  PlacedIn n es = (q : ℕ) → q < containers_in es → h.object (n + q) ≡ made_at h.scope (n + q) (place_in q es)

  moved : (m n : ℕ) (o : Option Tree) → m ≡ n → h.object m ≡ made_at h.scope m o → h.object n ≡ made_at h.scope n o
  moved m n o e a = subst (λ (i : ℕ). h.object i ≡ made_at h.scope i o) e a

  first_placed : (n : ℕ) (k : Key) (v : Tree) (es : Branches) → PlacedIn n (tree.branch k v es) → Placed n v
  first_placed n k v es b q l =
      let yes : nat_lt q (containers v) ≡ true = grind (arith, l) in
      let same : place_in q (tree.branch k v es) ≡ place q v = rw yes refl in
      b q (omega (arith, l)) ∙ ap (made_at h.scope (n + q)) same

  rest_placed : (n : ℕ) (k : Key) (v : Tree) (es : Branches) → PlacedIn n (tree.branch k v es) → PlacedIn (n + containers v) es
  rest_placed n k v es b q l =
      let no : nat_lt (containers v + q) (containers v) ≡ false = grind arith in
      let back : containers v + q - containers v ≡ q = omega arith in
      let same : place_in (containers v + q) (tree.branch k v es) ≡ place_in q es = rw (no, back) refl in
      moved (n + (containers v + q)) (n + containers v + q) (place_in q es) (omega arith)
      (b (containers v + q) (omega (arith, l)) ∙ ap (made_at h.scope (n + (containers v + q))) same)

  children_placed : (n id : ℕ) (of : Kind) (es : Branches) → Placed n (tree.node id of es) → PlacedIn (n + 1) es
  children_placed n id of es b q l = moved (n + suc q) (n + 1 + q) (place_in q es) (omega arith) (b (suc q) (omega (arith, l)))

  here_placed : (n id : ℕ) (of : Kind) (es : Branches) → Placed n (tree.node id of es)
      → h.object n ≡ Some (record { kind = of; table = given_table (given.From (record { scope = h.scope; slot = n + 1 })) es; source = source_of (Some id); written = false })
  here_placed n id of es b = moved (n + 0) n (Some (tree.node id of es)) (omega arith) (b 0 (omega arith))

  mutual
    reads_copy : (n : ℕ) (t : Tree) → Placed n t → Reads h (named n t) (given_value (given.From (record { scope = h.scope; slot = n })) t)
    reads_copy n (tree.prim k) b = refl
    reads_copy n (tree.node id of es) b = (
      refl,
      subst (λ (o : Option Content). IfContent o (λ c. (c.kind ≡ of) × ReadsRows h (all_named (n + 1) es) c.table)) (sym (here_placed n id of es b)) (refl, rows_copy (n + 1) es (children_placed n id of es b)),
    )

    rows_copy : (n : ℕ) (es : Branches) → PlacedIn n es → ReadsRows h (all_named n es) (given_table (given.From (record { scope = h.scope; slot = n })) es)
    rows_copy n tree.none b = tt
    rows_copy n (tree.branch k v es) b = (refl, reads_copy n v (first_placed n k v es b), rows_copy (n + containers v) es (rest_placed n k v es b))

root_given : (h : Heap) (t : Tree) → copy_root t h ≡ given_value (given.From (record { scope = h.scope; slot = h.next })) t
root_given h (tree.prim k) = refl
root_given h (tree.node id of es) = refl

module _ (h : Heap) (s : IsSound h) (copies : CopiesStand h) (v : Rv) (f : Final) (d : IsStored h (returned h v)) (e : final h v ≡ Some f) where
  abbrev copy : Tree
  copy = sources h f

  abbrev after : Heap
  after = with_copy copy h

  read : Reads h f (returned h v)
  read = reads h.next h (returned h v) f e

  same : plain copy ≡ plain_of f
  same = plain_sources h s copies f (returned h v) read

  sourced : IsSourced h.states copy
  sourced = sources_sourced h s copies f (returned h v) d read

  ordered : InOrder (plain copy)
  ordered = subst InOrder (sym same) (in_order h s f (returned h v) d read)

  pub sound_after : IsSound after
  sound_after = copy_sound h copy s sourced ordered

  pub grows_after : Grows h after
  grows_after = copy_grows h copy s sourced ordered

  pub copies_after : CopiesStand after
  copies_after = copy_copies h copy s sourced ordered copies

  placed : Placed after h.next copy
  placed q l =
      let back : h.next + q - h.next ≡ q = omega arith in
      new_object h copy s sourced ordered (h.next + q) (omega arith) ∙ ap (λ (i : ℕ). made_at h.scope (h.next + q) (place i copy)) back

  pub copy_read : (levels : ℕ) → containers copy ≤ levels → IsSomeAnd (read_value levels after (copy_root copy h)) (λ g. plain_of g ≡ plain_of f)
  copy_read levels le =
      let tree_read = subst (λ (w : Rv). Reads after (named h.next copy) w) (sym (root_given h copy)) (reads_copy after h.next copy placed) in
      let low = height_named h.next copy in
      let some : read_value levels after (copy_root copy h) ≡ Some (named h.next copy) = read_back (named h.next copy) after (copy_root copy h) levels tree_read (omega (arith, low, le)) in
      subst (λ (o : Option Final). IsSomeAnd o (λ g. plain_of g ≡ plain_of f)) (sym some) (plain_named h.next copy ∙ same)
