-- Numbering gives a state of the store with the new states added, whose plain value is the result's.
use Rattle.std.proofs.Common.{◌≡◌, ℕ, ◌+◌, ◌-◌, ◌≤◌, List, [], ◌∷◌, ◌++◌, length, get_or, refl, ap, sym, ◌∙◌, subst, arith, Bool, true, false, cond, Option, Some, None, append_assoc, append-nil, Less, Equal, Greater, Ordering}
use Rattle.std.specs.Prelude.{◌^◌, ◌||◌, ◌&&◌, ⊤}
use Rattle.std.specs.FinMap.Entries.{find}
use Rattle.std.specs.Ordering.{nat_cmp, is_eq}
use Rattle.std.proofs.lemmas.Bool.{or_parts}
use Rattle.std.proofs.lemmas.Map.Lookups.{exact_unsigned}
use Rattle.value_model.specs.declared.key.Key.TheVariants as key
use Rattle.value_model.specs.declared.kind.Kind.{Kind}
use Rattle.value_model.specs.Limits.{state_limit, has_long_key, any_long_key, has_reserved_key, any_reserved_key, is_long_key, is_reserved_at}
use Rattle.value_model.specs.Places.{ascends_at}
use Rattle.value_model.specs.Plain as plain_value
use Rattle.value_model.specs.Plain.{Plain, Entries, depth, deepest, weight, weights, list_of}
use Rattle.value_model.specs.Search.{left_true, right_true}
use Rattle.value_model.specs.Well.{well, all_well, all_fit}
use Rattle.numbered.specs.Laws.{Extends}
use Rattle.numbered.proofs.Laws.{extends_refl, extends_then, extends_append, of_more, of_number, small_state}
use Rattle.numbered.specs.Store.{IsStore, IsOf, AllOf, IsNumber, IsNext, AreNext, tree_at}
use Rattle.numbered.specs.Tree as tree
use Rattle.numbered.specs.Tree.{Tree, Branches, plain, plains}
use Rattle.run_heap.specs.declared.value.Rv.{Rv}
use Rattle.run_heap.specs.declared.value.Rv.TheVariants.{Prim}
use Rattle.run_heap.specs.declared.content.Content.{Content}
use Rattle.run_heap.specs.Heap.{Heap}
use Rattle.run_heap.specs.Laws.{value_long, value_reserved}
use Rattle.run_heap.specs.Operations.{Rows, source_in}
use Rattle.run_heap.specs.Sound.{IsSound, IsStored, RowsStored, IsContent, HasSource}
use Rattle.result_trees.specs.Final.{Final, Finals, prim, frozen, object, none, entry, plain_of, plains_of}
use Rattle.result_trees.specs.Written.{is_written, kept, CopiesStand}
use Rattle.new_numbers.specs.Numbering.{Given, add, renumbered, numbered_object, numbered, numbered_in}
use Rattle.result_trees.proofs.KeptLaws.{kept_shown}
use Rattle.result_trees.proofs.OrderLaws.{IsAccepted, small}
use Rattle.result_trees.proofs.Readings.{IfContent, Reads, ReadsRows, Shows, same_object}

-- ---- what is inside an accepted value is accepted
abbrev pub AllAccepted : Entries → Type 0
AllAccepted plain_value.none = ⊤
AllAccepted (plain_value.entry k v es) = IsAccepted v × AllAccepted es

entries_accepted : (of : Kind) (es : Entries) → deepest es ≤ 32 → weights of es ≤ 2 ^ 20 → any_long_key es ≡ false → any_reserved_key of es ≡ false → all_well es ≡ true → AllAccepted es
entries_accepted of plain_value.none d w l r a = tt
entries_accepted of (plain_value.entry k v es) d w l r a =
    let long = or_parts (is_long_key k || has_long_key v) (any_long_key es) l in
    let kept = or_parts (is_reserved_at of k || has_reserved_key v) (any_reserved_key of es) r in
    let first : IsAccepted v = record {
      limit = small v (omega (arith, d)) (omega (arith, w)) (or_parts (is_long_key k) (has_long_key v) long.0).1 (or_parts (is_reserved_at of k) (has_reserved_key v) kept.0).1;
      well = left_true (well v) (all_well es) a;
    } in
    (first, entries_accepted of es (omega (arith, d)) (omega (arith, w)) long.1 kept.1 (right_true (well v) (all_well es) a))

inside_accepted : (of : Kind) (es : Entries) → IsAccepted (plain_value.node of es) → AllAccepted es
inside_accepted of es a =
    let measures = small_state (plain_value.node of es) a.limit in
    let d = measures.depth in
    let w = measures.weight in
    entries_accepted of es (omega (arith, d)) (omega (arith, w)) (value_long (plain_value.node of es) a.limit) (value_reserved (plain_value.node of es) a.limit)
    (right_true (ascends_at of (list_of es) && all_fit of es) (all_well es) a.well)

-- ---- a state more
next_push : (us more : List Tree) (t : Tree) → AreNext us more → IsNext (us ++ more) t → AreNext us (more ++ t ∷ [])
next_push us [] t a n = (subst (λ (xs : List Tree). IsNext xs t) (append-nil us) n, tt)
next_push us (u ∷ more) t a n = (a.0, next_push (us ++ u ∷ []) more t a.1 (subst (λ (xs : List Tree). IsNext xs t) (sym (append_assoc us (u ∷ []) more)) n))

last_of : (us : List Tree) (t d : Tree) → get_or (us ++ t ∷ []) (length us) d ≡ t
last_of [] t d = refl
last_of (u ∷ us) t d = last_of us t d

length_both : (us vs : List Tree) → length (us ++ vs) ≡ length us + length vs
length_both [] vs = omega arith
length_both (u ∷ us) vs = omega (arith, length_both us vs)

last_is : (us : List Tree) (id : ℕ) (of : Kind) (es : Branches) → id ≡ length us + 1 → IsOf (us ++ tree.node id of es ∷ []) (tree.node id of es)
last_is us id of es e =
    let l = length_both us (tree.node id of es ∷ []) in
    let z : id - 1 ≡ length us = omega (arith, e) in
    ((omega (arith, e), omega (arith, e, l)), ap (λ (i : ℕ). get_or (us ++ tree.node id of es ∷ []) i (tree.prim key.Null)) z ∙ last_of us (tree.node id of es) (tree.prim key.Null))

-- the content of an object that is read
record Inside (h : Heap) (n : ℕ) (of : Kind) (es : Finals) : Type 0 where
  rows : Rows
  reads : ReadsRows h es rows
  stored : RowsStored h rows

inside : (h : Heap) (n : ℕ) (of : Kind) (es : Finals) (o : Option Content) → IsContent h o → IfContent o (λ c. (c.kind ≡ of) × ReadsRows h es c.table) → Inside h n of es
inside h n of es None t a = absurd a
inside h n of es (Some c) t a = record { rows = c.table; reads = a.1; stored = t.stored }

kept_source : (h : Heap) (n id : ℕ) (w : Bool) → kept h n w ≡ Some id → (w ≡ false) × (source_in (h.object n) ≡ Some id)
kept_source h n id true e = absurd (cc)
kept_source h n id false e = (refl, e)

module _ (ts : List Tree) (h : Heap) (st : IsStore ts) (ext : Extends h.states ts) (s : IsSound h) (copies : CopiesStand h) where
  -- a state that an object got: it shows the object
  abbrev pub IsDone : List Tree → ℕ → Tree → Type 0
  IsDone us n t = IsOf us t × ((of : Kind) (es : Finals) → Shows h n of es → plain t ≡ plain_of (object n of es))

  abbrev pub AllDone : List Tree → List (ℕ × Tree) → Type 0
  AllDone us [] = ⊤
  AllDone us (d ∷ ds) = IsDone us d.0 d.1 × AllDone us ds

  done_more : (us vs : List Tree) (ds : List (ℕ × Tree)) → Extends us vs → AllDone us ds → AllDone vs ds
  done_more us vs [] e a = tt
  done_more us vs (d ∷ ds) e a = ((of_more us vs d.1 e a.0.0, a.0.1), done_more us vs ds e a.1)

  done_first : (us : List Tree) (n m : ℕ) (t u : Tree) (o : Option Tree) (c : Ordering) → nat_cmp n m ≡ c → IsDone us m u → (o ≡ Some t → IsDone us n t) → cond (is_eq c) (Some u) o ≡ Some t → IsDone us n t
  done_first us n m t u o Less p d rest e = rest e
  done_first us n m t u o Greater p d rest e = rest e
  done_first us n m t u o Equal p d rest e =
      let q : u ≡ t = cc in
      subst (λ (i : ℕ). IsDone us i t) (sym (exact_unsigned n m p)) (subst (λ (x : Tree). IsDone us m x) q d)

  done_found : (us : List Tree) (n : ℕ) (t : Tree) (ds : List (ℕ × Tree)) → AllDone us ds → find nat_cmp n ds ≡ Some t → IsDone us n t
  done_found us n t [] a e = absurd (cc)
  done_found us n t (d ∷ ds) a e = done_first us n d.0 t d.1 (find nat_cmp n ds) (nat_cmp n d.0) refl a.0 (done_found us n t ds a.1) e

  abbrev pub all_states : Given → List Tree
  all_states g = ts ++ g.news

  pub record IsGiven (g : Given) : Type 0 where
    pub store : IsStore (all_states g)
    pub done : AllDone (all_states g) g.done

  pub record IsNumbered (f : Final) (g : Given) (a : Tree × Given) : Type 0 where
    pub given : IsGiven a.1
    pub of : IsOf (all_states a.1) a.0
    pub plain : plain a.0 ≡ plain_of f
    pub more : Extends (all_states g) (all_states a.1)

  pub record AreNumbered (fs : Finals) (g : Given) (a : Branches × Given) : Type 0 where
    pub given : IsGiven a.1
    pub all : AllOf (all_states a.1) a.0
    pub plains : plains a.0 ≡ plains_of fs
    pub more : Extends (all_states g) (all_states a.1)

  old_state : (id : ℕ) (g : Given) → IsNumber h.states id → IsOf (all_states g) (tree_at h.states id)
  old_state id g n =
      of_more ts (all_states g) (tree_at h.states id) (extends_append ts g.news)
      (of_more h.states ts (tree_at h.states id) ext (of_number h.states id s.store n))

  -- a further state
  added_law : (n : ℕ) (of : Kind) (es : Finals) (g : Given) (a : Branches × Given) → Shows h n of es → IsAccepted (plain_of (object n of es)) → AreNumbered es g a → IsNumbered (object n of es) g (add ts n of a)
  added_law n of es g a shows ok i =
      let us = all_states a.1 in
      let id = length ts + length a.1.news + 1 in
      let t = tree.node id of a.0 in
      let number : id ≡ length us + 1 = omega (arith, length_both ts a.1.news) in
      let value : plain_value.node of (plains_of es) ≡ plain t = ap (plain_value.node of) (sym i.plains) in
      let next : IsNext us t = record {
        number = number;
        children = i.all;
        accepted = subst (λ (v : Plain). state_limit v ≡ None) value ok.limit;
        well = subst (λ (v : Plain). well v ≡ true) value ok.well;
      } in
      let same : us ++ t ∷ [] ≡ ts ++ (a.1.news ++ t ∷ []) = append_assoc ts a.1.news (t ∷ []) in
      let longer = extends_append us (t ∷ []) in
      let store = subst IsStore same (next_push [] us t i.given.store next) in
      let here = subst (λ (xs : List Tree). IsOf xs t) same (last_is us id of a.0 number) in
      let before = subst (λ (xs : List Tree). AllDone xs a.1.done) same (done_more us (us ++ t ∷ []) a.1.done longer i.given.done) in
      record {
        given = record { store = store; done = ((here, λ to fs b. sym value ∙ ap plain_of (same_object h n of to es fs shows b)), before) };
        of = here;
        plain = sym value;
        more = subst (λ (xs : List Tree). Extends (all_states g) xs) same (extends_then (all_states g) us (us ++ t ∷ []) i.more longer);
      }

  renumbered_law : (n : ℕ) (of : Kind) (es : Finals) (inner : Given → Branches × Given) (g : Given) (o : Option Tree) → find nat_cmp n g.done ≡ o → IsGiven g → Shows h n of es → IsAccepted (plain_of (object n of es))
      → AreNumbered es g (inner g) → IsNumbered (object n of es) g (renumbered ts n of inner g o)
  renumbered_law n of es inner g (Some t) p i shows ok a =
      let d = done_found (all_states g) n t g.done i.done p in
      record { given = i; of = d.0; plain = d.1 of es shows; more = extends_refl (all_states g) }
  renumbered_law n of es inner g None p i shows ok a = added_law n of es g (inner g) shows ok a

  object_law : (n : ℕ) (of : Kind) (es : Finals) (g : Given) (o : Option ℕ) → kept h n (is_written h (object n of es)) ≡ o → IsGiven g → Shows h n of es → IsAccepted (plain_of (object n of es))
      → AreNumbered es g (numbered_in ts h es g) → IsNumbered (object n of es) g (numbered_object ts h n of (numbered_in ts h es) g o)
  object_law n of es g None p i shows ok a = renumbered_law n of es (numbered_in ts h es) g (find nat_cmp n g.done) refl i shows ok a
  object_law n of es g (Some id) p i shows ok a =
      let k = kept_source h n id (is_written h (object n of es)) p in
      let there : IsNumber h.states id = subst (λ (o : Option ℕ). HasSource h o) k.1 (s.sources n) in
      record { given = i; of = old_state id g there; plain = kept_shown h s copies n of es id shows k.0 k.1; more = extends_refl (all_states g) }

  mutual
    pub number_law : (f : Final) (v : Rv) (g : Given) → IsGiven g → IsStored h v → Reads h f v → IsAccepted (plain_of f) → IsNumbered f g (numbered ts h f g)
    number_law (prim k) v g i d r ok = record { given = i; of = tt; plain = refl; more = extends_refl (all_states g) }
    number_law (frozen t) v g i d r ok =
        let there : IsNumber h.states r.0 = subst (λ (w : Rv). IsStored h w) r.1 d in
        record { given = i; of = subst (λ (x : Tree). IsOf (all_states g) x) r.2 (old_state r.0 g there); plain = refl; more = extends_refl (all_states g) }
    number_law (object n of es) v g i d r ok =
        let c = inside h n of es (h.object n) (s.tables n) r.1 in
        object_law n of es g (kept h n (is_written h (object n of es))) refl i r.1 ok
        (numbers_law es c.rows g i c.stored c.reads (inside_accepted of (plains_of es) ok))

    pub numbers_law : (fs : Finals) (t : Rows) (g : Given) → IsGiven g → RowsStored h t → ReadsRows h fs t → AllAccepted (plains_of fs) → AreNumbered fs g (numbered_in ts h fs g)
    numbers_law none t g i d r ok = record { given = i; all = tt; plains = refl; more = extends_refl (all_states g) }
    numbers_law (entry k f fs) [] g i d r ok = absurd r
    numbers_law (entry k f fs) (e ∷ t) g i d r ok =
        let a = numbered ts h f g in
        let first = number_law f e.1 g i d.0 r.1 ok.0 in
        let rest = numbers_law fs t a.1 first.given d.1 r.2 ok.1 in
        let b = numbered_in ts h fs a.1 in
        record {
          given = rest.given;
          all = (of_more (all_states a.1) (all_states b.1) a.0 rest.more first.of, rest.all);
          plains = let p = first.plain in let q = rest.plains in λ j. plain_value.entry k (p j) (q j);
          more = extends_then (all_states g) (all_states a.1) (all_states b.1) first.more rest.more;
        }
