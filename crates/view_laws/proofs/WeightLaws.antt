-- The weights of a container as a finite map: what stands at a step, and what bringing them up to date leaves there.
use Rattle.std.specs.Prelude.{◌≡◌, ◌≢◌, ℕ, ◌+◌, pos, negsuc, Bool, true, false, List, [], ◌∷◌, map, not, ◌||◌, Option, Some, None, IsTrue, option_map, refl}
use Rattle.std.proofs.Common.{zero, suc, ap, sym, subst, ◌∙◌, arith, cond, Equal}
use Rattle.std.specs.Ordering.{eq_by_cmp}
use Rattle.std.specs.FinMap.Entries.{find, put, where_key, is_sorted, find-put, find-where_key}
use Rattle.value_model.specs.declared.key.Key.{Key}
use Rattle.value_model.specs.declared.key.Key.TheVariants as key
use Rattle.value_model.specs.declared.kind.Kind.{Kind}
use Rattle.value_model.specs.declared.kind.Kind.TheVariants as kind
use Rattle.value_model.specs.Order.{key_cmp, key_total, key_exact}
use Rattle.value_model.specs.Places.{child_at}
use Rattle.value_model.specs.Plain.{Plain, Entries, prim, node, none, entry, list_of}
use Rattle.value_model.proofs.Tables.{is_eq-same, is_eq-other}
use Rattle.guards_views_spec.specs.declared.Weigh.{Weigh}
use Rattle.guards_views_spec.specs.Shapes.{step_at}
use Rattle.guards_views_spec.specs.Views.{Weights, weighs, weights_in, weights_of, with_entry, updated}
use Rattle.derived_views.proofs.Scratch.{put_sorted, without_sorted}
use Rattle.view_laws.specs.Standing.{entry_at}
use Rattle.view_laws.proofs.EditLaws.{element_at, same_key, other_key}

-- ---- what an entry adds, under its step
module _ (w : Weigh) where
  -- a key that is this one, or isn't
  one_more : (b : Bool) (v : Plain) (o : Option Plain) (p : Option ℕ) → p ≡ option_map (weighs w) o → cond b (Some (weighs w v)) p ≡ option_map (weighs w) (cond b (Some v) o)
  one_more true v o p e = refl
  one_more false v o p e = e

  -- where the steps are the keys
  by_key : (kind : Kind) → ((i : ℕ) (j : Key) → step_at kind i j ≡ j) → (k : Key) (i : ℕ) (es : Entries) → find key_cmp k (weights_in w kind i es) ≡ option_map (weighs w) (find key_cmp k (list_of es))
  by_key kind steps k i none = refl
  by_key kind steps k i (entry j v es) =
      ap (λ (s : Key). cond (eq_by_cmp key_cmp k s) (Some (weighs w v)) (find key_cmp k (weights_in w kind (i + 1) es))) (steps i j)
      ∙ one_more (eq_by_cmp key_cmp k j) v (find key_cmp k (list_of es)) _ (by_key kind steps k (i + 1) es)

  -- a list's steps are its indexes
  apart : (i m : ℕ) → key.Int (pos (i + suc m)) ≢ key.Int (pos i)
  apart i m e = let p : pos (i + suc m) ≡ pos i = cc in let n : i + suc m ≡ i = cc in absurd (omega arith)

  by_index : (n i : ℕ) (es : Entries) → find key_cmp (key.Int (pos (i + n))) (weights_in w kind.List i es) ≡ option_map (weighs w) (element_at n (list_of es))
  by_index n i none = refl
  by_index zero i (entry j v es) =
      let here : i + zero ≡ i = omega arith in
      let same : eq_by_cmp key_cmp (key.Int (pos (i + zero))) (key.Int (pos i)) ≡ true = ap (λ (m : ℕ). eq_by_cmp key_cmp (key.Int (pos m)) (key.Int (pos i))) here ∙ is_eq-same (key.Int (pos i)) in
      ap (λ (b : Bool). cond b (Some (weighs w v)) (find key_cmp (key.Int (pos (i + zero))) (weights_in w kind.List (i + 1) es))) same
  by_index (suc n) i (entry j v es) =
      let later : i + suc n ≡ (i + 1) + n = omega arith in
      let other = is_eq-other (key.Int (pos (i + suc n))) (key.Int (pos i)) (apart i n) in
      ap (λ (b : Bool). cond b (Some (weighs w v)) (find key_cmp (key.Int (pos (i + suc n))) (weights_in w kind.List (i + 1) es))) other
      ∙ ap (λ (m : ℕ). find key_cmp (key.Int (pos m)) (weights_in w kind.List (i + 1) es)) later
      ∙ by_index n (i + 1) es

  -- no other key is an index
  no_index : (k : Key) → ((n : ℕ) → k ≢ key.Int (pos n)) → (i : ℕ) (es : Entries) → find key_cmp k (weights_in w kind.List i es) ≡ None
  no_index k d i none = refl
  no_index k d i (entry j v es) =
      ap (λ (b : Bool). cond b (Some (weighs w v)) (find key_cmp k (weights_in w kind.List (i + 1) es))) (is_eq-other k (key.Int (pos i)) (d i)) ∙ no_index k d (i + 1) es

  in_list : (k : Key) (es : Entries) → find key_cmp k (weights_in w kind.List 0 es) ≡ option_map (weighs w) (child_at kind.List k (list_of es))
  in_list key.Null es = no_index key.Null (λ n e. cc) 0 es
  in_list (key.Bool b) es = no_index (key.Bool b) (λ n e. cc) 0 es
  in_list (key.Int (pos n)) es =
      let first : n ≡ 0 + n = omega arith in
      ap (λ (m : ℕ). find key_cmp (key.Int (pos m)) (weights_in w kind.List 0 es)) first ∙ by_index n 0 es
  in_list (key.Int (negsuc n)) es = no_index (key.Int (negsuc n)) (λ m e. let p : negsuc n ≡ pos m = cc in cc) 0 es
  in_list (key.Text s) es = no_index (key.Text s) (λ n e. cc) 0 es

  pub found : (k : Key) (o : Option Plain) → find key_cmp k (weights_of w o) ≡ option_map (weighs w) (entry_at k o)
  found k None = refl
  found k (Some (prim j)) = refl
  found k (Some (node kind.Obj es)) = by_key kind.Obj (λ i j. refl) k 0 es
  found k (Some (node kind.List es)) = in_list k es
  found k (Some (node kind.Map es)) = by_key kind.Map (λ i j. refl) k 0 es
  found k (Some (node kind.Set es)) = by_key kind.Set (λ i j. refl) k 0 es

-- ---- an entry that is set or taken out
at_put : (q k : Key) (n : ℕ) (es : Weights) → find key_cmp q (put key_cmp k n es) ≡ cond (eq_by_cmp key_cmp q k) (Some n) (find key_cmp q es)
at_put q k n es = find-put key_cmp key_total q k n es

alike : (p : Key → Bool) (q x : Key) → key_cmp q x ≡ Equal → p x ≡ p q
alike p q x e = ap p (sym (key_exact q x e))

at_cut : (q k : Key) (es : Weights) → find key_cmp q (where_key key_cmp (λ j. not (eq_by_cmp key_cmp k j)) es) ≡ cond (not (eq_by_cmp key_cmp k q)) (find key_cmp q es) None
at_cut q k es = find-where_key key_cmp (λ j. not (eq_by_cmp key_cmp k j)) q (alike (λ j. not (eq_by_cmp key_cmp k j)) q) es

module _ (w : Weigh) where
  entry_here : (k : Key) (o : Option Plain) (es : Weights) → find key_cmp k (with_entry w (k, o) es) ≡ option_map (weighs w) o
  entry_here k None es = at_cut k k es ∙ ap (λ (b : Bool). cond (not b) (find key_cmp k es) None) (is_eq-same k)
  entry_here k (Some v) es = at_put k k (weighs w v) es ∙ ap (λ (b : Bool). cond b (Some (weighs w v)) (find key_cmp k es)) (is_eq-same k)

  entry_other : (q k : Key) (o : Option Plain) (es : Weights) → q ≢ k → find key_cmp q (with_entry w (k, o) es) ≡ find key_cmp q es
  entry_other q k None es d = at_cut q k es ∙ ap (λ (b : Bool). cond (not b) (find key_cmp q es) None) (is_eq-other k q (λ e. d (sym e)))
  entry_other q k (Some v) es d = at_put q k (weighs w v) es ∙ ap (λ (b : Bool). cond b (Some (weighs w v)) (find key_cmp q es)) (is_eq-other q k d)

  entry_sorted : (k : Key) (o : Option Plain) (es : Weights) → IsTrue (is_sorted key_cmp es) → IsTrue (is_sorted key_cmp (with_entry w (k, o) es))
  entry_sorted k None es s = without_sorted k es s
  entry_sorted k (Some v) es s = put_sorted k (weighs w v) es s

-- ---- entries one after another, each as a function of its key
-- whether a key is among these
abbrev pub has_key : Key → List Key → Bool
has_key k [] = false
has_key k (j ∷ ks) = eq_by_cmp key_cmp k j || has_key k ks

abbrev pub changes_of : (Key → Option Plain) → List Key → List (Key × Option Plain)
changes_of f ks = map (λ (k : Key). let c : Key × Option Plain = (k, f k) in c) ks

module _ (w : Weigh) (f : Key → Option Plain) where
  pub updated_sorted : (ks : List Key) (es : Weights) → IsTrue (is_sorted key_cmp es) → IsTrue (is_sorted key_cmp (updated w (changes_of f ks) es))
  updated_sorted [] es s = s
  updated_sorted (j ∷ ks) es s = updated_sorted ks (with_entry w (j, f j) es) (entry_sorted w j (f j) es s)

  -- after the entry of j, k is right where it was before, or is j
  next_right : (k j : Key) (b : Bool) (es : Weights) → eq_by_cmp key_cmp k j ≡ b → (b ≡ false → find key_cmp k es ≡ option_map (weighs w) (f k)) → find key_cmp k (with_entry w (j, f j) es) ≡ option_map (weighs w) (f k)
  next_right k j true es e h = subst (λ (q : Key). find key_cmp q (with_entry w (j, f j) es) ≡ option_map (weighs w) (f q)) (sym (same_key k j e)) (entry_here w j (f j) es)
  next_right k j false es e h = entry_other w k j (f j) es (other_key k j e) ∙ h refl

  neither : (a b : Bool) → a ≡ false → b ≡ false → (a || b) ≡ false
  neither a b p q = rw (p, q) refl

  pub updated_right : (k : Key) (ks : List Key) (es : Weights) → (has_key k ks ≡ false → find key_cmp k es ≡ option_map (weighs w) (f k)) → find key_cmp k (updated w (changes_of f ks) es) ≡ option_map (weighs w) (f k)
  updated_right k [] es h = h refl
  updated_right k (j ∷ ks) es h =
      updated_right k ks (with_entry w (j, f j) es) (λ n. next_right k j (eq_by_cmp key_cmp k j) es refl (λ m. h (neither (eq_by_cmp key_cmp k j) (has_key k ks) m n)))
