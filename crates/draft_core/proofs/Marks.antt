-- Whether a draft was written, by the drafts that have a table: laws.
use Rattle.std.proofs.Common.{◌≡◌, ◌≢◌, ℕ, zero, suc, ◌<◌, List, [], ◌∷◌, length, get_or, refl, ap, sym, ◌∙◌, subst, arith, Bool, true, false, cond}
use Rattle.std.specs.Prelude.{◌&&◌, ◌||◌, ◌==◌, nat_lt, Option, Some, None}
use Rattle.std.specs.BTreeMap.{get, is_at}
use Rattle.std.specs.List.{All}
use Rattle.std.specs.Map.{lookup}
use Rattle.std.specs.Ordering.{nat_cmp, is_eq}
use Rattle.std.proofs.lemmas.Bool.{or_right}
use Rattle.value_model.specs.declared.kind.Kind.TheVariants as kind
use Rattle.value_model.specs.Search.{left_true, right_true}
use Rattle.numbered.specs.Tree.{Tree}
use Rattle.run_heap.specs.declared.content.Content.{Content}
use Rattle.run_heap.specs.Heap.{drafts}
use Rattle.run_heap.specs.Operations.{any_below, any_written, is_marked}
use Rattle.run_heap.specs.Laws.{left_false, right_false}
use Rattle.draft_core.specs.declared.scope.Scope.{Scope}
use Rattle.draft_core.proofs.Changed.{apart}
use Rattle.draft_core.proofs.Kept.{drafts_are, marked_touched}
use Rattle.draft_core.specs.Seen.{heap, Stands}
use Rattle.draft_core.specs.Marks.{marks}

-- a marked entry, where there is one
record Witness (k : ℕ) (es : List (ℕ × Content)) : Type 0 where
  index : ℕ
  inside : index < length es
  low : (d : ℕ × Content) → nat_lt (get_or es index d).0 k ≡ true
  marked : (d : ℕ × Content) → (get_or es index d).1.written ≡ true

any_true : (k n : ℕ) (p : ℕ → Bool) → n < k → p n ≡ true → any_below k p ≡ true
any_true zero n p l h = absurd (omega arith)
any_true (suc k) n p l h = elim (k == n) as (λ b. (k == n) ≡ b → (p k || any_below k p) ≡ true) [
  | true ↦ λ q. let e : k ≡ n = grind (arith, q) in rw (ap p e ∙ h) refl
  | false ↦ λ q. let less : n < k = grind (arith, q, l) in or_right (p k) (any_below k p) (any_true k n p less h)
] refl

any_false : (k : ℕ) (p : ℕ → Bool) → ((n : ℕ) → n < k → p n ≡ false) → any_below k p ≡ false
any_false zero p h = refl
any_false (suc k) p h = rw (h k (omega arith)) (any_false k p (λ n l. h n (omega (arith, l))))

witness : (k : ℕ) (es : List (ℕ × Content)) → marks k es ≡ true → Witness k es
witness k [] h = absurd (cc)
witness k (e ∷ es) h = elim (nat_lt e.0 k && e.1.written) as (λ b. (nat_lt e.0 k && e.1.written) ≡ b → (b || marks k es) ≡ true → Witness k (e ∷ es)) [
  | true ↦ λ p q. record { index = 0; inside = omega arith; low = λ d. left_true _ _ p; marked = λ d. right_true _ _ p }
  | false ↦ λ p q. let w = witness k es q in record { index = suc w.index; inside = let l = w.inside in omega (arith, l); low = w.low; marked = w.marked }
] refl h

same_name : (n q : ℕ) → is_eq (nat_cmp n q) ≡ true → n ≡ q
same_name n q h = elim (q == n) as (λ b. (q == n) ≡ b → n ≡ q) [
  | true ↦ λ p. grind (arith, p)
  | false ↦ λ p. let other : q ≢ n = grind (arith, p) in let no = apart n q other in absurd (cc)
] refl

not_marked : (a b : Bool) → (a && b) ≡ false → a ≡ true → b ≡ false
not_marked true b h e = h
not_marked false b h e = absurd (cc)

-- what is found isn't marked, where nothing is
found_plain : (k n : ℕ) (es : List (ℕ × Content)) (c : Content) → marks k es ≡ false → n < k → lookup (is_at (nat_cmp n)) es ≡ Some c → c.written ≡ false
found_plain k n [] c m l h = absurd (cc)
found_plain k n (e ∷ es) c m l h = elim (is_eq (nat_cmp n e.0)) as (λ b. is_eq (nat_cmp n e.0) ≡ b → cond b (Some e.1) (lookup (is_at (nat_cmp n)) es) ≡ Some c → c.written ≡ false) [
  | true ↦ λ p q.
      let name = same_name n e.0 p in
      let yes : nat_lt e.0 k ≡ true = grind (arith, l, name) in
      let is : e.1 ≡ c = cc in
      subst (λ (x : Content). x.written ≡ false) is (not_marked _ _ (left_false _ _ m) yes)
  | false ↦ λ p q. found_plain k n es c (right_false _ _ m) l q
] refl h

module _ (ts : List Tree) (s : Scope) (st : Stands ts s) where
  marked_at : (n : ℕ) (c : Content) → n < s.drafts → get nat_cmp s.touched n ≡ Some c → c.written ≡ true → any_written (heap ts s) ≡ true
  marked_at n c l there w =
      let count = drafts_are ts s st in
      any_true (drafts (heap ts s)) n (λ m. is_marked ((heap ts s).object m)) (omega (arith, l, count)) (marked_touched ts s n (Some c) l there ∙ w)

  some_mark : All (λ e. get nat_cmp s.touched e.0 ≡ Some e.1) s.touched.entries → (w : Witness s.drafts s.touched.entries) (d : ℕ × Content) → any_written (heap ts s) ≡ true
  some_mark found w d =
      let e = get_or s.touched.entries w.index d in
      let yes = w.low d in
      let low : e.0 < s.drafts = grind (arith, yes) in
      marked_at e.0 e.1 low (found w.index d w.inside) (w.marked d)

  plain_of : (n : ℕ) (o : Option Content) → n < s.drafts → marks s.drafts s.touched.entries ≡ false → get nat_cmp s.touched n ≡ o → is_marked ((heap ts s).object n) ≡ false
  plain_of n None l m e = marked_touched ts s n None l e
  plain_of n (Some c) l m e = marked_touched ts s n (Some c) l e ∙ found_plain s.drafts n s.touched.entries c m l e

  no_mark : marks s.drafts s.touched.entries ≡ false → any_written (heap ts s) ≡ false
  no_mark m = any_false (drafts (heap ts s)) (λ n. is_marked ((heap ts s).object n)) (λ n l. let count = drafts_are ts s st in plain_of n (get nat_cmp s.touched n) (omega (arith, l, count)) m refl)

  pub any_marks : All (λ e. get nat_cmp s.touched e.0 ≡ Some e.1) s.touched.entries → marks s.drafts s.touched.entries ≡ any_written (heap ts s)
  any_marks found = elim (marks s.drafts s.touched.entries) as (λ b. marks s.drafts s.touched.entries ≡ b → b ≡ any_written (heap ts s)) [
    | true ↦ λ p. sym (some_mark found (witness s.drafts s.touched.entries p) (0, record { kind = kind.Obj; table = []; source = None; written = false }))
    | false ↦ λ p. sym (no_mark p)
  ] refl
