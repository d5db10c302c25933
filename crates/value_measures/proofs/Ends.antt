-- Where one of two lists ends, they are the same from there on exactly where the other ends too.
use Rattle.std.proofs.Common.{◌≡◌, ℕ, zero, suc, ◌+◌, ◌-◌, ◌≤◌, Bool, true, false, List, [], ◌∷◌, length, drop, map, refl, sym, ap, ◌∙◌, arith, ◌⊎◌, inl, inr, eqb}
use Rattle.std.specs.Prelude.{nat_eq}
use Rattle.std.proofs.lemmas.List.{length-drop, drop_all}
use Rattle.value_model.specs.declared.key.Key.{Key}
use Rattle.value_model.specs.Plain.{Plain, entries}
use Rattle.value_measures.specs.Same.{same_entries}

module _ {X : Type 0} (f : X → Key × Plain) where
  -- one of them is empty
  none_left : (xs ys : List X) → (xs ≡ []) ⊎ (ys ≡ []) → nat_eq (length xs) (length ys) ≡ same_entries (entries (map f xs)) (entries (map f ys))
  none_left [] [] e = refl
  none_left [] (y ∷ ys) e = let other : nat_eq 0 (suc (length ys)) ≡ false = grind arith in other
  none_left (x ∷ xs) [] e = let other : nat_eq (suc (length xs)) 0 ≡ false = grind arith in other
  none_left (x ∷ xs) (y ∷ ys) (inl e) = absurd cc
  none_left (x ∷ xs) (y ∷ ys) (inr e) = absurd cc

  lengths : (a b i : ℕ) → i ≤ a → i ≤ b → nat_eq a b ≡ nat_eq (a - i) (b - i)
  lengths a b i h k = grind arith

  pub at_end : (xs ys : List X) (i : ℕ) → i ≤ length xs → i ≤ length ys → (length xs ≤ i) ⊎ (length ys ≤ i) → nat_eq (length xs) (length ys) ≡ same_entries (entries (map f (drop i xs))) (entries (map f (drop i ys)))
  at_end xs ys i h k (inl e) = lengths (length xs) (length ys) i h k ∙ rw (sym (length-drop i xs), sym (length-drop i ys)) (none_left (drop i xs) (drop i ys) (inl (drop_all i xs e)))
  at_end xs ys i h k (inr e) = lengths (length xs) (length ys) i h k ∙ rw (sym (length-drop i xs), sym (length-drop i ys)) (none_left (drop i xs) (drop i ys) (inr (drop_all i ys e)))
