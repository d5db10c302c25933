-- What was taken from the front of bytes, and how long it is.
use Rattle.std.proofs.Common.{◌≡◌, ℕ, ◌+◌, ◌-◌, ◌≤◌, List, ◌++◌, length, take, drop, Option, Some, None, sym, ap, ◌∙◌, arith}
use Rattle.std.proofs.lemmas.List.{take_at, take-append-drop, length-append}
use Rattle.std.proofs.lemmas.Option.{none-some}
use Rattle.value_bytes_spec.proofs.Fields.{some_is}
use Rattle.value_bytes_spec.specs.Formats.{IsFormat}
use Rattle.value_bytes_spec.specs.Numbers.{IsBytes}

module _ (A : Type 0) (spell : A → List ℕ) (good : A → Type 0) (read : List ℕ → Option (A × List ℕ)) (format : IsFormat A spell good read) where
  pub record Front (bytes : List ℕ) (x : A) (rest : List ℕ) : Type 0 where
    pub shorter : length rest ≤ length bytes
    pub counted : length bytes - length rest ≡ length (spell x)
    pub is : take (length bytes - length rest) bytes ≡ spell x
    pub ok : good x

  pub front : (bytes : List ℕ) (x : A) (rest : List ℕ) → IsBytes bytes → read bytes ≡ Some (x, rest) → Front bytes x rest
  front bytes x rest fits h =
      let t = format.takes bytes x rest fits h in
      let sum : length bytes ≡ length (spell x) + length rest = ap (λ (b : List ℕ). length b) t.0.parts ∙ length-append (spell x) rest in
      let n : length bytes - length rest ≡ length (spell x) = omega (arith, sum) in
      record { shorter = omega (arith, sum); counted = n; is = ap (λ (b : List ℕ). take (length bytes - length rest) b) t.0.parts ∙ take_at (spell x) rest _ (sym n); ok = t.1 }

  -- what stands at the front is what was read
  pub front_again : (bytes : List ℕ) (x : A) (rest : List ℕ) → IsBytes bytes → read bytes ≡ Some (x, rest) → (y : A) (more : List ℕ) → good y → bytes ≡ spell y ++ more → (x ≡ y) × (length bytes - length rest ≡ length (spell y))
  front_again bytes x rest fits h y more ok e =
      let both = some_is (x, rest) (y, more) (sym h ∙ ap read e ∙ format.again y more ok) in
      let same : x ≡ y = ap (λ (p : A × List ℕ). p.0) both in
      (same, (front bytes x rest fits h).counted ∙ ap (λ (z : A). length (spell z)) same)

  pub not_nothing : (bytes : List ℕ) → read bytes ≡ None → (y : A) (more : List ℕ) → good y → bytes ≡ spell y ++ more → ⊥
  not_nothing bytes h y more ok e = none-some (y, more) (sym h ∙ ap read e ∙ format.again y more ok)

  pub no_front : (bytes : List ℕ) → read bytes ≡ None → (y : A) (n : ℕ) → good y → take n bytes ≡ spell y → ⊥
  no_front bytes h y n ok e = not_nothing bytes h y (drop n bytes) ok (sym (take-append-drop n bytes) ∙ ap (λ (front : List ℕ). front ++ drop n bytes) e)
