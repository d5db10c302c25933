-- Reading the same thing several times, as a loop does.
use Rattle.std.proofs.Common.{◌≡◌, ℕ, zero, suc, ◌-◌, ◌+◌, ◌≤◌, ◌<◌, List, [], ◌∷◌, ◌++◌, Option, Some, None, refl, sym, ap, ◌∙◌, append_assoc, arith}
use Rattle.std.proofs.lemmas.List.{append-nil}
use Rattle.value_model.specs.declared.key.Key.{Key}
use Rattle.values.specs.declared.patch.Patch.{Patch}
use Rattle.value_bytes_spec.specs.Reading.{◌>>=◌, key_at, keys_at, patch_at, patch_list_at}
use Rattle.value_bytes.specs.declared.stop.Stop.{Stop}
use Rattle.value_bytes.specs.declared.stop.Stop.TheVariants.{NoSpelling, Memory}
use Rattle.value_bytes.specs.Gives.{Stops}
use Rattle.value_bytes.specs.Runs.{with_front}

pub record Repeats (A : Type 0) (one : List ℕ → Option (A × List ℕ)) (many : ℕ → List ℕ → Option (List A × List ℕ)) : Type 0 where
  pub at_end : (bytes : List ℕ) → many zero bytes ≡ Some ([], bytes)
  pub step : (n : ℕ) (bytes : List ℕ) → many (suc n) bytes ≡ (one bytes >>= λ x. many n x.1 >>= λ xs. Some (x.0 ∷ xs.0, xs.1))

pub keys_repeat : Repeats Key key_at keys_at
unfolding keys_at
keys_repeat = record { at_end = λ bytes. refl; step = λ n bytes. refl }

pub patches_repeat : Repeats Patch patch_at patch_list_at
unfolding patch_list_at
patches_repeat = record { at_end = λ bytes. refl; step = λ n bytes. refl }

module _ (A : Type 0) (one : List ℕ → Option (A × List ℕ)) (many : ℕ → List ℕ → Option (List A × List ℕ)) (repeats : Repeats A one many) where
  regroup : (front : List A) (x : A) (read : Option (List A × List ℕ)) → with_front front (read >>= λ xs. Some (x ∷ xs.0, xs.1)) ≡ with_front (front ++ x ∷ []) read
  regroup front x (Some xs) = ap (λ (ys : List A). Some (ys, xs.1)) (simp append_assoc)
  regroup front x None = refl

  pub goes_on : (front : List A) (count i : ℕ) (bytes : List ℕ) (x : A) (after : List ℕ) (total : Option (List A × List ℕ)) → i < count → one bytes ≡ Some (x, after)
      → with_front front (many (count - i) bytes) ≡ total → with_front (front ++ x ∷ []) (many (count - (i + 1)) after) ≡ total
  goes_on front count i bytes x after total lt h so_far =
      let k : count - i ≡ suc (count - (i + 1)) = omega arith in
      let one_more : with_front front (many (count - i) bytes) ≡ with_front (front ++ x ∷ []) (many (count - (i + 1)) after) = rw (k, repeats.step (count - (i + 1)) bytes, h) (regroup front x (many (count - (i + 1)) after)) in
      sym one_more ∙ so_far

  pub ends : (stop : Stop) (front : List A) (count i : ℕ) (bytes : List ℕ) (total : Option (List A × List ℕ)) → i < count → Stops stop (one bytes)
      → with_front front (many (count - i) bytes) ≡ total → Stops stop total
  ends Memory front count i bytes total lt h so_far = tt
  ends NoSpelling front count i bytes total lt h so_far =
      let k : count - i ≡ suc (count - (i + 1)) = omega arith in
      let nothing : with_front front (many (count - i) bytes) ≡ None = rw (k, repeats.step (count - (i + 1)) bytes, h) refl in
      sym so_far ∙ nothing

  pub is_done : (front : List A) (count i : ℕ) (bytes : List ℕ) (total : Option (List A × List ℕ)) → count ≤ i → with_front front (many (count - i) bytes) ≡ total → total ≡ Some (front, bytes)
  is_done front count i bytes total le so_far =
      let k : count - i ≡ 0 = omega arith in
      let all : with_front front (many (count - i) bytes) ≡ Some (front, bytes) = rw (k, repeats.at_end bytes) (ap (λ (xs : List A). Some (xs, bytes)) (append-nil front)) in
      sym so_far ∙ all
