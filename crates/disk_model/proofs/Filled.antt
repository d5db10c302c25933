-- Bytes of which those at some places are replaced.
use Rattle.std.proofs.Common.{◌≡◌, ℕ, zero, suc, ◌+◌, ◌<◌, ◌≤◌, Bool, false, if◌then◌else◌, List, [], ◌∷◌, ◌++◌, length, take, drop, refl, sym, ◌∙◌, ap, arith, add-zero}
use Rattle.disk_model.specs.Crash.{filled_from}

pub length-filled : (place : ℕ) (test : ℕ → Bool) (b : ℕ) (xs : List ℕ) → length (filled_from place test b xs) ≡ length xs
length-filled place test b [] = refl
length-filled place test b (x ∷ xs) = ap (λ (n : ℕ). suc n) (length-filled (place + 1) test b xs)

pub filled-append : (place : ℕ) (test : ℕ → Bool) (b : ℕ) (xs ys : List ℕ) → filled_from place test b (xs ++ ys) ≡ filled_from place test b xs ++ filled_from (place + length xs) test b ys
filled-append place test b [] ys = ap (λ (k : ℕ). filled_from k test b ys) (sym (add-zero place))
filled-append place test b (x ∷ xs) ys =
    let next : place + 1 + length xs ≡ place + suc (length xs) = omega arith in
    ap (λ (rest : List ℕ). (if test place then b else x) ∷ rest) (filled-append (place + 1) test b xs ys ∙ ap (λ (k : ℕ). filled_from (place + 1) test b xs ++ filled_from k test b ys) next)

pub filled-take : (n place : ℕ) (test : ℕ → Bool) (b : ℕ) (xs : List ℕ) → filled_from place test b (take n xs) ≡ take n (filled_from place test b xs)
filled-take zero place test b xs = refl
filled-take (suc n) place test b [] = refl
filled-take (suc n) place test b (x ∷ xs) = ap (λ (rest : List ℕ). (if test place then b else x) ∷ rest) (filled-take n (place + 1) test b xs)

pub filled-drop : (n place : ℕ) (test : ℕ → Bool) (b : ℕ) (xs : List ℕ) → filled_from (place + n) test b (drop n xs) ≡ drop n (filled_from place test b xs)
filled-drop zero place test b xs = ap (λ (k : ℕ). filled_from k test b xs) (add-zero place)
filled-drop (suc n) place test b [] = refl
filled-drop (suc n) place test b (x ∷ xs) =
    let next : place + suc n ≡ place + 1 + n = omega arith in
    ap (λ (k : ℕ). filled_from k test b (drop n xs)) next ∙ filled-drop n (place + 1) test b xs

-- the test matters at the places of the bytes alone
pub filled-same : (place : ℕ) (f g : ℕ → Bool) (b : ℕ) (xs : List ℕ) → ((k : ℕ) → place ≤ k → k < place + length xs → f k ≡ g k) → filled_from place f b xs ≡ filled_from place g b xs
filled-same place f g b [] same = refl
filled-same place f g b (x ∷ xs) same =
    let here : f place ≡ g place = same place (omega arith) (omega arith) in
    let rest = filled-same (place + 1) f g b xs (λ k from to. same k (omega (arith, from)) (omega (arith, to))) in
    λ i. (if here i then b else x) ∷ rest i

-- no place is replaced
pub filled-none : (place : ℕ) (b : ℕ) (xs : List ℕ) → filled_from place (λ k. false) b xs ≡ xs
filled-none place b [] = refl
filled-none place b (x ∷ xs) = ap (λ (rest : List ℕ). x ∷ rest) (filled-none (place + 1) b xs)
