-- the order of keys: null, false, true, integers by value, texts by their bytes
use Rattle.std.proofs.Common.{◌≡◌, ℕ, zero, suc, ℤ, pos, List, [], true, false, refl, sym, ◌∙◌, Less, Equal, Greater}
use Rattle.std.specs.declared.cmp.Ordering.{Ordering}
use Rattle.std.specs.Ordering.{nat_cmp, int_cmp, on, then_cmp, ordering_then}
use Rattle.std.specs.Cmp.{IsTotalOrder}
use Rattle.std.proofs.lemmas.Cmp.{then_total, on_total, nat_cmp_total, int_cmp_total, nat_list_cmp_total}
use Rattle.std.proofs.lemmas.Map.Lookups.{exact_unsigned, exact_signed, exact_bytes}
use Rattle.std.specs.Cmp.Lexicographic.{slice_cmp}
use Rattle.value_model.specs.declared.key.Key.{Key}
use Rattle.value_model.specs.declared.key.Key.TheVariants.{Null, Bool, Int, Text}

-- the place of a key's kind in the order
abbrev pub rank : Key → ℕ
rank Null = 0
rank (Bool false) = 1
rank (Bool true) = 2
rank (Int n) = 3
rank (Text s) = 4

-- the value of an integer
abbrev pub number : Key → ℤ
number (Int n) = n
number _ = pos 0

-- the bytes of a text
abbrev pub letters : Key → List ℕ
letters (Text s) = s
letters _ = []

-- by kind, then by value, then by bytes
abbrev pub key_cmp : Key → Key → Ordering
key_cmp = then_cmp (on rank nat_cmp) (then_cmp (on number int_cmp) (on letters (slice_cmp nat_cmp)))

-- the key that has them
abbrev pub key_from : ℕ → ℤ → List ℕ → Key
key_from zero n s = Null
key_from (suc zero) n s = Bool false
key_from (suc (suc zero)) n s = Bool true
key_from (suc (suc (suc zero))) n s = Int n
key_from (suc (suc (suc (suc r)))) n s = Text s

-- a key is told by its parts
pub key_from-parts : (k : Key) → key_from (rank k) (number k) (letters k) ≡ k
key_from-parts Null = refl
key_from-parts (Bool false) = refl
key_from-parts (Bool true) = refl
key_from-parts (Int n) = refl
key_from-parts (Text s) = refl

-- the order is total, and tells all keys apart
pub key_total : IsTotalOrder key_cmp
key_total = then_total (on_total rank nat_cmp_total) (then_total (on_total number int_cmp_total) (on_total letters nat_list_cmp_total))

both_equal : (o p : Ordering) → ordering_then o p ≡ Equal → (o ≡ Equal) × (p ≡ Equal)
both_equal Less p h = absurd (cc)
both_equal Equal p h = (refl, h)
both_equal Greater p h = absurd (cc)

-- keys that compare as equal are one key
pub key_exact : (a b : Key) → key_cmp a b ≡ Equal → a ≡ b
key_exact a b h =
    let first = both_equal (nat_cmp (rank a) (rank b)) _ h in
    let more = both_equal (int_cmp (number a) (number b)) _ first.1 in
    let r : rank a ≡ rank b = exact_unsigned _ _ first.0 in
    let n : number a ≡ number b = exact_signed _ _ more.0 in
    let s : letters a ≡ letters b = exact_bytes _ _ more.1 in
    sym (key_from-parts a) ∙ (λ i. key_from (r i) (n i) (s i)) ∙ key_from-parts b
