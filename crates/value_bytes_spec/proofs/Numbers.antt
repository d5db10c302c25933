-- The bytes of a number that was read are those bytes, at every width, in the words of `byteorder`: laws.
use Rattle.std.proofs.Common.{◌≡◌, ℕ, zero, suc, ◌+◌, ◌*◌, ◌/◌, ◌%◌, ◌^◌, ◌<◌, ◌≤◌, List, [], ◌∷◌, length, take, refl, sym, ap, ◌∙◌, zero-add, arith}
use Rattle.std.proofs.Math.Nat.{div-one, mul-add-div_right, mul-add-mod_self_right, mul_assoc, pow-succ', one-le-pow, mod-eq_of_lt}
use Rattle.std.proofs.lemmas.Nat.{div-mul-add, pow-add}
use Rattle.std.specs.Int.{byte_at, bytes_high_first}
use Rattle.byteorder.specs.Endian.{big_from, big_number, big_bytes}
use Rattle.byteorder.specs.Numbers.{big_from-cons, big_from-lt}
use Rattle.value_bytes_spec.specs.Numbers.{IsBytes}

pow_pos256 : (n : ℕ) → zero < 256 ^ n
pow_pos256 n = let h = one-le-pow n 256 (omega arith) in omega arith

byte_at-pow : (k x : ℕ) → byte_at k x ≡ x / 256 ^ k % 256
byte_at-pow zero x = ap (λ (y : ℕ). y % 256) (sym (div-one x))
byte_at-pow (suc k) x = refl

-- what stands above a byte doesn't change it
low_byte : (k j q r : ℕ) → byte_at k (q * 256 ^ (j + suc k) + r) ≡ byte_at k r
low_byte k j q r =
    let split : q * 256 ^ (j + suc k) ≡ q * 256 ^ j * 256 * 256 ^ k = rw (pow-add 256 j (suc k), pow-succ' 256 k) (sym (mul_assoc q (256 ^ j) (256 * 256 ^ k)) ∙ sym (mul_assoc (q * 256 ^ j) 256 (256 ^ k))) in
    rw (byte_at-pow k (q * 256 ^ (j + suc k) + r), byte_at-pow k r, split, mul-add-div_right (pow_pos256 k) (q * 256 ^ j * 256) r) (mul-add-mod_self_right (q * 256 ^ j) 256 (r / 256 ^ k))

low_bytes : (k j q r : ℕ) → bytes_high_first k (q * 256 ^ (j + k) + r) ≡ bytes_high_first k r
low_bytes zero j q r = refl
low_bytes (suc k) j q r =
    let first = low_byte k j q r in
    let same : j + suc k ≡ suc j + k = omega arith in
    let rest : bytes_high_first k (q * 256 ^ (j + suc k) + r) ≡ bytes_high_first k r = rw same (low_bytes k (suc j) q r) in
    λ i. first i ∷ rest i

top_byte : (n b r : ℕ) → b < 256 → r < 256 ^ n → byte_at n (b * 256 ^ n + r) ≡ b
top_byte n b r h l = rw (byte_at-pow n (b * 256 ^ n + r), div-mul-add b (256 ^ n) r l) (mod-eq_of_lt h)

-- the bytes of the number that was read from bytes are those bytes
pub bytes_of_number : (n : ℕ) (xs : List ℕ) → IsBytes xs → n ≤ length xs → big_bytes n (big_number n xs) ≡ take n xs
bytes_of_number zero xs fits h = refl
bytes_of_number (suc n) [] fits h = absurd (omega arith)
bytes_of_number (suc n) (b ∷ xs) fits h =
    let rest_fits : IsBytes xs = λ i. fits (suc i) in
    let low : big_from 1 n (b ∷ xs) ≡ big_from 0 n xs = big_from-cons 0 n b xs in
    let top = top_byte n b (big_from 0 n xs) (fits 0) (big_from-lt 0 n xs rest_fits) in
    let none_above : bytes_high_first n (b * 256 ^ n + big_from 0 n xs) ≡ bytes_high_first n (big_from 0 n xs) = rw zero-add at (low_bytes n 0 b (big_from 0 n xs)) in
    let more : bytes_high_first n (b * 256 ^ n + big_from 0 n xs) ≡ take n xs = none_above ∙ bytes_of_number n xs rest_fits (omega arith) in
    rw low (λ i. top i ∷ more i)
