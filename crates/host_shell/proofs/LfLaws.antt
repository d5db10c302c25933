-- Where the first LF is.
use Rattle.std.proofs.Common.{◌≡◌, ◌<◌, ◌≤◌, ℕ, zero, suc, List, [], ◌∷◌, ◌++◌, length, take, drop, get_or, ap, arith, add-one}
use Rattle.host_shell.specs.At.{LfAt}
use Rattle.stream_run.specs.Lines.{HasNoLf}

pub no_lf_before : (bytes : List ℕ) (i : ℕ) → ((k : ℕ) → k < i → get_or bytes k 0 ≡ 10 → ⊥) → i ≤ length bytes → HasNoLf (take i bytes)
no_lf_before [] zero h l = tt
no_lf_before [] (suc i) h l = absurd (omega arith)
no_lf_before (c ∷ cs) zero h l = tt
no_lf_before (c ∷ cs) (suc i) h l = (h 0 (omega arith), no_lf_before cs i (λ k m. h (suc k) (omega arith)) (omega arith))

pub no_lf_at_all : (bytes : List ℕ) (i : ℕ) → ((k : ℕ) → k < i → get_or bytes k 0 ≡ 10 → ⊥) → length bytes ≤ i → HasNoLf bytes
no_lf_at_all [] i h l = tt
no_lf_at_all (c ∷ cs) zero h l = absurd (omega arith)
no_lf_at_all (c ∷ cs) (suc i) h l = (h 0 (omega arith), no_lf_at_all cs i (λ k m. h (suc k) (omega arith)) (omega arith))

split_at : (bytes : List ℕ) (i : ℕ) → i < length bytes → get_or bytes i 0 ≡ 10 → bytes ≡ take i bytes ++ 10 ∷ drop (suc i) bytes
split_at [] i l e = absurd (omega arith)
split_at (c ∷ cs) zero l e = ap (λ (x : ℕ). x ∷ cs) e
split_at (c ∷ cs) (suc i) l e = ap (λ (xs : List ℕ). c ∷ xs) (split_at cs i (omega arith) e)

pub lf_found : (bytes : List ℕ) (i : ℕ) → ((k : ℕ) → k < i → get_or bytes k 0 ≡ 10 → ⊥) → i < length bytes → get_or bytes i 0 ≡ 10 → LfAt bytes i
lf_found bytes i h l e = record { within = l; before = no_lf_before bytes i h (omega arith); found = rw add-one (split_at bytes i l e) }
