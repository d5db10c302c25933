-- What is kept of a line.
use Rattle.std.proofs.Common.{◌≡◌, ◌<◌, ◌≤◌, ◌+◌, ◌-◌, min, ℕ, zero, suc, List, [], ◌∷◌, ◌++◌, length, take, refl, sym, ap, ◌∙◌, arith, Bool, true, false, ◌⊎◌, inl, inr}
use Rattle.std.specs.Prelude.{◌&&◌, Err}
use Rattle.std.proofs.lemmas.List.Folds.{list_all-append}
use Rattle.std.proofs.lemmas.List.{length-append}
use Rattle.std.proofs.lemmas.Bool.Decides.{Decides-ltb}
use Rattle.plain_values.specs.declared.cause.Cause.TheVariants as cause
use Rattle.host_machine.specs.Machine.{Machine}
use Rattle.value_json_spec.specs.Answers.{and_then}
use Rattle.host_protocol_spec.specs.Commands.{form_of, is_long_line}
use Rattle.stream_run.specs.Lines.{is_blank, is_space}
use Rattle.stream_run.specs.Runs.{answer, answer_to, run_command, run_form}
use Rattle.host_shell.specs.Line.{Holds}

take_none : (ys : List ℕ) (k : ℕ) → k ≡ 0 → take k ys ≡ []
take_none [] k e = rw e refl
take_none (y ∷ ys) k e = rw e refl

-- a front of two lists joined
take_first : (n : ℕ) (ys : List ℕ) (k : ℕ) → k ≡ min (length ys) n → take n ys ≡ take k ys
take_first zero [] k e = sym (take_none [] k (omega arith))
take_first (suc n) [] k e = sym (take_none [] k (omega arith))
take_first zero (y ∷ ys) k e = sym (take_none (y ∷ ys) k (omega arith))
take_first (suc n) (y ∷ ys) zero e = absurd (omega arith)
take_first (suc n) (y ∷ ys) (suc k) e = ap (λ (zs : List ℕ). y ∷ zs) (take_first n ys k (omega arith))

pub take_joined : (n : ℕ) (xs ys : List ℕ) (k : ℕ) → k ≡ min (length ys) (n - length (take n xs)) → take n (xs ++ ys) ≡ take n xs ++ take k ys
take_joined zero [] ys k e = take_first 0 ys k (omega arith)
take_joined (suc n) [] ys k e = take_first (suc n) ys k (omega arith)
take_joined zero (x ∷ xs) ys k e = sym (take_none ys k (omega arith))
take_joined (suc n) (x ∷ xs) ys k e = ap (λ (zs : List ℕ). x ∷ zs) (take_joined n xs ys k (omega arith))

pub holds_nothing : Holds (record { kept = []; size = 0; blank = true }) []
unfolding is_blank
holds_nothing = record { kept = refl; size = refl; blank = refl }

pub holds_more : (kept line chunk : List ℕ) (size count : ℕ) (blank : Bool) → Holds (record { kept = kept; size = size; blank = blank }) line → count ≡ min (length chunk) (1048577 - length kept)
    → Holds (record { kept = kept ++ take count chunk; size = size + length chunk; blank = blank && is_blank chunk }) (line ++ chunk)
unfolding is_blank
holds_more kept line chunk size count blank h e = record {
  kept = ap (λ (ks : List ℕ). ks ++ take count chunk) h.kept ∙ sym (take_joined 1048577 line chunk count (e ∙ ap (λ (ks : List ℕ). min (length chunk) (1048577 - length ks)) h.kept));
  size = ap (λ n. n + length chunk) h.size ∙ sym (length-append line chunk);
  blank = ap (λ (b : Bool). b && is_blank chunk) h.blank ∙ sym (list_all-append is_space line chunk);
}

-- bytes that aren't blank are some
pub spoken_some : (chunk : List ℕ) → is_blank chunk ≡ false → 0 < length chunk
unfolding is_blank
spoken_some [] h = absurd (cc)
spoken_some (c ∷ cs) h = omega arith

pub spoken_more : (blank : Bool) (size : ℕ) (chunk : List ℕ) → (blank ≡ false → 0 < size) → (blank && is_blank chunk) ≡ false → 0 < size + length chunk
spoken_more true size chunk h e = omega (arith, spoken_some chunk e)
spoken_more false size chunk h e = omega (arith, h refl)

-- ---- the front that is kept answers as the line
total : (m n : ℕ) → (n ≤ m) ⊎ (m < n)
total m n = grind arith

take_whole : (n : ℕ) (xs : List ℕ) → length xs ≤ n → take n xs ≡ xs
take_whole zero [] h = refl
take_whole (suc n) [] h = refl
take_whole zero (x ∷ xs) h = absurd (omega arith)
take_whole (suc n) (x ∷ xs) h = ap (λ (zs : List ℕ). x ∷ zs) (take_whole n xs (omega arith))

length_take : (n : ℕ) (xs : List ℕ) → n ≤ length xs → length (take n xs) ≡ n
length_take zero [] h = refl
length_take zero (x ∷ xs) h = refl
length_take (suc n) [] h = absurd (omega arith)
length_take (suc n) (x ∷ xs) h = ap suc (length_take n xs (omega arith))

is_long : (xs : List ℕ) → 1048576 < length xs → is_long_line xs ≡ true
unfolding is_long_line
is_long xs h = (Decides-ltb 1048576 (length xs)).1 h

long_form : (xs : List ℕ) → is_long_line xs ≡ true → form_of xs ≡ Err cause.LineTooLong
unfolding form_of
long_form xs h = rw h refl

both_long : (line : List ℕ) → 1048577 < length line → form_of (take 1048577 line) ≡ form_of line
both_long line h =
    let kept : 1048576 < length (take 1048577 line) = omega (arith, length_take 1048577 line (omega arith)) in
    long_form (take 1048577 line) (is_long (take 1048577 line) kept) ∙ sym (long_form line (is_long line (omega arith)))

form_at : (line : List ℕ) → (length line ≤ 1048577) ⊎ (1048577 < length line) → form_of (take 1048577 line) ≡ form_of line
form_at line (inl h) = ap form_of (take_whole 1048577 line h)
form_at line (inr h) = both_long line h

pub command_kept : (line : List ℕ) → run_command (take 1048577 line) ≡ run_command line
unfolding run_command
command_kept line = ap (and_then run_form) (form_at line (total 1048577 (length line)))

pub answer_kept : (m : Machine) (kept line : List ℕ) → kept ≡ take 1048577 line → answer_to m kept ≡ answer_to m line
unfolding answer_to
answer_kept m kept line e = ap (λ (bs : List ℕ). answer m (run_command bs)) e ∙ ap (answer m) (command_kept line)
