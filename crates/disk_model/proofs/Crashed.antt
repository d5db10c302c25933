-- What a crash of each kind leaves is an image that the rules of a disk allow.
use Rattle.std.proofs.Common.{◌≡◌, ℕ, suc, ◌+◌, ◌<◌, ◌≤◌, Bool, true, false, ◌||◌, nat_lt, if◌then◌else◌, List, [], ◌∷◌, ◌++◌, length, take, drop, refl, sym, ◌∙◌, ap, subst, inl, inr, arith, true≢false, take-append-drop, length-append, length-take, Result, Ok, Err, IfOk}
use Rattle.std.proofs.lemmas.Bool.{cases_lt}
use Rattle.std.proofs.lemmas.Bool.Decides.{nat_tests}
use Rattle.std.proofs.lemmas.List.{drop_all}
use Rattle.disk_model.specs.Disk.{written, Torn, Cut}
use Rattle.disk_model.specs.Images.{parts, torn_same, cut_same, cut_done, longer_written}
use Rattle.disk_model.specs.Memory.{DiskState, after_call, after_calls, MayLeaveAfter, IsImage, IsImageOf}
use Rattle.disk_model.specs.MemoryLaws.{read_after_calls}
use Rattle.disk_model.specs.Crash.{is_in, covers, are_covered, filled_from, succeeds_as_sync, synced_count, crashed}
use Rattle.disk_model.specs.declared.call.DiskCall.{DiskCall}
use Rattle.disk_model.specs.declared.call.DiskCall.TheVariants.{Looked, Wrote, WriteFailed, CutOff, CutFailed, Synced}
use Rattle.disk_model.specs.declared.crash.Crash.{Crash}
use Rattle.disk_model.specs.declared.crash.Crash.TheVariants.{Lost, Kept, Filled}
use Rattle.disk_model.proofs.Filled.{length-filled, filled-append, filled-take, filled-drop, filled-same, filled-none}

-- calls one part after the other
after_calls-append : (bytes : List ℕ) (xs ys : List DiskCall) → after_calls (after_calls bytes xs) ys ≡ after_calls bytes (xs ++ ys)
after_calls-append bytes [] ys = refl
after_calls-append bytes (call ∷ xs) ys = after_calls-append (after_call bytes call) xs ys

image_append : (before : List ℕ → Type 0) (bytes : List ℕ) (xs ys : List DiskCall) (image : List ℕ) → IsImage (IsImage before bytes xs) (after_calls bytes xs) ys image → IsImage before bytes (xs ++ ys) image
image_append before bytes [] ys image is = is
image_append before bytes (call ∷ xs) ys image is = image_append (MayLeaveAfter bytes call before) (after_call bytes call) xs ys image is

-- none of the calls is a sync that succeeded
abbrev HasNoSync : List DiskCall → Type 0
HasNoSync [] = Unit {0}
HasNoSync (call ∷ calls) = (succeeds_as_sync call ≡ false) × HasNoSync calls

neither : (s t : Bool) → false ≡ (s || t) → (s ≡ false) × (t ≡ false)
neither true t none = absurd (true≢false (sym none))
neither false t none = (refl, sym none)

since_step : (call : DiskCall) (calls : List DiskCall) (t : Bool) → t ≡ (succeeds_as_sync call || nat_lt 0 (synced_count calls)) → HasNoSync (drop (synced_count calls) calls)
    → HasNoSync (drop (if t then suc (synced_count calls) else 0) (call ∷ calls))
since_step call calls true is rest = rest
since_step call calls false is rest =
    let none = neither (succeeds_as_sync call) (nat_lt 0 (synced_count calls)) is in
    let zero_count : synced_count calls ≡ 0 = grind (arith, nat_tests, none.1) in
    (none.0, subst (λ (n : ℕ). HasNoSync (drop n calls)) zero_count rest)

-- nor is one behind the last
no_sync_since : (calls : List DiskCall) → HasNoSync (drop (synced_count calls) calls)
no_sync_since [] = tt
no_sync_since (call ∷ calls) = since_step call calls (succeeds_as_sync call || nat_lt 0 (synced_count calls)) refl (no_sync_since calls)

-- an image before a call that is no sync is one behind it
stays_after : (before : List ℕ → Type 0) (bytes : List ℕ) (call : DiskCall) (image : List ℕ) → before image → succeeds_as_sync call ≡ false → MayLeaveAfter bytes call before image
stays_after before bytes Looked image has none = has
stays_after before bytes (Wrote at piece) image has none = (image, has, torn_same at (length piece) image)
stays_after before bytes (WriteFailed at n) image has none = (image, has, torn_same at n image)
stays_after before bytes (CutOff end) image has none = (image, has, cut_same end image)
stays_after before bytes (CutFailed end) image has none = (image, has, cut_same end image)
stays_after before bytes Synced image has none = absurd (true≢false none)

stays_image : (before : List ℕ → Type 0) (bytes : List ℕ) (calls : List DiskCall) (image : List ℕ) → before image → HasNoSync calls → IsImage before bytes calls image
stays_image before bytes [] image has none = has
stays_image before bytes (call ∷ calls) image has none = stays_image (MayLeaveAfter bytes call before) (after_call bytes call) calls image (stays_after before bytes call image has none.0) none.1

or_false : (t : Bool) → (t || false) ≡ t
or_false true = refl
or_false false = refl

or_assoc : (s t u : Bool) → ((s || t) || u) ≡ (s || (t || u))
or_assoc true t u = refl
or_assoc false t u = refl

-- places before and behind a range are not in it
before_range : (at n k : ℕ) → k < at → is_in at n k ≡ false
before_range at n k lt = grind (arith, nat_tests)

behind_range : (at n k : ℕ) → at + n ≤ k → is_in at n k ≡ false
behind_range at n k le = grind (arith, nat_tests)

-- the test, and also each place of a range
abbrev also_in : (ℕ → Bool) → ℕ → ℕ → ℕ → Bool
also_in test at n k = test k || is_in at n k

also_before : (test : ℕ → Bool) (at n k : ℕ) → k < at → also_in test at n k ≡ test k
also_before test at n k lt = ap (λ (t : Bool). test k || t) (before_range at n k lt) ∙ or_false (test k)

also_behind : (test : ℕ → Bool) (at n k : ℕ) → at + n ≤ k → also_in test at n k ≡ test k
also_behind test at n k le = ap (λ (t : Bool). test k || t) (behind_range at n k le) ∙ or_false (test k)

-- so what is before the range stays as it was filled
front_filled : (test : ℕ → Bool) (at n b : ℕ) (xs : List ℕ) → filled_from 0 (also_in test at n) b (take at xs) ≡ take at (filled_from 0 test b xs)
front_filled test at n b xs =
    filled-same 0 (also_in test at n) test b (take at xs) (λ k from to. also_before test at n k (omega (arith, to, length-take at xs))) ∙ filled-take at 0 test b xs

-- and what is behind it
end_filled : (test : ℕ → Bool) (at n b : ℕ) (xs : List ℕ) → filled_from (at + n) (also_in test at n) b (drop (at + n) xs) ≡ drop (at + n) (filled_from 0 test b xs)
end_filled test at n b xs =
    filled-same (at + n) (also_in test at n) test b (drop (at + n) xs) (λ k from to. also_behind test at n k from) ∙ from_start
  where
    from_start : filled_from (at + n) test b (drop (at + n) xs) ≡ drop (at + n) (filled_from 0 test b xs)
    from_start = let same : 0 + (at + n) ≡ at + n = omega arith in ap (λ (k : ℕ). filled_from k test b (drop (at + n) xs)) (sym same) ∙ filled-drop (at + n) 0 test b xs

-- filling the range of a write that failed tears it
failed_torn : (test : ℕ → Bool) (at n b : ℕ) (xs : List ℕ) → Torn at n (filled_from 0 test b xs) (filled_from 0 (also_in test at n) b xs)
failed_torn test at n b xs =
    let new = filled_from 0 (also_in test at n) b xs in
    let front : take at new ≡ take at (filled_from 0 test b xs) = sym (filled-take at 0 (also_in test at n) b xs) ∙ front_filled test at n b xs in
    let start : 0 + (at + n) ≡ at + n = omega arith in
    let end : drop (at + n) new ≡ drop (at + n) (filled_from 0 test b xs) =
    sym (filled-drop (at + n) 0 (also_in test at n) b xs) ∙ ap (λ (k : ℕ). filled_from k (also_in test at n) b (drop (at + n) xs)) start ∙ end_filled test at n b xs in
    record {
      middle = take n (drop at new);
      is = parts at n new ∙ (λ i. front i ++ take n (drop at new) ++ end i);
      no_more = omega (arith, length-take n (drop at new));
      no_shorter = omega (arith, length-filled 0 test b xs, length-filled 0 (also_in test at n) b xs);
    }

-- what comes behind a write
end_written : (test : ℕ → Bool) (at b : ℕ) (piece xs : List ℕ)
    → filled_from (length (take at xs ++ piece)) (also_in test at (length piece)) b (drop (at + length piece) xs) ≡ drop (at + length piece) (filled_from 0 test b xs)
end_written test at b piece xs = elim (cases_lt (at + length piece) (length xs)) [
  | inl more ↦
      let long : length (take at xs ++ piece) ≡ at + length piece = omega (arith, more, length-append (take at xs) piece, length-take at xs) in
      ap (λ (k : ℕ). filled_from k (also_in test at (length piece)) b (drop (at + length piece) xs)) long ∙ end_filled test at (length piece) b xs
  | inr none ↦
      let no_old : drop (at + length piece) xs ≡ [] = drop_all (at + length piece) xs none in
      let no_new : drop (at + length piece) (filled_from 0 test b xs) ≡ [] = drop_all (at + length piece) (filled_from 0 test b xs) (omega (arith, none, length-filled 0 test b xs)) in
      ap (λ (ys : List ℕ). filled_from (length (take at xs ++ piece)) (also_in test at (length piece)) b ys) no_old ∙ sym no_new
]

-- and so does filling the range of one that was done
done_torn : (test : ℕ → Bool) (at b : ℕ) (piece xs : List ℕ) → Torn at (length piece) (filled_from 0 test b xs) (filled_from 0 (also_in test at (length piece)) b (written at piece xs))
done_torn test at b piece xs =
    let also = also_in test at (length piece) in
    let start : 0 + length (take at xs) ≡ length (take at xs) = omega arith in
    let whole : 0 + length (take at xs ++ piece) ≡ length (take at xs ++ piece) = omega arith in
    let middle = filled_from (length (take at xs)) also b piece in
    let split : filled_from 0 also b (written at piece xs) ≡ filled_from 0 also b (take at xs) ++ middle ++ filled_from (length (take at xs ++ piece)) also b (drop (at + length piece) xs) =
    filled-append 0 also b (take at xs ++ piece) (drop (at + length piece) xs) ∙
    (λ i. filled-append 0 also b (take at xs) piece i ++ filled_from (whole i) also b (drop (at + length piece) xs)) ∙
    ap (λ (k : ℕ). filled_from 0 also b (take at xs) ++ filled_from k also b piece ++ filled_from (length (take at xs ++ piece)) also b (drop (at + length piece) xs)) start in
    record {
      middle = middle;
      is = split ∙ (λ i. front_filled test at (length piece) b xs i ++ middle ++ end_written test at b piece xs i);
      no_more = omega (arith, length-filled (length (take at xs)) also b piece);
      no_shorter = omega (arith, length-filled 0 test b xs, length-filled 0 also b (written at piece xs), longer_written at piece xs);
    }

-- one call more
filled_after : (before : List ℕ → Type 0) (bytes : List ℕ) (test : ℕ → Bool) (b : ℕ) (kept : List ℕ) (call : DiskCall) → before (filled_from 0 test b kept) → succeeds_as_sync call ≡ false
    → MayLeaveAfter bytes call before (filled_from 0 (λ k. test k || covers call k) b (after_call kept call))
filled_after before bytes test b kept Looked has none = subst before (λ i. filled_from 0 (λ k. sym (or_false (test k)) i) b kept) has
filled_after before bytes test b kept (Wrote at piece) has none = (filled_from 0 test b kept, has, done_torn test at b piece kept)
filled_after before bytes test b kept (WriteFailed at n) has none = (filled_from 0 test b kept, has, failed_torn test at n b kept)
filled_after before bytes test b kept (CutOff end) has none =
    let cut : filled_from 0 (λ k. test k || false) b (take end kept) ≡ take end (filled_from 0 test b kept) = (λ i. filled_from 0 (λ k. or_false (test k) i) b (take end kept)) ∙ filled-take end 0 test b kept in
    (filled_from 0 test b kept, has, subst (λ (xs : List ℕ). Cut end (filled_from 0 test b kept) xs) (sym cut) (cut_done end (filled_from 0 test b kept)))
filled_after before bytes test b kept (CutFailed end) has none =
    (filled_from 0 test b kept, has, subst (λ (xs : List ℕ). Cut end (filled_from 0 test b kept) xs) (λ i. filled_from 0 (λ k. sym (or_false (test k)) i) b kept) (cut_same end (filled_from 0 test b kept)))
filled_after before bytes test b kept Synced has none = absurd (true≢false none)

filled_image : (before : List ℕ → Type 0) (bytes : List ℕ) (test : ℕ → Bool) (b : ℕ) (kept : List ℕ) (calls : List DiskCall) → before (filled_from 0 test b kept) → HasNoSync calls
    → IsImage before bytes calls (filled_from 0 (λ k. test k || are_covered calls k) b (after_calls kept calls))
filled_image before bytes test b kept [] has none = subst before (λ i. filled_from 0 (λ k. sym (or_false (test k)) i) b kept) has
filled_image before bytes test b kept (call ∷ calls) has none =
    subst (λ (xs : List ℕ). IsImage before bytes (call ∷ calls) xs) (λ i. filled_from 0 (λ k. or_assoc (test k) (covers call k) (are_covered calls k) i) b (after_calls kept (call ∷ calls)))
    (filled_image (MayLeaveAfter bytes call before) (after_call bytes call) (λ k. test k || covers call k) b (after_call kept call) calls (filled_after before bytes test b kept call has none.0) none.1)

-- each kind
pub crashed_image : (kind : Crash) (first : List ℕ) (calls : List DiskCall) → IsImageOf first calls (crashed kind first calls)
crashed_image Lost first calls =
    let n = synced_count calls in
    let begun : List ℕ → Type 0 = λ bytes. bytes ≡ first in
    let synced = after_calls first (take n calls) in
    subst (λ (cs : List DiskCall). IsImageOf first cs synced) (take-append-drop n calls)
    (image_append begun first (take n calls) (drop n calls) synced (stays_image (IsImage begun first (take n calls)) synced (drop n calls) synced (read_after_calls begun first (take n calls) refl) (no_sync_since calls)))
crashed_image Kept first calls = read_after_calls (λ (bytes : List ℕ). bytes ≡ first) first calls refl
crashed_image (Filled b) first calls =
    let n = synced_count calls in
    let begun : List ℕ → Type 0 = λ bytes. bytes ≡ first in
    let synced = after_calls first (take n calls) in
    let here : IsImage begun first (take n calls) (filled_from 0 (λ k. false) b synced) = subst (IsImage begun first (take n calls)) (sym (filled-none 0 b synced)) (read_after_calls begun first (take n calls) refl) in
    let all : after_calls synced (drop n calls) ≡ after_calls first calls = after_calls-append first (take n calls) (drop n calls) ∙ ap (λ (cs : List DiskCall). after_calls first cs) (take-append-drop n calls) in
    let image = filled_from 0 (are_covered (drop n calls)) b (after_calls synced (drop n calls)) in
    let is = image_append begun first (take n calls) (drop n calls) image (filled_image (IsImage begun first (take n calls)) synced (λ k. false) b synced (drop n calls) here (no_sync_since calls)) in
    subst (λ (xs : List ℕ). IsImageOf first calls (filled_from 0 (are_covered (drop n calls)) b xs)) all (subst (λ (cs : List DiskCall). IsImageOf first cs image) (take-append-drop n calls) is)

-- a disk that begins on such an image
pub begins_on_image : {E : Type 0} (result : Result DiskState E) (kind : Crash) (first : List ℕ) (calls : List DiskCall) (image : List ℕ) → image ≡ crashed kind first calls
    → IfOk result (λ disk. disk.first ≡ image) → IfOk result (λ disk. IsImageOf first calls disk.first)
begins_on_image (Ok disk) kind first calls image is begins = subst (λ (xs : List ℕ). IsImageOf first calls xs) (sym (begins ∙ is)) (crashed_image kind first calls)
begins_on_image (Err error) kind first calls image is begins = tt
