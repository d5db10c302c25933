-- What one more call makes of a disk in memory.
use Rattle.std.proofs.Common.{◌≡◌, ◌⊎◌, ℕ, ◌+◌, ◌≤◌, List, [], ◌∷◌, ◌++◌, length, take, refl, sym, ◌∙◌, subst, arith, inl, inr, length-append, Some, ap, Result, Ok, Err, OnOk, OnErr, true≢false}
use Rattle.std.proofs.lemmas.Bool.{cases_lt}
use Rattle.std.proofs.lemmas.List.{take_all, take-append-le}
use Rattle.io_edges.specs.Causes.{HasCause, CountsFaults, FailsAsListed, next_count}
use Rattle.disk_model.specs.Disk.{Torn, Cut, Follows, AddsNone, IsSettled, Elapses}
use Rattle.disk_model.specs.Images.{torn_same, cut_same}
use Rattle.disk_model.specs.Memory.{DiskState, after_call, after_calls, MayLeaveAfter, IsImage, IsImageOf, MayLeave, LeftSince, moment_of, bytes_of, told_of, KeepsCall}
use Rattle.disk_model.specs.MemoryLaws.{reads_image}
use Rattle.disk_model.specs.declared.call.DiskCall.TheVariants.{Looked, Wrote, WriteFailed, CutOff, CutFailed, Synced}
use Rattle.disk_model.specs.declared.call.DiskCall.{DiskCall}

-- the last call comes last
pub after_calls-push : (bytes : List ℕ) (calls : List DiskCall) (call : DiskCall) → after_calls bytes (calls ++ call ∷ []) ≡ after_call (after_calls bytes calls) call
after_calls-push bytes [] call = refl
after_calls-push bytes (first ∷ calls) call = after_calls-push (after_call bytes first) calls call

-- and makes the images of those before it
pub image_push : (before : List ℕ → Type 0) (bytes : List ℕ) (calls : List DiskCall) (call : DiskCall) (image : List ℕ)
    → IsImage before bytes (calls ++ call ∷ []) image → MayLeaveAfter (after_calls bytes calls) call (IsImage before bytes calls) image
image_push before bytes [] call image is = is
image_push before bytes (first ∷ calls) call image is = image_push (MayLeaveAfter bytes first before) (after_call bytes first) calls call image is

-- the images after so many of the calls before it stay
front_now : (disk new : DiskState) (call : DiskCall) → new.first ≡ disk.first → new.calls ≡ disk.calls ++ call ∷ [] → (k : ℕ) → k ≤ length disk.calls → take k new.calls ≡ take k disk.calls
front_now disk new call first calls k within = ap (λ (cs : List DiskCall). take k cs) calls ∙ take-append-le k disk.calls (call ∷ []) within

same_images : (disk new : DiskState) (k : ℕ) (image : List ℕ) → new.first ≡ disk.first → take k new.calls ≡ take k disk.calls → IsImageOf new.first (take k new.calls) image → IsImageOf disk.first (take k disk.calls) image
same_images disk new k image first front is =
    subst (λ (f : List ℕ). IsImageOf f (take k disk.calls) image) first (subst (λ (cs : List DiskCall). IsImageOf new.first cs image) front is)

all_images : (disk : DiskState) (k : ℕ) (image : List ℕ) → length disk.calls ≤ k → IsImageOf disk.first (take k disk.calls) image → MayLeave disk image
all_images disk k image all is = subst (λ (cs : List DiskCall). IsImageOf disk.first cs image) (take_all k disk.calls all) is

-- the clock goes on by one
pub kept_time : (disk new : DiskState) (call : DiskCall) → new.first ≡ disk.first → new.calls ≡ disk.calls ++ call ∷ [] → Elapses moment_of LeftSince MayLeave disk new
kept_time disk new call first calls =
    let longer : length new.calls ≡ length disk.calls + 1 = ap length calls ∙ length-append disk.calls (call ∷ []) in
    record {
      later = omega arith;
      nothing_else = λ t image le left. elim (cases_lt (length disk.calls) left.0) [
        | inl past ↦ inr (all_images new left.0 image (omega (arith, longer, past)) left.3)
        | inr within ↦ inl (left.0, left.1, within, same_images disk new left.0 image first (front_now disk new call first calls left.0 within) left.3)
      ];
      keeps = λ t image le left. (left.0, left.1, omega (arith, longer, left.2), same_images new disk left.0 image (sym first) (sym (front_now disk new call first calls left.0 left.2)) left.3);
    }

-- a call that isn't kept leaves the clock as it was
pub same_time : (disk new : DiskState) → new.first ≡ disk.first → new.calls ≡ disk.calls → Elapses moment_of LeftSince MayLeave disk new
same_time disk new first calls =
    let same : length new.calls ≡ length disk.calls = ap length calls in
    record {
      later = omega arith;
      nothing_else = λ t image le left. inl (left.0, left.1, omega (arith, same, left.2), same_images disk new left.0 image first (ap (λ (cs : List DiskCall). take left.0 cs) calls) left.3);
      keeps = λ t image le left. (left.0, left.1, omega (arith, same, left.2), same_images new disk left.0 image (sym first) (sym (ap (λ (cs : List DiskCall). take left.0 cs) calls)) left.3);
    }

-- the new state has one call more
pub record HasMore (disk new : DiskState) (call : DiskCall) : Type 0 where
  pub first : new.first ≡ disk.first
  pub calls : new.calls ≡ disk.calls ++ call ∷ []

-- the new state has the same calls
pub record HasSame (disk new : DiskState) : Type 0 where
  pub first : new.first ≡ disk.first
  pub calls : new.calls ≡ disk.calls

-- a call is kept as done, or as failed, or isn't kept
pub record Outcome (disk new : DiskState) (done failed : DiskCall) : Type 0 where
  pub is : HasMore disk new done ⊎ (HasMore disk new failed ⊎ HasSame disk new)

pub outcome : {T E : Type 0} (disk new : DiskState) (done failed : DiskCall) (result : Result T E) → KeepsCall disk new done failed result → Outcome disk new done failed
outcome disk new done failed (Ok value) kept = record { is = inl (record { first = ap (λ (s : DiskState). s.first) kept.ok; calls = ap (λ (s : DiskState). s.calls) kept.ok }) }
outcome disk new done failed (Err error) kept = record {
  is = inr (elim kept.err [
    | inl as_failed ↦ inl (record { first = ap (λ (s : DiskState). s.first) as_failed.1; calls = ap (λ (s : DiskState). s.calls) as_failed.1 })
    | inr refused ↦ inr (record { first = ap (λ (s : DiskState). s.first) refused; calls = ap (λ (s : DiskState). s.calls) refused })
  ]);
}

-- what a read gives and what a crash may leave depend on the first bytes and the calls alone
pub more_bytes : (disk new : DiskState) (call : DiskCall) → HasMore disk new call → bytes_of new ≡ after_call (bytes_of disk) call
more_bytes disk new call more = (λ i. after_calls (more.first i) (more.calls i)) ∙ after_calls-push disk.first disk.calls call

pub more_images : (disk new : DiskState) (call : DiskCall) → HasMore disk new call → (image : List ℕ) → MayLeave new image → MayLeaveAfter (bytes_of disk) call (MayLeave disk) image
more_images disk new call more image is =
    image_push (λ (bytes : List ℕ). bytes ≡ disk.first) disk.first disk.calls call image
    (subst (λ (f : List ℕ). IsImageOf f (disk.calls ++ call ∷ []) image) more.first (subst (λ (cs : List DiskCall). IsImageOf new.first cs image) more.calls is))

pub same_bytes : (disk new : DiskState) → HasSame disk new → bytes_of new ≡ bytes_of disk
same_bytes disk new same = λ i. after_calls (same.first i) (same.calls i)

pub same_left : (disk new : DiskState) → HasSame disk new → (image : List ℕ) → MayLeave new image → MayLeave disk image
same_left disk new same image is = subst (λ (f : List ℕ). IsImageOf f disk.calls image) same.first (subst (λ (cs : List DiskCall). IsImageOf new.first cs image) same.calls is)

-- the clock
pub outcome_time : (disk new : DiskState) (done failed : DiskCall) → Outcome disk new done failed → Elapses moment_of LeftSince MayLeave disk new
outcome_time disk new done failed out = elim out.is [
  | inl more ↦ kept_time disk new done more.first more.calls
  | inr rest ↦ elim rest [ inl more ↦ kept_time disk new failed more.first more.calls | inr same ↦ same_time disk new same.first same.calls ]
]

-- a call that only looks, or that fails in this way
pub looked_images : (disk new : DiskState) → Outcome disk new Looked Looked → AddsNone (MayLeave disk) (MayLeave new)
looked_images disk new out image is = elim out.is [
  | inl more ↦ more_images disk new Looked more image is
  | inr rest ↦ elim rest [ inl more ↦ more_images disk new Looked more image is | inr same ↦ same_left disk new same image is ]
]

pub looked_bytes : (disk new : DiskState) → Outcome disk new Looked Looked → bytes_of new ≡ bytes_of disk
looked_bytes disk new out = elim out.is [
  | inl more ↦ more_bytes disk new Looked more
  | inr rest ↦ elim rest [ inl more ↦ more_bytes disk new Looked more | inr same ↦ same_bytes disk new same ]
]

-- a sync
pub synced_images : (disk new : DiskState) → Outcome disk new Synced Looked → AddsNone (MayLeave disk) (MayLeave new)
synced_images disk new out image is = elim out.is [
  | inl more ↦ subst (λ (bytes : List ℕ). MayLeave disk bytes) (sym (more_images disk new Synced more image is)) (reads_image disk)
  | inr rest ↦ elim rest [ inl more ↦ more_images disk new Looked more image is | inr same ↦ same_left disk new same image is ]
]

pub synced_told : (disk new : DiskState) → Outcome disk new Synced Looked → told_of new ≡ told_of disk
synced_told disk new out = ap (λ (bytes : List ℕ). Some bytes) (elim out.is [
  | inl more ↦ more_bytes disk new Synced more
  | inr rest ↦ elim rest [ inl more ↦ more_bytes disk new Looked more | inr same ↦ same_bytes disk new same ]
])

pub synced_settled : {T E : Type 0} (disk new : DiskState) (result : Result T E) → KeepsCall disk new Synced Looked result → OnOk result (IsSettled told_of MayLeave new)
synced_settled disk new (Ok value) kept =
    let more : HasMore disk new Synced = record { first = ap (λ (s : DiskState). s.first) kept.ok; calls = ap (λ (s : DiskState). s.calls) kept.ok } in
    record { only = λ image is. ap (λ (bytes : List ℕ). Some bytes) (more_bytes disk new Synced more ∙ sym (more_images disk new Synced more image is)) }
synced_settled disk new (Err error) kept = tt

-- a write
pub wrote_images : (disk new : DiskState) (at : ℕ) (piece : List ℕ) → Outcome disk new (Wrote at piece) (WriteFailed at (length piece)) → Follows (Torn at (length piece)) (MayLeave disk) (MayLeave new)
wrote_images disk new at piece out image is = elim out.is [
  | inl more ↦ more_images disk new (Wrote at piece) more image is
  | inr rest ↦ elim rest [ inl more ↦ more_images disk new (WriteFailed at (length piece)) more image is | inr same ↦ (image, same_left disk new same image is, torn_same at (length piece) image) ]
]

-- a cut
pub cut_images : (disk new : DiskState) (end : ℕ) → Outcome disk new (CutOff end) (CutFailed end) → Follows (Cut end) (MayLeave disk) (MayLeave new)
cut_images disk new end out image is = elim out.is [
  | inl more ↦ more_images disk new (CutOff end) more image is
  | inr rest ↦ elim rest [ inl more ↦ more_images disk new (CutFailed end) more image is | inr same ↦ (image, same_left disk new same image is, cut_same end image) ]
]

-- what a read gives after a call that was done, and after one that failed
pub done_told : {T E : Type 0} (disk new : DiskState) (done failed : DiskCall) (result : Result T E) → KeepsCall disk new done failed result → OnOk result (told_of new ≡ Some (after_call (bytes_of disk) done))
done_told disk new done failed (Ok value) kept = ap (λ (bytes : List ℕ). Some bytes) (ap (λ (s : DiskState). bytes_of s) kept.ok ∙ after_calls-push disk.first disk.calls done)
done_told disk new done failed (Err error) kept = tt

pub failed_told : {T E : Type 0} (disk new : DiskState) (done failed : DiskCall) (result : Result T E) → ((bytes : List ℕ) → after_call bytes failed ≡ bytes) → KeepsCall disk new done failed result → OnErr result (told_of new ≡ told_of disk)
failed_told disk new done failed (Ok value) leaves kept = tt
failed_told disk new done failed (Err error) leaves kept = ap (λ (bytes : List ℕ). Some bytes) (elim kept.err [
  | inl as_failed ↦ ap (λ (s : DiskState). bytes_of s) as_failed.1 ∙ after_calls-push disk.first disk.calls failed ∙ leaves (bytes_of disk)
  | inr refused ↦ ap (λ (s : DiskState). bytes_of s) refused
])

-- the counts
pub kept_counts : {T E : Type 0} (disk new : DiskState) (done failed : DiskCall) (result : Result T E) → KeepsCall disk new done failed result → CountsFaults disk.faults new.faults result
kept_counts disk new done failed (Ok value) kept = ap (λ (s : DiskState). s.faults) kept.ok
kept_counts disk new done failed (Err error) kept = elim kept.err [ inl as_failed ↦ ap (λ (s : DiskState). s.faults) as_failed.1 | inr refused ↦ ap (λ (s : DiskState). s.faults) refused ]

pub kept_cause : {T E : Type 0} (disk new : DiskState) (done failed : DiskCall) (result : Result T E) → KeepsCall disk new done failed result → HasCause disk.faults new.faults result
kept_cause disk new done failed (Ok value) kept = record { later = kept.faults_later; failed = tt }
kept_cause disk new done failed (Err error) kept =
    let counted = kept_counts disk new done failed (Err error) kept in
    record { later = kept.faults_later; failed = omega (arith, counted) }

pub kept_fails : {T E : Type 0} (disk new : DiskState) (done failed : DiskCall) (result : Result T E) → KeepsCall disk new done failed result → FailsAsListed disk.listed (length disk.calls) disk.refused new.refused result
kept_fails disk new done failed (Ok value) kept =
    let same : new.refused ≡ disk.refused = ap (λ (s : DiskState). s.refused) kept.ok in
    record {
      later = kept.refused_later;
      at_listed = kept.at_listed;
      at_refused = λ more. absurd (omega (arith, same, more));
      only = λ is_err. absurd (true≢false (sym is_err));
    }
kept_fails disk new done failed (Err error) kept = elim kept.err [
  | inl as_failed ↦
      let same : new.refused ≡ disk.refused = ap (λ (s : DiskState). s.refused) as_failed.1 in
      record { later = kept.refused_later; at_listed = kept.at_listed; at_refused = λ more. refl; only = λ is_err. inl as_failed.0 }
  | inr refused ↦
      let counted : new.refused ≡ next_count disk.refused = ap (λ (s : DiskState). s.refused) refused in
      record { later = kept.refused_later; at_listed = kept.at_listed; at_refused = λ more. refl; only = λ is_err. inr (omega (arith, counted)) }
]
