-- How a run of calls goes on over any disk: from a state that leaves only images with P, a call goes on to the same.
use Rattle.std.proofs.Common.{◌≡◌, ℕ, List, inl, inr, ⊎_elim, sym, subst, arith, Option, Some}
use Rattle.disk_model.specs.Disk.{Follows, AddsNone, IsSettled, Elapses, LeavesOnly}

-- a settled disk that tells these bytes leaves nothing else
pub settled_image : {D : Type 0} (told : D → Option (List ℕ)) (may_leave : D → List ℕ → Type 0) (disk : D) (bytes : List ℕ)
    → IsSettled told may_leave disk → told disk ≡ Some bytes → (image : List ℕ) → may_leave disk image → image ≡ bytes
settled_image told may_leave disk bytes settled holds image now = let same : told disk ≡ Some image = settled.only image now in cc

module _ {D : Type 0} (moment : D → ℕ) (left_since : D → ℕ → List ℕ → Type 0) (may_leave : D → List ℕ → Type 0) where
  -- before the first call
  pub started : (old : D) (P : List ℕ → Type 0) → ((image : List ℕ) → left_since old (moment old) image → may_leave old image)
      → ((image : List ℕ) → may_leave old image → P image) → LeavesOnly moment left_since may_leave old old P
  started old P only_now here = record {
    later = omega arith;
    each = λ image left. here image (only_now image left);
    now = here;
    before = λ t image le left. inl left;
  }

  -- before the first call, on a settled disk that tells its bytes
  pub started_settled : (told : D → Option (List ℕ)) (old : D) (P : List ℕ → Type 0) (bytes : List ℕ) → ((image : List ℕ) → left_since old (moment old) image → may_leave old image)
      → IsSettled told may_leave old → told old ≡ Some bytes → P bytes → LeavesOnly moment left_since may_leave old old P
  started_settled told old P bytes only_now settled holds has =
      started old P only_now (λ image now. subst P (sym (settled_image told may_leave old bytes settled holds image now)) has)

  -- one call more, after which a crash leaves what has P
  pub goes_on : (old mid new : D) (P : List ℕ → Type 0) → LeavesOnly moment left_since may_leave old mid P → Elapses moment left_since may_leave mid new
      → ((image : List ℕ) → may_leave new image → P image) → LeavesOnly moment left_since may_leave old new P
  goes_on old mid new P so_far time here = record {
    later = omega (arith, so_far.later, time.later);
    each = λ image left. ⊎_elim (so_far.each image) (here image) (time.nothing_else (moment old) image so_far.later left);
    now = here;
    before = λ t image le left. ⊎_elim (so_far.before t image le) (λ now. inr (here image now)) (time.nothing_else t image (omega (arith, le, so_far.later)) left);
  }

  -- a call that adds no image: length, read and sync, whatever they answer
  pub goes_on_quiet : (old mid new : D) (P : List ℕ → Type 0) → LeavesOnly moment left_since may_leave old mid P
      → AddsNone (may_leave mid) (may_leave new) → Elapses moment left_since may_leave mid new → LeavesOnly moment left_since may_leave old new P
  goes_on_quiet old mid new P so_far adds_none time = goes_on old mid new P so_far time (λ image now. so_far.now image (adds_none image now))

  -- a write or a cut, done or not, where each image before it leads to images with P
  pub goes_on_step : (old mid new : D) (P : List ℕ → Type 0) (step : List ℕ → List ℕ → Type 0) → LeavesOnly moment left_since may_leave old mid P
      → Follows step (may_leave mid) (may_leave new) → Elapses moment left_since may_leave mid new
      → ((before : List ℕ) → may_leave mid before → (image : List ℕ) → step before image → P image) → LeavesOnly moment left_since may_leave old new P
  goes_on_step old mid new P step so_far follows time leads =
      goes_on old mid new P so_far time (λ image now. let from = follows image now in leads from.0 from.1 image from.2)

  -- a write or a cut on a settled disk that tells its bytes, where these lead to images with P
  pub goes_on_settled : (told : D → Option (List ℕ)) (old mid new : D) (P : List ℕ → Type 0) (step : List ℕ → List ℕ → Type 0) (bytes : List ℕ) → LeavesOnly moment left_since may_leave old mid P
      → IsSettled told may_leave mid → told mid ≡ Some bytes → Follows step (may_leave mid) (may_leave new) → Elapses moment left_since may_leave mid new
      → ((image : List ℕ) → step bytes image → P image) → LeavesOnly moment left_since may_leave old new P
  goes_on_settled told old mid new P step bytes so_far settled holds follows time leads =
      goes_on_step old mid new P step so_far follows time
      (λ before now image stepped. leads image (subst (λ (xs : List ℕ). step xs image) (settled_image told may_leave mid bytes settled holds before now) stepped))

  -- two runs, one after the other
  pub together : (old mid new : D) (P : List ℕ → Type 0) → LeavesOnly moment left_since may_leave old mid P → LeavesOnly moment left_since may_leave mid new P
      → LeavesOnly moment left_since may_leave old new P
  together old mid new P first second = record {
    later = omega (arith, first.later, second.later);
    each = λ image left. ⊎_elim (first.each image) (λ has. has) (second.before (moment old) image first.later left);
    now = second.now;
    before = λ t image le left. ⊎_elim (first.before t image le) inr (second.before t image (omega (arith, le, first.later)) left);
  }

  -- what has P has Q
  pub weaker : (old new : D) (P Q : List ℕ → Type 0) → ((image : List ℕ) → P image → Q image) → LeavesOnly moment left_since may_leave old new P
      → LeavesOnly moment left_since may_leave old new Q
  weaker old new P Q leads run = record {
    later = run.later;
    each = λ image left. leads image (run.each image left);
    now = λ image now. leads image (run.now image now);
    before = λ t image le left. ⊎_elim inl (λ has. inr (leads image has)) (run.before t image le left);
  }
