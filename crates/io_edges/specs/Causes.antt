-- When a call of an object that was handed in may fail, and what its counts then say.
use Rattle.std.specs.Prelude.{◌≡◌, ℕ, ◌+◌, ◌-◌, ◌^◌, ◌<◌, ◌≤◌, min, List, Contains, Result, OnErr, IsErr, MatchResult, ◌⊎◌}

-- a count after one more: it stands still at the end of its 64 bits
abbrev pub next_count : ℕ → ℕ
next_count n = min (n + 1) (2 ^ 64 - 1)

-- the count has risen, or stands at its type's end
abbrev pub Rose : ℕ → ℕ → Type 0
Rose before now = next_count before ≤ now

-- the count has not fallen, and a fault is answered only where it rose in this call
pub record HasCause {T E : Type 0} (before now : ℕ) (result : Result T E) : Type 0 where
  pub later : before ≤ now
  pub failed : OnErr result (Rose before now)

-- each call that fails is counted, and no other is
abbrev pub CountsFaults : {T E : Type 0} → ℕ → ℕ → Result T E → Type 0
CountsFaults before now result = MatchResult result (λ _. now ≡ before) (λ _. now ≡ next_count before)

-- a call fails exactly where its number is listed or the count of calls refused for want of memory rose in it
pub record FailsAsListed {T E : Type 0} (listed : List ℕ) (call refused refused_now : ℕ) (result : Result T E) : Type 0 where
  pub later : refused ≤ refused_now
  pub at_listed : Contains listed call → IsErr result
  pub at_refused : refused < refused_now → IsErr result
  pub only : IsErr result → Contains listed call ⊎ Rose refused refused_now
