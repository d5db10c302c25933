-- How many members a refusal has.
use Rattle.std.specs.Prelude.{ℕ, Option, Some, None}
use Rattle.plain_values.specs.declared.refusal.Refusal.{Refusal}
use Rattle.plain_values.specs.declared.refusal.Refusal.TheVariants as refusal

-- one where it is there
abbrev pub count_len : Option ℕ → ℕ
count_len None = 0
count_len (Some n) = 1

-- what a refusal tells besides its name
abbrev pub told_len : Refusal → ℕ
told_len (refusal.Named cause) = 0
told_len (refusal.Thrown value) = 1
told_len (refusal.Stale opened now) = 2
told_len (refusal.SessionsOpen sessions) = 1
told_len (refusal.Guard path) = 1
told_len (refusal.Denied rule place) = 2
