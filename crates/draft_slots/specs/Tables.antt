-- Tables in code: where a key is, and what changing an entry makes of the table.
use Rattle.std.proofs.Common.{◌≡◌, ◌-◌, ℕ, zero, suc, [], get_or, Bool, not}
use Rattle.std.specs.Prelude.{MatchResult, Result}
use Rattle.value_model.specs.declared.key.Key.{Key}
use Rattle.value_model.specs.Plain.{Plain, prim}
use Rattle.run_heap.specs.declared.value.Rv.{Rv}
use Rattle.run_heap.specs.Operations.{Rows}
use Rattle.run_heap.specs.Values.{same_tables}

-- an entry's key as an entry of a value's table
abbrev pub keyed : Key × Rv → Key × Plain
keyed e = (e.0, prim e.0)

-- a table was left as t, and the answer says whether it differs
abbrev pub Leaves : {E : Type 0} → Result Bool E → Rows → Rows → Rows → Type 0
Leaves r old new t = MatchResult r (λ b. (new ≡ t) × (b ≡ not (same_tables old t))) (λ _. new ≡ old)

-- the entry at an index has this key
abbrev pub KeyAt : Key → ℕ → Rows → Type 0
KeyAt k i t = (d : Key × Rv) → (get_or t i d).0 ≡ k
