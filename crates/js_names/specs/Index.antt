-- Which reducers an index has.
use Rattle.std.specs.Prelude.{ℕ, List, Option}
use Rattle.std.specs.Ordering.{nat_cmp}
use Rattle.std.specs.Cmp.Lexicographic.{slice_cmp}
use Rattle.std.specs.BTreeMap.{get_by}
use Rattle.js_names.specs.declared.index.Index.{Index}

-- the number of the reducer of this name
abbrev pub number_in : Index → List ℕ → Option ℕ
number_in i x = get_by (λ k. slice_cmp nat_cmp x k.items) i.numbers
