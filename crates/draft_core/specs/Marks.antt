-- Whether a draft was written, by the drafts that have a table.
use Rattle.std.proofs.Common.{ℕ, List, Bool}
use Rattle.std.specs.Prelude.{◌&&◌, nat_lt}
use Rattle.std.specs.List.{list_any}
use Rattle.run_heap.specs.declared.content.Content.{Content}

abbrev pub marks : ℕ → List (ℕ × Content) → Bool
marks k es = list_any (λ e. nat_lt e.0 k && e.1.written) es
