use Rattle.std.proofs.Common.{ap, ◌∙◌, not, length}
use Rattle.std.specs.Prelude.{◌==◌, ℕ}
use Rattle.draft_slots.proofs.Tables.{cleared_differs}
use Rattle.draft_slots.proofs.table.clear.Goals as goal

pub returns-clause-differs : goal.returns-clause-differs
returns-clause-differs c = ap not (c.is_empty-differs.ensures ∙ ap (λ (n : ℕ). n == 0) (c.table.inside.entries.ok.0 ∙ ap length c.table.view_is)) ∙ cleared_differs c.args.table.now
