use Rattle.std.proofs.Common.{◌≡◌, ap, ◌∙◌, not, get_or}
use Rattle.value_model.specs.declared.key.Key.{Key}
use Rattle.run_heap.specs.declared.value.Rv.{Rv}
use Rattle.run_heap.specs.Values.{same}
use Rattle.draft_slots.proofs.Tables.{set_differs}
use Rattle.draft_slots.proofs.table.set_entry.Goals as goal

pub returns-clause-differs : goal.returns-clause-differs
returns-clause-differs c =
    let t = c.args.table.now in
    let old = c.index.result.now in
    let there : old ≡ get_or t c.args.at old = rw c.table.view_is at c.index.ensures in
    ap not (c.same-differs.ensures ∙ ap (λ (e : Key × Rv). same e.1 c.args.entry.1) there) ∙ set_differs t c.args.at old c.args.entry c.requires.same_key c.requires.in_range
