use Rattle.std.proofs.Common.{List, Option, ap, ◌∙◌, drop, ◌+◌}
use Rattle.patch_meaning.specs.Applying.{applied_from, from_root}
use Rattle.value_model.specs.Plain.{Plain}
use Rattle.values.specs.declared.patch.Patch.{Patch}
use Rattle.plain_apply.proofs.Last.{none_applied, some_applied}
use Rattle.plain_apply.proofs.apply.apply_plain.Goals as goal

pub returns-in_ok-copy-in-None : goal.returns-in_ok-copy-in-None
returns-in_ok-copy-in-None c =
    rw (none_applied c.args.patches.now c.args.v.now (rw c.as_slice-list.ensures at c.in-None.ensures.last))
    (rw (c.as_slice-list.ensures, c.in_ok-copy-in-None.ensures) at c.applied_from.ensures)

pub returns-in-None-value : goal.returns-in-None-value
returns-in-None-value c =
    let list : List Patch = c.as_slice-list.result.now in
    let at = c.in-Some.at in
    rw (← c.as_slice-list.ensures)
    ((some_applied list c.args.v.now at c.index-list-at.result c.in-Some.ensures.last).is
    ∙ ap (λ (o : Option Plain). from_root at o (applied_from (at + 1) (drop (at + 1) list))) c.in-None-value.is)

pub returns-in_ok-copy-in-Some-value : goal.returns-in_ok-copy-in-Some-value
returns-in_ok-copy-in-Some-value c =
    let list : List Patch = c.as_slice-list.result.now in
    let at = c.in-Some.at in
    rw (← c.as_slice-list.ensures, (some_applied list c.args.v.now at c.index-list-at.result c.in-Some.ensures.last).is, c.in-Some-value.is)
    (rw c.in_ok-copy-in-Some-value.ensures at c.applied_from-in-Some-value.ensures)
