use Rattle.std.proofs.Common.{◌≡◌, ap, ◌∙◌, length, arith}
use Rattle.draft_slots.proofs.Tables.{appended, element_key}
use Rattle.draft_slots.proofs.table.set_element.Goals as goal

pub returns-then-at-len : goal.returns-then-at-len
returns-then-at-len c =
    let long : c.len.result ≡ length c.args.table.now = c.len.ensures ∙ c.table.inside.entries.ok.0 ∙ ap length c.table.view_is in
    appended c.args.table.now c.push.new.self.items c.args.at c.args.value (c.if-at-len.true ∙ long) (rw c.table.view_is at c.in_ok-push.ensures.items)

pub set_entry-requires-clause-same_key : goal.set_entry-requires-clause-same_key
set_entry-requires-clause-same_key c =
    let long : c.len.result ≡ length c.args.table.now = c.len.ensures ∙ c.table.inside.entries.ok.0 ∙ ap length c.table.view_is in
    let in_range = c.requires.in_range in
    element_key c.args.table.now c.args.at c.requires.list (omega (arith, long, c.if-at-len.false, in_range))
