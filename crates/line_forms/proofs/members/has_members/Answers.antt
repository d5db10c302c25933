use Rattle.std.proofs.Common.{ap, ◌∙◌, sym, nat_eq}
use Rattle.serde_json.proofs.Views.{members_len-members_view}
use Rattle.line_forms.proofs.members.has_members.Goals as goal

pub returns-in-Some : goal.returns-in-Some
returns-in-Some c = rw (← c.in-Some.ensures) (ap (λ n. nat_eq n c.args.count) (c.len.ensures.len ∙ sym (members_len-members_view c.in-Some.members.now.entries)))
