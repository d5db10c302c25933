use Rattle.value_model.specs.declared.kind.Kind.TheVariants as kind
use Rattle.std.proofs.Common.{ap, ◌∙◌, map}
use Rattle.std.specs.FinMap.Entries.{is_sorted}
use Rattle.value_model.specs.Order.{key_cmp}
use Rattle.value_model.proofs.Steps.{list_of_entries}
use Rattle.values.proofs.Fits.{members_fit}
use Rattle.values.specs.Seen.{of_member, of_members}
use Rattle.draft_literals.proofs.MakingLaws.{members_made, container_ok}
use Rattle.draft_literals.proofs.making.literal_set.Goals as goal

pub returns : goal.returns
returns c =
    let old = c.args.out.now.items in
    let ks = c.args.members.now.items in
    container_ok c.object.result c.args.scope c.args.first kind.Set (of_members ks) old old c.object.new.out.items c.in_ok-table.table.items (ap (is_sorted key_cmp) (list_of_entries (map of_member ks)) ∙ c.requires.sorted) (members_fit ks) (members_made c.args.scope c.args.first ks old c.in_ok-table.table.items c.in_ok-table.ensures) c.object.ensures
