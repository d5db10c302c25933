use Rattle.node_store.specs.Paged.{states}
use Rattle.std.proofs.Common.{◌∙◌, sym}
use Rattle.draft_slots.specs.Looks.{looked}
use Rattle.draft_slots.proofs.LookFacts.{looked_some}
use Rattle.draft_core.proofs.FreshLaws.{keys_read}
use Rattle.draft_core.proofs.Kept.{owns_ours}
use Rattle.draft_core.specs.Seen.{heap}
use Rattle.draft_core.proofs.scope.Scope.key_list.Goals as goal

pub returns-in_ok-keys-in-Obj : goal.returns-in_ok-keys-in-Obj
returns-in_ok-keys-in-Obj c =
    let ts = (states c.args.store.now) in
    let h = heap ts c.args.self.now in
    let ours = owns_ours h c.args.of.now (sym (c.owns.ensures ts) ∙ c.if-not-owns.false) in
    keys_read h c.args.of.now (looked ts c.in-Some.look) c.in_ok-keys-in-Obj.field-0 ours c.in-Some.ensures.0 (looked_some ts c.in-Some.look c.in-Some.ensures.1) c.in-Obj.ensures c.in_ok-keys-in-Obj.ensures
