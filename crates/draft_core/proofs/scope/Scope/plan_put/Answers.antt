use Rattle.node_store.specs.Paged.{states}
use Rattle.std.proofs.Common.{◌∙◌, sym}
use Rattle.draft_slots.specs.Looks.{looked}
use Rattle.draft_slots.proofs.LookFacts.{looked_some}
use Rattle.draft_core.proofs.Kept.{owns_ours}
use Rattle.draft_core.proofs.PlansLaws.{plan_looked}
use Rattle.draft_core.specs.Seen.{heap}
use Rattle.draft_core.proofs.scope.Scope.plan_put.Goals as goal

pub returns-in-Some : goal.returns-in-Some
returns-in-Some c =
    let ts = (states c.args.store.now) in
    let h = heap ts c.args.self.now in
    let ours = owns_ours h c.args.of.now (sym (c.owns.ensures ts) ∙ c.if-not-owns.false) in
    let ours_too = owns_ours h c.args.value (sym (c.owns-2.ensures ts) ∙ c.if-not-owns-2.false) in
    plan_looked h c.args.key.now c.args.value c.args.of.now (looked ts c.in-Some.look) c.plan_put.result c.requires.stands.sound c.in-Some.ensures.0 (looked_some ts c.in-Some.look c.in-Some.ensures.1) c.requires.owned c.requires.value ours ours_too c.plan_put.ensures
