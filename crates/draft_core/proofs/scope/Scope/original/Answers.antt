use Rattle.node_store.specs.Paged.{states}
use Rattle.std.proofs.Common.{◌∙◌, sym}
use Rattle.draft_core.proofs.Kept.{original_draft, original_none, opened_on, same_scope}
use Rattle.draft_core.proofs.scope.Scope.original.Goals as goal

pub returns-then-object-self-clause-answer : goal.returns-then-object-self-clause-answer
returns-then-object-self-clause-answer c =
    let ts = (states c.args.store.now) in
    let here = same_scope ts c.args.self.now c.args.v.now c.in-Obj.object c.in-Obj.is (sym (c.owns.ensures ts) ∙ c.if-not-owns.false) in
    sym (original_draft ts c.args.self.now c.args.v.now c.in-Obj.object c.locate.result c.requires c.in-Obj.is here c.if-object-self.true c.locate.ensures.number c.locate.ensures.place)

pub returns-then-object-self-clause-fits : goal.returns-then-object-self-clause-fits
returns-then-object-self-clause-fits c = opened_on (states c.args.store.now) c.args.self.now c.in-Obj.object.slot c.locate.result c.requires c.locate.ensures.number c.locate.ensures.place

pub returns-else-object-self-clause-answer : goal.returns-else-object-self-clause-answer
returns-else-object-self-clause-answer c =
    let ts = (states c.args.store.now) in
    let here = same_scope ts c.args.self.now c.args.v.now c.in-Obj.object c.in-Obj.is (sym (c.owns.ensures ts) ∙ c.if-not-owns.false) in
    sym (original_none ts c.args.self.now c.args.v.now c.in-Obj.object c.requires c.in-Obj.is here c.if-object-self.false)
