use Rattle.node_store.specs.Paged.{states}
use Rattle.std.proofs.Common.{◌∙◌, sym}
use Rattle.draft_core.proofs.Kept.{draft_path, draft_inside}
use Rattle.draft_core.proofs.Paths.{place_path}
use Rattle.draft_core.specs.Seen.{heap}
use Rattle.draft_core.proofs.scope.Scope.place_of.Goals as goal

pub path_to-requires-clause-inside : goal.path_to-requires-clause-inside
path_to-requires-clause-inside c = draft_inside (states c.args.store.now) c.args.self.now c.args.of.now c.in-Obj.object c.requires c.in-Obj.is (sym (c.is_draft.ensures (states c.args.store.now) c.requires) ∙ c.if-is_draft.true)

pub returns-in_ok-path_to-in-Obj : goal.returns-in_ok-path_to-in-Obj
returns-in_ok-path_to-in-Obj c =
    let ts = (states c.args.store.now) in
    place_path (heap ts c.args.self.now) c.args.of.now c.in_ok-path_to-in-Obj.field-0 (sym (c.is_draft.ensures ts c.requires) ∙ c.if-is_draft.true) (c.in_ok-path_to-in-Obj.ensures ∙ draft_path ts c.args.self.now c.args.of.now c.in-Obj.object c.requires c.in-Obj.is)
