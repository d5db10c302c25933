use Rattle.node_store.specs.Paged.{states}
use Rattle.std.proofs.Common.{◌∙◌, ap, ◌+◌, length}
use Rattle.value_model.specs.Limits.{state_limit}
use Rattle.numbered.proofs.Laws.{plain_numbered}
use Rattle.numbered.specs.Tree.{Tree, plain}
use Rattle.host_engine.specs.Drafts.{plain_rows}
use Rattle.host_engine.specs.Kept.{state_of}
use Rattle.host_engine.proofs.FlatLaws.{flat_accepted}
use Rattle.host_engine.proofs.change.keep.Goals as goal

pub add-requires-clause-below : goal.add-requires-clause-below
add-requires-clause-below c = c.in_ok-node.ensures.below (states c.args.store.now)

pub add-requires-clause-accepted : goal.add-requires-clause-accepted
add-requires-clause-accepted c =
    let ts = (states c.args.store.now) in
    let es = plain_rows c.args.table in
    let plan = c.in_ok-node.ensures in
    ap (λ (t : Tree). state_limit (plain t)) (plan.node ts)
    ∙ ap state_limit (plain_numbered (length ts + 1) (state_of es)) ∙ flat_accepted es c.requires.flat plan.small
