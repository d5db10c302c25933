use Rattle.draft_slots.proofs.LookFacts.{source_node}
use Rattle.draft_slots.proofs.look.Look.source.Goals as goal

pub returns-in-Node : goal.returns-in-Node
returns-in-Node c = λ ts look.
    let l = rw c.in-Node.is at look in
    rw c.in-Node.is (source_node ts c.in-Node.field-1 c.in-Node.id l.0 l.1)
