use Rattle.node_store.specs.Paged.{states}
use Rattle.draft_slots.proofs.LookFacts.{content_made}
use Rattle.draft_slots.proofs.nodes.node_content.Goals as goal

pub returns : goal.returns
returns c = content_made (states c.args.store.now) c.args.given c.args.id c.kind.result c.in_ok-node_entries.field-0 c.requires.store c.requires.number c.kind.ensures c.in_ok-node_entries.ensures
