use Rattle.node_store.specs.Paged.{states}
use Rattle.draft_slots.proofs.LookFacts.{then_entry}
use Rattle.draft_slots.proofs.look.Look.entry.Goals as goal

pub returns-in-Text : goal.returns-in-Text
returns-in-Text c = rw (then_entry (states c.args.store.now) c.args.self.now c.args.key.now c.requires, ← c.in-Obj.ensures) c.member.ensures
