use Rattle.node_store.specs.Paged.{states}
use Rattle.std.proofs.Common.{sym}
use Rattle.std.specs.Prelude.{Some, None}
use Rattle.run_heap.specs.Operations.{rows_of}
use Rattle.draft_slots.specs.Looks.{looked}
use Rattle.draft_slots.proofs.LookFacts.{position_below, member_found, member_absent, entry_found}
use Rattle.draft_slots.proofs.look.Look.member.Goals as goal

pub value-requires-clause-in_range : goal.value-requires-clause-in_range
value-requires-clause-in_range c = position_below c.args.key.now (rows_of (looked (states c.args.store.now) c.args.self.now)) c.in-Some.i (sym c.in-Some.ensures)

pub returns-in_ok-value-in-Some : goal.returns-in_ok-value-in-Some
returns-in_ok-value-in-Some c =
    let t = rows_of (looked (states c.args.store.now) c.args.self.now) in
    entry_found c.args.key.now c.args.text.now t (Some c.in_ok-value-in-Some.field-0) c.requires.text (sym c.if-is_reserved.ensures) (member_found c.args.key.now t c.in-Some.i c.in_ok-value-in-Some.field-0 (sym c.in-Some.ensures) c.in_ok-value-in-Some.ensures)

pub returns-in-None : goal.returns-in-None
returns-in-None c =
    let t = rows_of (looked (states c.args.store.now) c.args.self.now) in
    entry_found c.args.key.now c.args.text.now t None c.requires.text (sym c.if-is_reserved.ensures) (member_absent c.args.key.now t (sym c.in-None.ensures))
