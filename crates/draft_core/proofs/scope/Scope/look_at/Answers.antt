use Rattle.node_store.specs.Paged.{states}
use Rattle.std.proofs.Common.{◌∙◌, ◌-◌, sym, ap, arith}
use Rattle.std.specs.Prelude.{Some, Option}
use Rattle.run_heap.specs.declared.content.Content.{Content}
use Rattle.draft_core.specs.Changed.{own_draft, own_later}
use Rattle.draft_core.proofs.Kept.{get_in, later_inside, later_is, touched_is, own_ascends, node_shown, node_fits}
use Rattle.draft_core.specs.Seen.{heap}
use Rattle.draft_core.proofs.scope.Scope.look_at.Goals as goal

pub index-requires : goal.index-requires
index-requires c =
    let inside = later_inside (states c.args.store.now) c.args.self.now c.args.name c.requires.name c.if-name-self.true in
    let long = c.args.self.now.later.ok.0 in
    omega (arith, inside, long)

pub returns-then-name-self-clause-shown : goal.returns-then-name-self-clause-shown
returns-then-name-self-clause-shown c =
    let inside = later_inside (states c.args.store.now) c.args.self.now c.args.name c.requires.name c.if-name-self.true in
    ap (λ (x : Content). let o : Option Content = Some x in o) c.index.ensures ∙ sym (later_is (states c.args.store.now) c.args.self.now c.args.name c.index.result.now c.if-name-self.true inside)

pub returns-then-name-self-clause-look : goal.returns-then-name-self-clause-look
returns-then-name-self-clause-look c =
    let inside = later_inside (states c.args.store.now) c.args.self.now c.args.name c.requires.name c.if-name-self.true in
    own_ascends (heap (states c.args.store.now) c.args.self.now) c.args.name c.index.result.now c.requires.stands.sound
    (later_is (states c.args.store.now) c.args.self.now c.args.name c.index.result.now c.if-name-self.true inside ∙ ap (λ (x : Content). let o : Option Content = Some x in o) (sym c.index.ensures))

pub returns-then-name-self-clause-own : goal.returns-then-name-self-clause-own
returns-then-name-self-clause-own c =
    let s = c.args.self.now in
    let inside = later_inside (states c.args.store.now) s c.args.name c.requires.name c.if-name-self.true in
    own_later s c.args.name c.if-name-self.true ∙ get_in s.later.items (c.args.name - s.drafts) c.index.result.now inside ∙ ap (λ (x : Content). let o : Option Content = Some x in o) (sym c.index.ensures)

pub returns-in-Some-clause-shown : goal.returns-in-Some-clause-shown
returns-in-Some-clause-shown c = sym (touched_is (states c.args.store.now) c.args.self.now c.args.name (Some c.in-Some.content.now) c.if-name-self.false (sym c.in-Some.ensures.value))

pub returns-in-Some-clause-look : goal.returns-in-Some-clause-look
returns-in-Some-clause-look c = own_ascends (heap (states c.args.store.now) c.args.self.now) c.args.name c.in-Some.content.now c.requires.stands.sound (touched_is (states c.args.store.now) c.args.self.now c.args.name (Some c.in-Some.content.now) c.if-name-self.false (sym c.in-Some.ensures.value))

pub returns-in-Some-clause-own : goal.returns-in-Some-clause-own
returns-in-Some-clause-own c = own_draft c.args.self.now c.args.name c.if-name-self.false ∙ sym c.in-Some.ensures.value

pub returns-in-None-clause-shown : goal.returns-in-None-clause-shown
returns-in-None-clause-shown c = node_shown (states c.args.store.now) c.args.self.now c.args.name c.locate.result c.given.result c.requires.stands c.if-name-self.false c.in-None.ensures.value c.locate.ensures.place c.given.ensures

pub returns-in-None-clause-look : goal.returns-in-None-clause-look
returns-in-None-clause-look c = (c.requires.stands.store, c.locate.ensures.number, node_fits (states c.args.store.now) c.args.self.now c.args.name c.locate.result c.given.result c.requires.stands c.locate.ensures.place c.given.ensures)

pub returns-in-None-clause-own : goal.returns-in-None-clause-own
returns-in-None-clause-own c = own_draft c.args.self.now c.args.name c.if-name-self.false ∙ sym c.in-None.ensures.value
