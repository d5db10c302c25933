use Rattle.std.proofs.Common.{List, ◌++◌, sym, subst}
use Rattle.js_slots.specs.declared.slots.Slots.{Slots}
use Rattle.js_slots.specs.Numbers.{Numbers, HaveSlots}
use Rattle.js_slots.proofs.Numbers.{goes_on, all_gone}
use Rattle.js_slots.proofs.all.number.Goals as goal

pub loop-names-init : goal.loop-names-init
loop-names-init c = λ more h. subst (λ (ss : List Slots). HaveSlots c.args.found.now (ss ++ more)) (sym c.new-all.ensures.items) h

pub loop-names-preserved : goal.loop-names-preserved
loop-names-preserved c =
    let s = c.in_ok-of.field-0 in
    let e = c.in_ok-of.ensures in
    let numbers : Numbers c.names-item.result s = subst (λ f. Numbers f s) c.as_slice.ensures (e.slots, e.count) in
    goes_on c.args.found.now c.loop-names.names-index c.names-item.result c.loop-names-test.true c.names-item.is c.loop-names.all.items c.push.new.self.items s numbers c.in_ok-push.ensures.items c.loop-names.invariant

pub returns : goal.returns
returns c = subst (HaveSlots c.args.found.now) (sym c.from_vec.ensures) (all_gone c.args.found.now c.loop-names.names-index c.loop-names.all.items c.loop-names-test.false c.loop-names.invariant)
