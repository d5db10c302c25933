use Rattle.std.proofs.Common.{◌-◌, sym}
use Rattle.std.specs.Prelude.{Some, None}
use Rattle.draft_core.proofs.Kept.{marked_later, marked_touched, get_at, get_past}
use Rattle.draft_core.proofs.scope.Scope.written_at.Goals as goal

pub returns-in-Some : goal.returns-in-Some
returns-in-Some c = λ ts st l.
    let s = c.args.self.now in
    let found = c.in-Some.ensures.lookup in
    sym (marked_later ts s c.args.name (Some c.in-Some.content.now) c.if-name-self.true (get_at s.later.items c.deref.result.now (c.args.name - s.drafts) c.in-Some.content.now c.deref.ensures.value found.3.0 found.1))

pub returns-in-None : goal.returns-in-None
returns-in-None c = λ ts st l.
    let s = c.args.self.now in
    sym (marked_later ts s c.args.name None c.if-name-self.true (get_past s.later.items c.deref.result.now (c.args.name - s.drafts) c.deref.ensures.value c.in-None.ensures.lookup.3))

pub returns-in-Some-get : goal.returns-in-Some-get
returns-in-Some-get c = λ ts st l. sym (marked_touched ts c.args.self.now c.args.name (Some c.in-Some-get.content.now) c.if-name-self.false (sym c.in-Some-get.ensures.value))

pub returns-in-None-get : goal.returns-in-None-get
returns-in-None-get c = λ ts st l. sym (marked_touched ts c.args.self.now c.args.name None c.if-name-self.false (sym c.in-None-get.ensures.value))
