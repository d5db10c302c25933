use Rattle.node_store.specs.Paged.{states}
use Rattle.draft_core.proofs.Changed.{change_may, change_done, change_sound, change_grows, stands_as}
use Rattle.draft_core.proofs.scope.Scope.change.Goals as goal

pub rewrite_at-requires : goal.rewrite_at-requires
rewrite_at-requires c =
    let opened = c.in_ok-open-in-Obj.ensures in
    record { may = change_may (states c.args.store.now) c.args.self.now c.open.new.self c.args.of.now c.in-Obj.object c.args.change opened.heap c.in-Obj.is opened.own c.requires.may }

pub returns-clause-done : goal.returns-clause-done
returns-clause-done c =
    let opened = c.in_ok-open-in-Obj.ensures in
    let e = c.rewrite_at.ensures in
    change_done (states c.args.store.now) c.args.self.now c.open.new.self c.args.of.now c.in-Obj.object c.args.change opened.heap c.in-Obj.is opened.own c.rewrite_at.new.self e.beside c.rewrite_at.result e.ok e.err

pub returns-clause-stands : goal.returns-clause-stands
returns-clause-stands c =
    let opened = c.in_ok-open-in-Obj.ensures in
    let e = c.rewrite_at.ensures in
    stands_as (states c.args.store.now) c.open.new.self c.rewrite_at.new.self opened.stands e.beside (change_sound (states c.args.store.now) c.args.self.now c.open.new.self c.args.of.now c.in-Obj.object c.args.change opened.heap c.in-Obj.is opened.own c.rewrite_at.new.self e.beside c.rewrite_at.result e.ok e.err c.requires.stands.sound c.requires.table)

pub returns-clause-grows : goal.returns-clause-grows
returns-clause-grows c =
    let opened = c.in_ok-open-in-Obj.ensures in
    let e = c.rewrite_at.ensures in
    change_grows (states c.args.store.now) c.args.self.now c.open.new.self c.args.of.now c.in-Obj.object c.args.change opened.heap c.in-Obj.is opened.own c.rewrite_at.new.self e.beside c.rewrite_at.result e.ok e.err
