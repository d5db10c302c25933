use Rattle.std.proofs.Common.{◌∙◌, ◌<◌, ◌≤◌, length, ap, arith}
use Rattle.value_model.specs.declared.key.Key.{Key}
use Rattle.value_model.specs.declared.kind.Kind.TheVariants as kind
use Rattle.numbered.specs.Store.{tree_at}
use Rattle.page_tables.specs.declared.cell.Cell.{Cell}
use Rattle.node_store.specs.Paged.{states, rows_at}
use Rattle.node_store.specs.Unfolds.{row_key}
use Rattle.node_store.proofs.Unfolds.{unfolded, set_value, set_order, turn, ended}
use Rattle.node_store.proofs.unfold.unfold_members.Goals as goal

pub loop-i-preserved : goal.loop-i-preserved
loop-i-preserved c =
    let us = states c.args.store.now in
    let rs = rows_at c.args.store.now c.args.id in
    let t = tree_at us c.args.id in
    let size = c.size-count.ensures in
    let many = size.rows in
    let u = unfolded us c.args.id kind.Set rs size.store size.number c.requires.members size.branches_are in
    let d = c.row-row.result.now in
    let turns = c.loop-i-test.true in
    let l : c.loop-i.i < length rs = omega (arith, many, turns) in
    let here = c.row-row.ensures.value d in
    turn row_key rs c.loop-i.i d c.loop-i.out.items c.push.new.self.items c.in_ok-copy.field-0 l c.loop-i.invariant c.in_ok-push.ensures.items (c.in_ok-copy.ensures ∙ c.key.ensures ∙ ap (λ (r : Key × Cell). r.0) here)

pub returns-clause-sorted : goal.returns-clause-sorted
returns-clause-sorted c =
    let us = states c.args.store.now in
    let rs = rows_at c.args.store.now c.args.id in
    let t = tree_at us c.args.id in
    let size = c.size-count.ensures in
    let many = size.rows in
    let u = unfolded us c.args.id kind.Set rs size.store size.number c.requires.members size.branches_are in
    let turns = c.loop-i-test.false in
    let l : length rs ≤ c.loop-i.i = omega (arith, many, turns) in
    set_order us t rs c.loop-i.out.items u (ended row_key rs c.loop-i.i c.loop-i.out.items l c.loop-i.invariant)

pub returns-clause-value : goal.returns-clause-value
returns-clause-value c =
    let us = states c.args.store.now in
    let rs = rows_at c.args.store.now c.args.id in
    let t = tree_at us c.args.id in
    let size = c.size-count.ensures in
    let many = size.rows in
    let u = unfolded us c.args.id kind.Set rs size.store size.number c.requires.members size.branches_are in
    let turns = c.loop-i-test.false in
    let l : length rs ≤ c.loop-i.i = omega (arith, many, turns) in
    set_value us t rs c.loop-i.out.items u (ended row_key rs c.loop-i.i c.loop-i.out.items l c.loop-i.invariant)
