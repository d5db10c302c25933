use Rattle.std.proofs.Common.{[], ◌∷◌, ◌++◌, Err, rules, arith, refl, ap, ◌∙◌, sym}
use Rattle.std.proofs.lemmas.Result.{err_from_is_err_and}
use Rattle.script_tree.specs.View.{view}
use Rattle.script_names.specs.Names.{reads, read}
use Rattle.js_names.specs.Scopes.{env_of}
use Rattle.js_names.specs.Judging.{so_far, all_reads, prop_reads, all_props, access_reads, all_accesses, link_reads, all_links}
use Rattle.js_names.proofs.Reading.{judges_on, judges_as, not_empty, empty, behind_first, in_some_chain, in_no_chain, in_list, in_object, in_member, in_chain, in_choice, exit_stop, loop_on, loop_exit, one_index}
use Rattle.js_names.proofs.uses.+uses.Goals as goal

pub expr-returns-in-List : goal.expr-returns-in-List
expr-returns-in-List t c =
    let env = env_of c.args.scopes.now in
    judges_as c.args.found.now.items c.exprs.new.found.items (reads env (view c.args.e.now)) (all_reads env c.as_slice.result.now) c.exprs.result (in_list env c.args.e.now c.in-List.items c.as_slice.result.now c.in-List.field-1 c.in-List.is c.as_slice.ensures) c.exprs.ensures

pub expr-returns-in-Object : goal.expr-returns-in-Object
expr-returns-in-Object t c =
    let env = env_of c.args.scopes.now in
    judges_as c.args.found.now.items c.props.new.found.items (reads env (view c.args.e.now)) (all_props env c.as_slice-in-Object.result.now) c.props.result (in_object env c.args.e.now c.in-Object.items c.as_slice-in-Object.result.now c.in-Object.field-1 c.in-Object.is c.as_slice-in-Object.ensures) c.props.ensures

pub expr-returns-in_err-expr-in-Member : goal.expr-returns-in_err-expr-in-Member
expr-returns-in_err-expr-in-Member t c =
    let env = env_of c.args.scopes.now in
    let a = c.args.found.now.items in
    let b = c.expr-in-Member.new.found.items in
    let x = c.get-in-Member.result.now in
    let rest = all_accesses env c.in-Member.accesses in
    judges_as a b (reads env (view c.args.e.now)) (reads env (view x) ++ rest) c.from_residual.result (in_member env c.args.e.now c.in-Member.base x c.in-Member.accesses c.in-Member.is c.get-in-Member.ensures) (exit_stop a b b (reads env (view x)) rest c.in_err-expr-in-Member.field-0.0 c.from_residual.result (err_from_is_err_and c.from_residual.result c.from_residual.ensures.1) c.in_err-expr-in-Member.ensures)

pub expr-returns-in_ok-expr-in-Member : goal.expr-returns-in_ok-expr-in-Member
expr-returns-in_ok-expr-in-Member t c =
    let env = env_of c.args.scopes.now in
    let a = c.args.found.now.items in
    let b = c.members.new.found.items in
    let x = c.get-in-Member.result.now in
    let rest = all_accesses env c.as_slice-in-Member.result.now in
    judges_as a b (reads env (view c.args.e.now)) (reads env (view x) ++ rest) c.members.result (in_member env c.args.e.now c.in-Member.base x c.in-Member.accesses c.in-Member.is c.get-in-Member.ensures ∙ sym (ap (λ xs. reads env (view x) ++ all_accesses env xs) c.as_slice-in-Member.ensures)) (judges_on a c.expr-in-Member.new.found.items b (reads env (view x)) rest c.members.result c.in_ok-expr-in-Member.ensures c.members.ensures)

pub expr-returns-in_err-expr-in-Chain : goal.expr-returns-in_err-expr-in-Chain
expr-returns-in_err-expr-in-Chain t c =
    let env = env_of c.args.scopes.now in
    let a = c.args.found.now.items in
    let b = c.expr-in-Chain.new.found.items in
    let x = c.get-in-Chain.result.now in
    let i = c.in-Chain in
    let r = c.from_residual-in_err-expr-in-Chain in
    let rest = behind_first env i.links in
    judges_as a b (reads env (view c.args.e.now)) (reads env (view x) ++ rest) r.result (in_some_chain env i.field-0 c.args.e.now i.first x i.links i.is c.get-in-Chain.ensures) (exit_stop a b b (reads env (view x)) rest c.in_err-expr-in-Chain.field-0.0 r.result (err_from_is_err_and r.result r.ensures.1) c.in_err-expr-in-Chain.ensures)

pub expr-returns-then-is_empty : goal.expr-returns-then-is_empty
expr-returns-then-is_empty t c =
    let env = env_of c.args.scopes.now in
    let a = c.args.found.now.items in
    let b = c.nothing.new.found.items in
    let x = c.get-in-Chain.result.now in
    let i = c.in-Chain in
    let r = c.nothing.result in
    let none = read env (0, []) ∷ [] in
    judges_as a b (reads env (view c.args.e.now)) (reads env (view x) ++ none) r (in_no_chain env i.field-0 c.args.e.now i.first x i.links i.is (empty i.links c.is_empty.result c.is_empty.ensures c.if-is_empty.true) c.get-in-Chain.ensures) (judges_on a c.expr-in-Chain.new.found.items b (reads env (view x)) none r c.in_ok-expr-in-Chain.ensures c.nothing.ensures)

pub expr-returns-else-is_empty : goal.expr-returns-else-is_empty
expr-returns-else-is_empty t c =
    let env = env_of c.args.scopes.now in
    let a = c.args.found.now.items in
    let b = c.operands.new.found.items in
    let x = c.get-in-Chain.result.now in
    let i = c.in-Chain in
    let rest = all_links env c.as_slice-in-Chain.result.now in
    let n = not_empty i.links c.is_empty.result c.is_empty.ensures c.if-is_empty.false in
    judges_as a b (reads env (view c.args.e.now)) (reads env (view x) ++ rest) c.operands.result (in_chain env i.field-0 c.args.e.now i.first x i.links i.is n c.get-in-Chain.ensures ∙ sym (ap (λ xs. reads env (view x) ++ all_links env xs) c.as_slice-in-Chain.ensures)) (judges_on a c.expr-in-Chain.new.found.items b (reads env (view x)) rest c.operands.result c.in_ok-expr-in-Chain.ensures c.operands.ensures)

pub expr-returns-in_err-expr-in-Choice : goal.expr-returns-in_err-expr-in-Choice
expr-returns-in_err-expr-in-Choice t c =
    let env = env_of c.args.scopes.now in
    let a = c.args.found.now.items in
    let b = c.expr-in-Choice.new.found.items in
    let x = c.get-in-Choice.result.now in
    let i = c.in-Choice in
    let r = c.from_residual-in_err-expr-in-Choice in
    let rest = reads env (view i.then) ++ reads env (view i.other) in
    judges_as a b (reads env (view c.args.e.now)) (reads env (view x) ++ rest) r.result (in_choice env c.args.e.now i.test i.then i.other x i.then i.other i.is c.get-in-Choice.ensures refl refl) (exit_stop a b b (reads env (view x)) rest c.in_err-expr-in-Choice.field-0.0 r.result (err_from_is_err_and r.result r.ensures.1) c.in_err-expr-in-Choice.ensures)

pub expr-returns-in_err-expr-in-Choice-2 : goal.expr-returns-in_err-expr-in-Choice-2
expr-returns-in_err-expr-in-Choice-2 t c =
    let env = env_of c.args.scopes.now in
    let a = c.args.found.now.items in
    let b = c.expr-in-Choice.new.found.items in
    let d = c.expr-in-Choice-2.new.found.items in
    let x = c.get-in-Choice.result.now in
    let y = c.get-in-Choice-2.result.now in
    let i = c.in-Choice in
    let r = c.from_residual-in_err-expr-in-Choice-2 in
    let rest = reads env (view i.other) in
    judges_as a d (reads env (view c.args.e.now)) (reads env (view x) ++ (reads env (view y) ++ rest)) r.result (in_choice env c.args.e.now i.test i.then i.other x y i.other i.is c.get-in-Choice.ensures c.get-in-Choice-2.ensures refl) (judges_on a b d (reads env (view x)) (reads env (view y) ++ rest) r.result c.in_ok-expr-in-Choice.ensures (exit_stop b d d (reads env (view y)) rest c.in_err-expr-in-Choice-2.field-0.0 r.result (err_from_is_err_and r.result r.ensures.1) c.in_err-expr-in-Choice-2.ensures))

pub expr-returns-in_ok-expr-in-Choice-2 : goal.expr-returns-in_ok-expr-in-Choice-2
expr-returns-in_ok-expr-in-Choice-2 t c =
    let env = env_of c.args.scopes.now in
    let a = c.args.found.now.items in
    let b = c.expr-in-Choice.new.found.items in
    let d = c.expr-in-Choice-2.new.found.items in
    let e = c.expr-in-Choice-3.new.found.items in
    let x = c.get-in-Choice.result.now in
    let y = c.get-in-Choice-2.result.now in
    let z = c.get-in-Choice-3.result.now in
    let i = c.in-Choice in
    let r = c.expr-in-Choice-3.result in
    judges_as a e (reads env (view c.args.e.now)) (reads env (view x) ++ (reads env (view y) ++ reads env (view z))) r (in_choice env c.args.e.now i.test i.then i.other x y z i.is c.get-in-Choice.ensures c.get-in-Choice-2.ensures c.get-in-Choice-3.ensures) (judges_on a b e (reads env (view x)) (reads env (view y) ++ reads env (view z)) r c.in_ok-expr-in-Choice.ensures (judges_on b d e (reads env (view y)) (reads env (view z)) r c.in_ok-expr-in-Choice-2.ensures c.expr-in-Choice-3.ensures))

pub exprs-loop-e-preserved : goal.exprs-loop-e-preserved
exprs-loop-e-preserved t c =
    let env = env_of c.args.scopes.now in
    loop_on (λ e. reads env (view e)) (all_reads env) (λ x xs. refl) c.args.items.now c.loop-e.e-index c.e-item.result c.loop-e-test.true c.e-item.is c.loop-e.found.items c.expr.new.found.items _ c.in_ok-expr.ensures c.loop-e.invariant

pub exprs-returns-in_err-expr : goal.exprs-returns-in_err-expr
exprs-returns-in_err-expr t c =
    let env = env_of c.args.scopes.now in
    loop_exit (λ e. reads env (view e)) (all_reads env) (λ x xs. refl) c.args.items.now c.loop-e.e-index c.e-item.result c.loop-e-test.true c.e-item.is c.args.found.now.items c.loop-e.found.items c.expr.new.found.items c.expr.new.found.items c.in_err-expr.field-0.0 c.from_residual.result (err_from_is_err_and c.from_residual.result c.from_residual.ensures.1) c.in_err-expr.ensures c.loop-e.invariant

pub props-loop-p-preserved : goal.props-loop-p-preserved
props-loop-p-preserved t c =
    let env = env_of c.args.scopes.now in
    loop_on (prop_reads env) (all_props env) (λ x xs. refl) c.args.items.now c.loop-p.p-index c.p-item.result c.loop-p-test.true c.p-item.is c.loop-p.found.items c.prop.new.found.items _ c.in_ok-prop.ensures c.loop-p.invariant

pub props-returns-in_err-prop : goal.props-returns-in_err-prop
props-returns-in_err-prop t c =
    let env = env_of c.args.scopes.now in
    let b = c.prop.new.found.items in
    loop_exit (prop_reads env) (all_props env) (λ x xs. refl) c.args.items.now c.loop-p.p-index c.p-item.result c.loop-p-test.true c.p-item.is c.args.found.now.items c.loop-p.found.items b b c.in_err-prop.field-0.0 c.from_residual.result (err_from_is_err_and c.from_residual.result c.from_residual.ensures.1) c.in_err-prop.ensures c.loop-p.invariant

pub members-loop-a-preserved : goal.members-loop-a-preserved
members-loop-a-preserved t c =
    let env = env_of c.args.scopes.now in
    let one = one_index env c.a-item.result c.as_slice-index.result.now c.index-index-0.result (search rules) c.as_slice-index.ensures (omega arith) c.index-index-0.is in
    loop_on (access_reads env) (all_accesses env) (λ x xs. refl) c.args.accesses.now c.loop-a.a-index c.a-item.result c.loop-a-test.true c.a-item.is c.loop-a.found.items c.expr.new.found.items _ (ap (so_far c.loop-a.found.items) one ∙ c.in_ok-expr.ensures) c.loop-a.invariant

pub members-returns-in_err-expr : goal.members-returns-in_err-expr
members-returns-in_err-expr t c =
    let env = env_of c.args.scopes.now in
    let b = c.expr.new.found.items in
    let one = one_index env c.a-item.result c.as_slice-index.result.now c.index-index-0.result (search rules) c.as_slice-index.ensures (omega arith) c.index-index-0.is in
    loop_exit (access_reads env) (all_accesses env) (λ x xs. refl) c.args.accesses.now c.loop-a.a-index c.a-item.result c.loop-a-test.true c.a-item.is c.args.found.now.items c.loop-a.found.items b b c.in_err-expr.field-0.0 c.from_residual.result (err_from_is_err_and c.from_residual.result c.from_residual.ensures.1) (judges_as c.loop-a.found.items b (access_reads env c.a-item.result) (reads env (view c.index-index-0.result)) (Err c.in_err-expr.field-0.0) one c.in_err-expr.ensures) c.loop-a.invariant

pub operands-loop-link-preserved : goal.operands-loop-link-preserved
operands-loop-link-preserved t c =
    let env = env_of c.args.scopes.now in
    loop_on (link_reads env) (all_links env) (λ x xs. refl) c.args.links.now c.loop-link.link-index c.link-item.result c.loop-link-test.true c.link-item.is c.loop-link.found.items c.expr.new.found.items _ c.in_ok-expr.ensures c.loop-link.invariant

pub operands-returns-in_err-expr : goal.operands-returns-in_err-expr
operands-returns-in_err-expr t c =
    let env = env_of c.args.scopes.now in
    let b = c.expr.new.found.items in
    loop_exit (link_reads env) (all_links env) (λ x xs. refl) c.args.links.now c.loop-link.link-index c.link-item.result c.loop-link-test.true c.link-item.is c.args.found.now.items c.loop-link.found.items b b c.in_err-expr.field-0.0 c.from_residual.result (err_from_is_err_and c.from_residual.result c.from_residual.ensures.1) c.in_err-expr.ensures c.loop-link.invariant
