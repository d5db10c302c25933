use Rattle.std.proofs.Common.{[], Some, Ok, is_some, sym, ap, ◌∙◌}
use Rattle.std.proofs.lemmas.Result.{err_from_is_err_and}
use Rattle.std.specs.Prelude.{if◌then◌else◌}
use Rattle.std.specs.Str.{bytes_eq}
use Rattle.script_tree.specs.View.{program_of}
use Rattle.script_names.specs.Names.{names_behind, names_of, reducer_named}
use Rattle.js_names.specs.Index.{number_in}
use Rattle.js_names.proofs.Whole.{named, behind_all, behind_none, reducers_on, reducers_fault, has_next, numbers_next, Added, or_number, from_first, gives_match, whole}
use Rattle.js_names.proofs.program.resolve.Goals as goal

pub loop-number-init : goal.loop-number-init
loop-number-init c =
    let p = program_of c.args.reducers.now in record {
      names = ap (λ found. behind_all found (names_behind [] p)) c.new-found.ensures.items ∙ behind_none (names_behind [] p);
      has = λ x. ap is_some (sym (c.new-index.ensures x));
      numbers = λ x. ap (λ n. or_number n 0 (reducer_named x p)) (c.new-index.ensures x) ∙ from_first (reducer_named x p);
    }

pub loop-number-preserved : goal.loop-number-preserved
loop-number-preserved c =
    let rs = c.args.reducers.now in
    let i = c.loop-number.number in
    let r = c.index-reducers-number.result in
    let h = c.loop-number-test.true in
    let e = c.index-reducers-number.is in
    let inv = c.loop-number.invariant in
    let ns = c.in_ok-names_in.field-0 in
    let ok = c.in_ok-names_in.ensures (named rs i) inv.has in
    let added : Added c.loop-number.index c.add.new.self r.name.text i = λ x. c.in_ok-add.ensures x ∙ ap (λ n. if bytes_eq n x then Some i else number_in c.loop-number.index x) c.as_slice.ensures in record {
      names = reducers_on rs i r h e c.loop-number.found.items c.push.new.self.items ns _ ok c.in_ok-push.ensures.items inv.names;
      has = has_next rs i r h e c.loop-number.index c.add.new.self inv.has added;
      numbers = λ x. numbers_next rs i r h e c.loop-number.index c.add.new.self ns ok inv.has added x _ (inv.numbers x);
    }

pub returns-in_err-names_in-clause-names : goal.returns-in_err-names_in-clause-names
unfolding names_of
returns-in_err-names_in-clause-names c =
    let rs = c.args.reducers.now in
    let i = c.loop-number.number in
    let inv = c.loop-number.invariant in
    let f = c.in_err-names_in.field-0.0 in
    let p = err_from_is_err_and c.from_residual.result c.from_residual.ensures.1 in
    gives_match (names_behind [] (program_of rs)) c.from_residual.result f p (reducers_fault rs i c.index-reducers-number.result c.loop-number-test.true c.index-reducers-number.is c.loop-number.found.items f _ (c.in_err-names_in.ensures (named rs i) inv.has) inv.names)

pub returns-clause-names : goal.returns-clause-names
unfolding names_of
returns-clause-names c = whole c.args.reducers.now c.loop-number.number c.loop-number.found.items c.loop-number-test.false c.loop-number.invariant.names ∙ ap Ok (sym c.from_vec.ensures)
