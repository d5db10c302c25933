use Rattle.std.proofs.Common.{◌≡◌, ◌++◌, ◌∷◌, List, ℕ, [], sym, ap, ◌∙◌, rules, arith, Ok, Err, append-nil}
use Rattle.std.proofs.lemmas.Str.Pattern.{split_parts}
use Rattle.host_protocol_spec.specs.PointerTexts.{parts_of}
use Rattle.host_protocol_spec.specs.Pointers.{texts_from}
use Rattle.value_json_spec.specs.Answers.{result_map}
use Rattle.pointer_json.proofs.TextLaws.{Texts, parts_next, parts_last, step_read, step_failed}
use Rattle.pointer_json.proofs.texts.parts_in.Goals as goal

pub returns-in_err-step_in : goal.returns-in_err-step_in
returns-in_err-step_in c =
    let l = c.loop-part in
    let cut = rw c.in-Some.is at (split_parts 47 l.rest.now c.split_once.result c.split_once.ensures.cases (omega arith)) in
    let next = ap (λ (s : List ℕ). texts_from (parts_of s)) cut.0 ∙ parts_next c.in-Some.part.now c.in-Some.more.now cut.1 in
    let gone : c.from_residual.result ≡ Err c.in_err-step_in.field-0.0 = grind arith in
    rw gone (step_failed _ _ l.out.items c.in-Some.part.now _ c.in_err-step_in.field-0.0 l.invariant.1 next c.in_err-step_in.ensures)

pub loop-part-preserved : goal.loop-part-preserved
loop-part-preserved c =
    let l = c.loop-part in
    let cut = rw c.in-Some.is at (split_parts 47 l.rest.now c.split_once.result c.split_once.ensures.cases (omega arith)) in
    let next = ap (λ (s : List ℕ). texts_from (parts_of s)) cut.0 ∙ parts_next c.in-Some.part.now c.in-Some.more.now cut.1 in
    (search rules, rw c.in_ok-push.ensures.items (step_read _ _ l.out.items c.in-Some.part.now c.in_ok-step_in.field-0 _ l.invariant.1 next c.in_ok-step_in.ensures))

pub returns-in_err-step_in-2 : goal.returns-in_err-step_in-2
returns-in_err-step_in-2 c =
    let l = c.loop-part in
    let none = rw c.in_default.is at (split_parts 47 l.rest.now c.split_once.result c.split_once.ensures.cases (omega arith)) in
    let nothing : Texts = Ok [] in
    let gone : c.from_residual-in_err-step_in-2.result ≡ Err c.in_err-step_in-2.field-0.0 = grind arith in
    rw gone (step_failed _ _ l.out.items l.rest.now nothing c.in_err-step_in-2.field-0.0 l.invariant.1 (parts_last l.rest.now none) c.in_err-step_in-2.ensures)

pub returns : goal.returns
returns c =
    let l = c.loop-part in
    let none = rw c.in_default.is at (split_parts 47 l.rest.now c.split_once.result c.split_once.ensures.cases (omega arith)) in
    let nothing : Texts = Ok [] in
    step_read _ _ l.out.items l.rest.now c.in_ok-step_in-2.field-0 nothing l.invariant.1 (parts_last l.rest.now none) c.in_ok-step_in-2.ensures
    ∙ ap (λ (ts : List (List ℕ)). Ok ts) (append-nil (l.out.items ++ c.in_ok-step_in-2.field-0 ∷ []) ∙ sym c.in_ok-push-2.ensures.items)
