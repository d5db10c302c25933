use Rattle.std.proofs.Common.{◌≡◌, ◌++◌, List, ℕ, sym, ap, ◌∙◌, rules, string_bytes}
use Rattle.std.proofs.lemmas.Str.Pattern.{split_parts}
use Rattle.host_protocol_spec.specs.PointerTexts.{replaced}
use Rattle.pointer_json.proofs.TextLaws.{replaced_next, replaced_last, written}
use Rattle.pointer_json.proofs.texts.replaced.Goals as goal

pub loop-part-preserved : goal.loop-part-preserved
loop-part-preserved c =
    let l = c.loop-part in
    let sign = c.args.sign in
    let by = c.args.by.now in
    let out = string_bytes l.out in
    let cut = rw c.in-Some.is at (split_parts sign l.rest.now c.split_once.result c.split_once.ensures.cases c.requires) in
    let turn = l.invariant.1 ∙ ap (λ (s : List ℕ). out ++ replaced sign by s) cut.0 ∙ ap (λ (s : List ℕ). out ++ s) (replaced_next sign by c.in-Some.part.now c.in-Some.more.now cut.1) in
    (search rules, written _ out _ _ c.in-Some.part.now by _ turn c.in_ok-push_str.ensures.bytes c.in_ok-push_str-2.ensures.bytes)

pub returns : goal.returns
returns c =
    let l = c.loop-part in
    let none = rw c.in_default.is at (split_parts c.args.sign l.rest.now c.split_once.result c.split_once.ensures.cases c.requires) in
    c.in_ok-push_str-3.ensures.bytes ∙ sym (l.invariant.1 ∙ ap (λ (s : List ℕ). string_bytes l.out ++ s) (replaced_last c.args.sign c.args.by.now l.rest.now none))
