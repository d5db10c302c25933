use Rattle.std.proofs.Common.{◌≡◌, ◌++◌, ◌∷◌, List, ℕ, sym, ap, ◌∙◌, rules, arith, string_bytes}
use Rattle.std.proofs.lemmas.Str.Pattern.{split_parts}
use Rattle.serde_json.specs.Find.{unescape}
use Rattle.serde_json.proofs.Paths.{unescape_plain}
use Rattle.pointer_json.proofs.TextLaws.{unescape_before, written}
use Rattle.pointer_json.proofs.texts.unescaped.Goals as goal

pub loop-plain-preserved : goal.loop-plain-preserved
loop-plain-preserved c =
    let l = c.loop-plain in
    let out = string_bytes l.out in
    let plain = c.in-Some.plain.now in
    let behind = c.in-Some.behind.now in
    let cut = rw c.in-Some.is at (split_parts 126 l.rest.now c.split_once.result c.split_once.ensures.cases (omega arith)) in
    let turn = l.invariant.1 ∙ ap (λ (s : List ℕ). out ++ unescape s) cut.0 ∙ ap (λ (s : List ℕ). out ++ s) (unescape_before plain (126 ∷ behind) cut.1 ∙ ap (λ (s : List ℕ). plain ++ s) c.escape_in.ensures.value) in
    (search rules, written _ out _ _ plain c.escape_in.result.0.now _ turn c.in_ok-push_str.ensures.bytes c.in_ok-push_str-2.ensures.bytes)

pub returns : goal.returns
returns c =
    let l = c.loop-plain in
    let none = rw c.in_default.is at (split_parts 126 l.rest.now c.split_once.result c.split_once.ensures.cases (omega arith)) in
    c.in_ok-push_str-3.ensures.bytes ∙ sym (l.invariant.1 ∙ ap (λ (s : List ℕ). string_bytes l.out ++ s) (unescape_plain l.rest.now none))
