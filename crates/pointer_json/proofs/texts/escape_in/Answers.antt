use Rattle.std.proofs.Common.{refl, arith}
use Rattle.std.proofs.lemmas.Str.Pattern.{strip_prefix_char}
use Rattle.serde_json.specs.Find.{unescape}
use Rattle.pointer_json.proofs.TextLaws.{no_escape}
use Rattle.pointer_json.proofs.texts.escape_in.Goals as goal

pub returns-in-Some-clause-value : goal.returns-in-Some-clause-value
unfolding unescape
returns-in-Some-clause-value c =
    let found = rw c.in-Some.is at (strip_prefix_char 49 c.args.behind.now c.strip_prefix.result c.strip_prefix.ensures.cases (omega arith)) in
    rw found refl

pub returns-in-Some-strip_prefix-clause-value : goal.returns-in-Some-strip_prefix-clause-value
unfolding unescape
returns-in-Some-strip_prefix-clause-value c =
    let found = rw c.in-Some-strip_prefix.is at (strip_prefix_char 48 c.args.behind.now c.strip_prefix-in_default.result c.strip_prefix-in_default.ensures.cases (omega arith)) in
    rw found refl

pub returns-in_default-strip_prefix-clause-value : goal.returns-in_default-strip_prefix-clause-value
returns-in_default-strip_prefix-clause-value c =
    let one = rw c.in_default.is at (strip_prefix_char 49 c.args.behind.now c.strip_prefix.result c.strip_prefix.ensures.cases (omega arith)) in
    let zero = rw c.in_default-strip_prefix.is at (strip_prefix_char 48 c.args.behind.now c.strip_prefix-in_default.result c.strip_prefix-in_default.ensures.cases (omega arith)) in
    no_escape c.args.behind.now one zero
