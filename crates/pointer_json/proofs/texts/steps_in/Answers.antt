use Rattle.std.proofs.Common.{◌≡◌, List, ℕ, sym, ap, ◌∙◌, arith, Ok}
use Rattle.std.proofs.lemmas.Str.Pattern.{strip_prefix_char}
use Rattle.host_protocol_spec.specs.Pointers.{texts_from}
use Rattle.pointer_json.proofs.TextLaws.{no_steps}
use Rattle.pointer_json.proofs.texts.steps_in.Goals as goal

pub returns-in-None : goal.returns-in-None
returns-in-None c =
    let other = rw c.in-None.is at (strip_prefix_char 47 c.args.text.now c.strip_prefix.result c.strip_prefix.ensures.cases (omega arith)) in
    ap texts_from (no_steps c.args.text.now other) ∙ ap (λ (ts : List (List ℕ)). Ok ts) (sym (c.from_vec-in-None.ensures ∙ c.new.ensures.items))
