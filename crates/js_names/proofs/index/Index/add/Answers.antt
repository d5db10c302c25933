use Rattle.std.proofs.Common.{Some, cond, ap, ◌∙◌}
use Rattle.std.specs.Str.{bytes_eq}
use Rattle.js_names.specs.Index.{number_in}
use Rattle.js_names.proofs.Keys.{updated}
use Rattle.js_names.proofs.index.Index.add.Goals as goal

pub returns : goal.returns
returns c = λ x.
    updated c.in_ok-from_slice.field-0.items c.args.self.now.numbers c.insert.new.self (Some c.args.number) c.in_ok-insert.ensures.updates x ∙ ap (λ n. cond (bytes_eq n x) (Some c.args.number) (number_in c.args.self.now x)) c.in_ok-from_slice.ensures.items
