use Rattle.std.proofs.Common.{sym}
use Rattle.value_model.specs.declared.key.Key.TheVariants as key_of
use Rattle.shapes.proofs.Lookups.{found, absent, smaller}
use Rattle.shapes.proofs.names.find_name.Goals as goal

pub returns-in-Ok-clause-found : goal.returns-in-Ok-clause-found
returns-in-Ok-clause-found c =
    let place = c.in-Ok.ensures in
    sym (found (key_of.Text c.args.name.now) c.args.names.now c.in-Ok.i c.index-names-i.result place.past place.in_range (place.same c.index-names-i.result))

pub returns-in-Ok-clause-smaller : goal.returns-in-Ok-clause-smaller
returns-in-Ok-clause-smaller c = smaller c.args.names.now c.in-Ok.i c.index-names-i.result c.in-Ok.ensures.in_range

pub returns-in-Err-clause-found : goal.returns-in-Err-clause-found
returns-in-Err-clause-found c = sym (absent (key_of.Text c.args.name.now) c.args.names.now c.in-Err.field-0 c.in-Err.ensures c.requires)
