use Rattle.std.proofs.Common.{[], ◌∷◌, map}
use Rattle.script_tree.specs.View.{view, short_of}
use Rattle.script_names.specs.Names.{read, uses_prop}
use Rattle.js_names.specs.Scopes.{env_of}
use Rattle.js_names.proofs.Reading.{judges_as, short_member, short_chain}
use Rattle.js_names.proofs.uses.short.Goals as goal

pub returns-in-Member : goal.returns-in-Member
returns-in-Member c =
    let env = env_of c.args.scopes.now in
    judges_as c.args.found.now.items c.nothing-in-Member.new.found.items (map (read env) (uses_prop (short_of (view c.args.e.now)))) (read env (0, []) ∷ []) c.nothing-in-Member.result (short_member env c.args.e.now c.in-Member.field-0 c.in-Member.field-1 c.in-Member.is) c.nothing-in-Member.ensures

pub returns-in-Chain : goal.returns-in-Chain
returns-in-Chain c =
    let env = env_of c.args.scopes.now in
    judges_as c.args.found.now.items c.nothing-in-Chain.new.found.items (map (read env) (uses_prop (short_of (view c.args.e.now)))) (read env (0, []) ∷ []) c.nothing-in-Chain.result (short_chain env c.in-Chain.field-0 c.args.e.now c.in-Chain.field-1 c.in-Chain.field-2 c.in-Chain.is) c.nothing-in-Chain.ensures
