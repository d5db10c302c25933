use Rattle.std.proofs.Common.{◌≡◌, drop}
use Rattle.js_names.specs.Scopes.{env_of}
use Rattle.js_names.specs.Judging.{so_far, all_reads, all_props, all_accesses, all_links}
use Rattle.js_names.proofs.uses.+uses.Given as goal

abbrev pub invariant-exprs-loop-e : goal.invariant-exprs-loop-e
invariant-exprs-loop-e l = so_far l.found.items (all_reads (env_of l.scopes) (drop l.e-index l.items)) ≡ so_far l.initial.found.items (all_reads (env_of l.scopes) l.items)

abbrev pub invariant-props-loop-p : goal.invariant-props-loop-p
invariant-props-loop-p l = so_far l.found.items (all_props (env_of l.scopes) (drop l.p-index l.items)) ≡ so_far l.initial.found.items (all_props (env_of l.scopes) l.items)

abbrev pub invariant-members-loop-a : goal.invariant-members-loop-a
invariant-members-loop-a l = so_far l.found.items (all_accesses (env_of l.scopes) (drop l.a-index l.accesses)) ≡ so_far l.initial.found.items (all_accesses (env_of l.scopes) l.accesses)

abbrev pub invariant-operands-loop-link : goal.invariant-operands-loop-link
invariant-operands-loop-link l = so_far l.found.items (all_links (env_of l.scopes) (drop l.link-index l.links)) ≡ so_far l.initial.found.items (all_links (env_of l.scopes) l.links)
