use Rattle.std.proofs.Common.{sym, ap, ℕ}
use Rattle.run_heap.specs.declared.value.Rv.TheVariants.{Obj}
use Rattle.draft_core.proofs.Kept.{scope_is, root_inside}
use Rattle.draft_core.proofs.scope.Scope.root.Goals as goal

pub returns-clause-value : goal.returns-clause-value
returns-clause-value c = λ ts st. ap (λ (n : ℕ). Obj (record { scope = n; slot = 0 })) (sym (scope_is ts c.args.self.now))

pub returns-clause-fits : goal.returns-clause-fits
returns-clause-fits c = λ ts st. (sym (scope_is ts c.args.self.now), root_inside ts c.args.self.now st)
