use Rattle.std.proofs.Common.{refl, sym, subst}
use Rattle.run_heap.specs.Sound.{IsSound}
use Rattle.draft_core.proofs.Changed.{heap_same, stands_as}
use Rattle.draft_core.proofs.scope.Scope.reserve.Goals as goal

pub returns-clause-heap : goal.returns-clause-heap
returns-clause-heap c = λ ts. heap_same ts c.args.self.now _ (record { number = refl; root = refl; len = refl; drafts = refl }) refl c.reserve.ensures.items

pub returns-clause-stands : goal.returns-clause-stands
returns-clause-stands c = λ ts st. stands_as ts c.args.self.now _ st (record { number = refl; root = refl; len = refl; drafts = refl }) (subst IsSound (sym (returns-clause-heap c ts)) st.sound)
