use Rattle.std.proofs.Common.{◌≡◌, ◌∙◌, ◌+◌, List, ◌∷◌, [], length, refl, sym, subst, ap, ℕ}
use Rattle.run_heap.specs.declared.content.Content.{Content}
use Rattle.run_heap.proofs.Laws.{made_fits, objects_sound}
use Rattle.run_heap.specs.Sound.{IsSound}
use Rattle.draft_core.proofs.Changed.{stands_as}
use Rattle.draft_core.proofs.FreshLaws.{heap_made, next_made}
use Rattle.draft_core.specs.Seen.{heap}
use Rattle.draft_core.proofs.scope.Scope.add.Goals as goal

pub returns-clause-heap : goal.returns-clause-heap
returns-clause-heap c = λ ts. heap_made ts c.args.self.now _ (c.args.content ∷ []) (record { number = refl; root = refl; len = refl; drafts = refl }) refl c.push_reserved.ensures.items

pub returns-clause-value : goal.returns-clause-value
returns-clause-value c = λ ts.
    let s = c.args.self.now in
    let long : c.len.result ≡ length s.later.items = c.len.ensures ∙ s.later.ok.0 in
    next_made ts s _ (ap (λ (n : ℕ). s.drafts + n) long)

pub returns-clause-fits : goal.returns-clause-fits
returns-clause-fits c = λ ts. made_fits c.args.content (heap ts c.args.self.now) _ _ (returns-clause-heap c ts) (returns-clause-value c ts)

pub returns-clause-stands : goal.returns-clause-stands
returns-clause-stands c = λ ts st all.
    let cs : List Content = c.args.content ∷ [] in
    stands_as ts c.args.self.now _ st (record { number = refl; root = refl; len = refl; drafts = refl }) (subst IsSound (sym (returns-clause-heap c ts)) (objects_sound (heap ts c.args.self.now) cs st.sound all))
