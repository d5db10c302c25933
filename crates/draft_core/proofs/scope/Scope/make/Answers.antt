use Rattle.std.proofs.Common.{◌≡◌, ◌∙◌, ◌+◌, List, ◌∷◌, [], length, refl, sym, subst, ap, ℕ}
use Rattle.std.proofs.lemmas.Result.{err_from_is_err_and}
use Rattle.run_heap.specs.declared.content.Content.{Content}
use Rattle.run_heap.specs.Heap.{with_objects}
use Rattle.run_heap.proofs.Laws.{made_fits, objects_sound, grows_objects, grows_refl}
use Rattle.run_heap.specs.Sound.{IsSound, Grows}
use Rattle.draft_core.specs.declared.scope.Scope.{Scope}
use Rattle.draft_core.proofs.Changed.{heap_same, stands_as}
use Rattle.draft_core.proofs.FreshLaws.{heap_made, next_made, literal_contents}
use Rattle.draft_core.specs.Seen.{heap}
use Rattle.draft_core.proofs.scope.Scope.make.Goals as goal

pub returns-in_err-push-clause-done : goal.returns-in_err-push-clause-done
returns-in_err-push-clause-done c = λ ts st.
    let t : Scope = record c.args.self.now { later = c.push.new.self } in
    let p = err_from_is_err_and c.from_residual.result c.from_residual.ensures.1 in
    rw p.1 (heap_same ts c.args.self.now t (record { number = refl; root = refl; len = refl; drafts = refl }) refl c.in_err-push.ensures.items)

pub returns-in_err-push-clause-stands : goal.returns-in_err-push-clause-stands
returns-in_err-push-clause-stands c = λ ts st.
    let t : Scope = record c.args.self.now { later = c.push.new.self } in
    let same = heap_same ts c.args.self.now t (record { number = refl; root = refl; len = refl; drafts = refl }) refl c.in_err-push.ensures.items in
    stands_as ts c.args.self.now t st (record { number = refl; root = refl; len = refl; drafts = refl }) (subst IsSound (sym same) st.sound)

pub returns-in_err-push-clause-grows : goal.returns-in_err-push-clause-grows
returns-in_err-push-clause-grows c = λ ts st.
    let t : Scope = record c.args.self.now { later = c.push.new.self } in
    let same = heap_same ts c.args.self.now t (record { number = refl; root = refl; len = refl; drafts = refl }) refl c.in_err-push.ensures.items in
    subst (Grows (heap ts c.args.self.now)) (sym same) (grows_refl (heap ts c.args.self.now))

pub returns-clause-done : goal.returns-clause-done
returns-clause-done c = λ ts st.
    let s = c.args.self.now in
    let long : c.len.result ≡ length s.later.items = c.len.ensures ∙ s.later.ok.0 in (
      heap_made ts s _ (c.args.content ∷ []) (record { number = refl; root = refl; len = refl; drafts = refl }) refl c.in_ok-push.ensures.items,
      next_made ts s _ (ap (λ (n : ℕ). s.drafts + n) long),
    )

pub returns-clause-stands : goal.returns-clause-stands
returns-clause-stands c = λ ts st.
    let h = heap ts c.args.self.now in
    let cs : List Content = c.args.content ∷ [] in
    stands_as ts c.args.self.now _ st (record { number = refl; root = refl; len = refl; drafts = refl }) (subst IsSound (sym (returns-clause-done c ts st).0) (objects_sound h cs st.sound (literal_contents (with_objects cs h) c.args.content c.requires)))

pub returns-clause-grows : goal.returns-clause-grows
returns-clause-grows c = λ ts st.
    let h = heap ts c.args.self.now in
    subst (Grows h) (sym (returns-clause-done c ts st).0) (grows_objects h (c.args.content ∷ []) st.sound)

pub returns-clause-fits : goal.returns-clause-fits
returns-clause-fits c = λ ts st.
    let m = returns-clause-done c ts st in
    made_fits c.args.content (heap ts c.args.self.now) _ _ m.0 m.1
