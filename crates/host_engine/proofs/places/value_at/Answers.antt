use Rattle.node_store.specs.Paged.{states}
use Rattle.std.proofs.Common.{◌≡◌, ◌∙◌, sym, ap, subst, List, Option}
use Rattle.std.specs.Prelude.{IfOk, option_map}
use Rattle.value_model.specs.declared.key.Key.{Key}
use Rattle.value_model.specs.Plain.{Plain}
use Rattle.numbered.specs.Store.{tree_at}
use Rattle.numbered.specs.Tree.{plain}
use Rattle.host_machine.specs.Paths.{subtree_at}
use Rattle.host_machine.proofs.PathLaws.{at_plain}
use Rattle.host_engine.proofs.places.value_at.Goals as goal

pub returns-in-Some : goal.returns-in-Some
returns-in-Some c =
    let t = tree_at (states c.args.store.now) c.args.root in
    let path = sym (sym c.as_slice.ensures ∙ c.in-Some.ensures.cases.0) in
    let same = ap (λ (ks : List Key). option_map plain (subtree_at ks t)) path ∙ sym (at_plain c.args.path.now t) in
    subst (λ (o : Option Plain). IfOk c.value_below.result (λ v. v ≡ o)) same c.value_below.ensures
