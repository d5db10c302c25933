use Rattle.std.proofs.Common.{◌≡◌, ◌≢◌, ◌∙◌, List, subst, ◌⊎◌, inl, inr}
use Rattle.std.specs.Prelude.{IfOk}
use Rattle.std.specs.List.{zip}
use Rattle.value_model.specs.declared.key.Key.{Key}
use Rattle.value_model.specs.declared.kind.Kind.{Kind}
use Rattle.value_model.specs.declared.kind.Kind.TheVariants as kind
use Rattle.page_tables.specs.declared.cell.Cell.{Cell}
use Rattle.node_store.proofs.Added.{zip_rows}
use Rattle.node_store.proofs.entries.rows_of.Goals as goal

no_list : (of : Kind) → (of ≡ kind.Obj) ⊎ (of ≡ kind.Map) ⊎ (of ≡ kind.Set) → of ≢ kind.List
no_list kind.Obj h = λ e. absurd (cc)
no_list kind.Map h = λ e. absurd (cc)
no_list kind.Set h = λ e. absurd (cc)
no_list kind.List (inl e) = absurd (cc)
no_list kind.List (inr (inl e)) = absurd (cc)
no_list kind.List (inr (inr e)) = absurd (cc)

pub returns-in-Obj : goal.returns-in-Obj
returns-in-Obj c =
    let n = c.args.node in
    let same = (λ i. zip (c.into_vec-in-Obj.ensures i) (c.into_vec-in-Obj-2.ensures i)) ∙ zip_rows n.kind n.keys n.cells n.fits (no_list n.kind c.in-Obj.is) in
    subst (λ (rs : List (Key × Cell)). IfOk c.keyed_rows.result (λ v. v.items ≡ rs)) same c.keyed_rows.ensures
