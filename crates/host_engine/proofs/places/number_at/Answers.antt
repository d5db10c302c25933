use Rattle.node_store.specs.Paged.{states}
use Rattle.std.proofs.Common.{◌∙◌, sym, ap, ℕ, length, Option, Some}
use Rattle.host_engine.proofs.PlaceLaws.{root_number}
use Rattle.host_engine.proofs.places.number_at.Goals as goal

pub returns-in-None : goal.returns-in-None
returns-in-None c =
    ap (λ (n : ℕ). let o : Option (Option ℕ) = Some (Some n) in o) c.get.ensures.value
    ∙ root_number (states c.args.store.now) c.args.root c.args.path.now c.len-in_order.ensures.store c.requires (ap length (sym c.as_slice.ensures) ∙ c.in-None.ensures.cases)
