use Rattle.std.proofs.Common.{◌≡◌, ◌∙◌, sym, ap, length, List, ℕ, Result, Err, true, false}
use Rattle.numbered.specs.Loading.{loaded, load_full}
use Rattle.numbered.specs.Tree.{Tree}
use Rattle.node_store.specs.declared.fault.StoreFault.{StoreFault}
use Rattle.host_engine.proofs.HostLaws.{first_fits, first_number}
use Rattle.host_engine.proofs.host.load_first.Goals as goal

pub unreachable-requires : goal.unreachable-requires
unreachable-requires c =
    let v = c.args.first.now in
    let full = c.in-Err-Full.ensures.only (ap (λ (e : StoreFault). let r : Result ℕ StoreFault = Err e in r) c.in-Err-Full.field-0-is) in
    let bad : true ≡ false = sym full ∙ ap (λ (ts : List Tree). load_full ts v) c.requires.empty ∙ first_fits v c.requires.flat c.requires.accepted in
    absurd (cc)

pub returns-in-Ok : goal.returns-in-Ok
returns-in-Ok c =
    let v = c.args.first.now in
    let new = c.in-Ok.ensures.ok.1 ∙ ap (λ (ts : List Tree). loaded ts v) c.requires.empty in
    (c.in-Ok.ensures.ok.0 ∙ ap length new ∙ first_number v c.requires.flat, new)
