use Rattle.node_store.specs.Paged.{states}
use Rattle.host_engine.proofs.HostLaws.{opened_kept, opened_machine}
use Rattle.host_engine.proofs.host.Host.open.Goals as goal

pub invariant_of-result : goal.invariant_of-result
invariant_of-result c = rw c.new-2.ensures (opened_kept c.args.first.now (states c.load_first.new.store) c.in_ok-root.root c.requires.flat c.in_ok-root.ensures.0 c.in_ok-root.ensures.1)

pub returns-clause-machine : goal.returns-clause-machine
returns-clause-machine c = opened_machine c.args.first.now (states c.load_first.new.store) c.in_ok-root.root c.requires.flat c.in_ok-root.ensures.0 c.in_ok-root.ensures.1
