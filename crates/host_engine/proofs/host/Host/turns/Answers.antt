use Rattle.node_store.specs.Paged.{states}
use Rattle.host_engine.proofs.HostLaws.{kept_sound}
use Rattle.host_engine.proofs.host.Host.turns.Goals as goal

pub returns-clause-sound : goal.returns-clause-sound
returns-clause-sound c =
    let h = c.self.inside in
    rw (← c.self.view_is) (kept_sound (states h.store) h.root h.mint h.past h.seq h.turns c.self.invariant c.len-in_order.ensures.store)
