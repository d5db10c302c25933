use Rattle.node_store.specs.Paged.{states}
use Rattle.std.proofs.Common.{sym, ◌∙◌}
use Rattle.numbered.specs.Laws.{well_at}
use Rattle.numbered.specs.Store.{tree_at}
use Rattle.host_engine.proofs.PlaceLaws.{list_entry, object_entry, map_entry, set_entry}
use Rattle.host_engine.proofs.places.entry_at.Goals as goal

pub returns-in-List : goal.returns-in-List
returns-in-List c = list_entry (tree_at (states c.args.store.now) c.args.id) c.args.step.now c.count.result c.index_in.result (sym c.kind.ensures ∙ c.in-List.is) c.count.ensures c.index_in.ensures

pub returns-in-Set : goal.returns-in-Set
returns-in-Set c = set_entry (tree_at (states c.args.store.now) c.args.id) c.args.step.now (sym c.kind.ensures ∙ c.in-Set.is)

pub returns-in-Obj : goal.returns-in-Obj
returns-in-Obj c = object_entry (tree_at (states c.args.store.now) c.args.id) c.args.step.now c.find.result (sym c.kind.ensures ∙ c.in-Obj.is) (well_at (states c.args.store.now) c.args.id c.requires.store c.requires.number) c.find.ensures

pub returns-in-Map : goal.returns-in-Map
returns-in-Map c = map_entry (tree_at (states c.args.store.now) c.args.id) c.args.step.now c.find-in-Map.result (sym c.kind.ensures ∙ c.in-Map.is) (well_at (states c.args.store.now) c.args.id c.requires.store c.requires.number) c.find-in-Map.ensures
