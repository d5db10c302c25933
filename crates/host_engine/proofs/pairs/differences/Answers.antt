use Rattle.std.proofs.Common.{◌∙◌}
use Rattle.std.proofs.lemmas.List.{take_rest}
use Rattle.host_engine.proofs.PairLaws.{merged_end}
use Rattle.host_engine.proofs.pairs.differences.Goals as goal

pub returns : goal.returns
returns c =
    let old = c.args.old.now in
    let new = c.args.new.now in
    let merged = c.in_ok-merged.merged in
    let removed = rw (take_rest old merged.old_at) at c.in_ok-push_removed.ensures in
    let added = rw (take_rest new merged.new_at) at c.in_ok-push_added.ensures in
    merged_end old new merged.old_at merged.new_at merged.list.items c.push_removed.new.list.items c.from_vec.result _ c.in_ok-merged.ensures.at_end c.in_ok-merged.ensures.patches removed (c.from_vec.ensures ∙ added)
