use Rattle.std.proofs.Common.{◌≡◌, Result, Ok, Err, IsTrue, map}
use Rattle.std.specs.Prelude.{OnOk}
use Rattle.std.specs.FinMap.Entries.{is_sorted, put}
use Rattle.value_model.specs.Order.{key_cmp}
use Rattle.derived_views.specs.Seen.{of_weight}
use Rattle.derived_views.proofs.Scratch.{put_sorted, without_sorted}
use Rattle.derived_views.proofs.measure.Measure.change.Goals as goal

on_ok : {A E : Type 0} (r : Result A E) (P Q : Type 0) → (P → Q) → OnOk r P → OnOk r Q
on_ok (Ok x) P Q f h = f h
on_ok (Err e) P Q f h = tt

pub returns-in_ok-copy-in-Some-clause-sorted : goal.returns-in_ok-copy-in-Some-clause-sorted
returns-in_ok-copy-in-Some-clause-sorted g c =
    on_ok c.put_weight.result (map of_weight c.put_weight.new.entries.items ≡ put key_cmp c.in_ok-copy-in-Some.field-0 c.of_value-weight.result (map of_weight c.args.entries.now.items)) (IsTrue (is_sorted key_cmp (map of_weight c.put_weight.new.entries.items)))
    (λ e. rw e (put_sorted c.in_ok-copy-in-Some.field-0 c.of_value-weight.result (map of_weight c.args.entries.now.items) c.requires.sorted))
    c.put_weight.ensures

pub returns-in-None-clause-sorted : goal.returns-in-None-clause-sorted
returns-in-None-clause-sorted g c = rw c.remove_weight.ensures (without_sorted c.args.key.now (map of_weight c.args.entries.now.items) c.requires.sorted)
