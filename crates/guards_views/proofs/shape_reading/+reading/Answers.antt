use Rattle.std.proofs.Common.{◌≡◌, ◌<◌, ℕ, zero, suc, Bool, false, length, vec_len, arith}
use Rattle.std.specs.Prelude.{◌==◌}
use Rattle.shapes.specs.declared.shape.Named.{Named}
use Rattle.guards_views.proofs.Ahead.{choices_step, choices_done, items_less, some_choices, names_step, keys_step, fields_less, names_done, keys_done}
use Rattle.guards_views.proofs.Lists.{alone_at, together_at, neither_at, names_ascend}
use Rattle.guards_views.proofs.shape_reading.+reading.Goals as goal

pub choices_in-loop-v-preserved : goal.choices_in-loop-v-preserved
choices_in-loop-v-preserved t c =
    let less = items_less c.args.items.now c.loop-v.v-index c.v-item.result c.loop-v-test.true in
    record {
      read = rw c.in_ok-push-in-Ok.ensures.items (choices_step c.args.items.now c.loop-v.v-index c.v-item.result c.loop-v.out.items c.in-Ok.shape _ c.loop-v-test.true c.v-item.is c.in-Ok.ensures c.loop-v.invariant.read);
      rest = omega (arith, less, c.loop-v.invariant.rest);
    }

pub choices_in-returns : goal.choices_in-returns
choices_in-returns t c = choices_done c.args.items.now c.loop-v.v-index c.loop-v.out.items _ c.loop-v-test.false c.loop-v.invariant.read

pub from_fields-returns-then-fields-eq1 : goal.from_fields-returns-then-fields-eq1
from_fields-returns-then-fields-eq1 t c =
    let n : length c.args.fields.now ≡ 1 = omega arith in
    rw (alone_at c.args.fields.now c.index-fields-0.result n, ← c.index-fields-0.is) c.alone.ensures

pub from_fields-returns-then-fields-eq2 : goal.from_fields-returns-then-fields-eq2
from_fields-returns-then-fields-eq2 t c =
    let n : length c.args.fields.now ≡ 2 = omega arith in
    rw (together_at c.args.fields.now c.index-fields-0-then-fields-eq2.result c.index-fields-1.result n, ← c.index-fields-0-then-fields-eq2.is, ← c.index-fields-1.is) c.together.ensures

pub from_fields-returns-else-fields-eq2 : goal.from_fields-returns-else-fields-eq2
from_fields-returns-else-fields-eq2 t c = neither_at c.args.fields.now c.if-fields-eq1.false c.if-fields-eq2.false

pub names_in-loop-f-preserved : goal.names_in-loop-f-preserved
names_in-loop-f-preserved t c =
    let less = fields_less c.args.fields.now c.loop-f.f-index c.f-item.result c.loop-f-test.true in
    let n : Named = record { name = c.in_ok-name-in-Ok.name; shape = c.in-Ok.shape } in
    record {
      read = rw c.in_ok-push-in-Ok.ensures.items (names_step c.args.fields.now c.loop-f.f-index c.f-item.result c.loop-f.out.items n _ c.loop-f-test.true c.f-item.is c.in_ok-name-in-Ok.ensures c.in-Ok.ensures c.loop-f.invariant.read);
      keys = rw c.in_ok-push-in-Ok.ensures.items (keys_step c.args.fields.now c.loop-f.f-index c.f-item.result c.loop-f.out.items n _ c.loop-f-test.true c.f-item.is c.in_ok-name-in-Ok.ensures c.loop-f.invariant.keys);
      rest = omega (arith, less, c.loop-f.invariant.rest);
    }

pub names_in-returns-clause-reads : goal.names_in-returns-clause-reads
names_in-returns-clause-reads t c = names_done c.args.fields.now c.loop-f.f-index c.loop-f.out.items _ c.loop-f-test.false c.loop-f.invariant.read

pub names_in-returns-clause-ascend : goal.names_in-returns-clause-ascend
names_in-returns-clause-ascend t c = names_ascend c.loop-f.out.items c.args.fields.now (keys_done c.args.fields.now c.loop-f.f-index c.loop-f.out.items _ c.loop-f-test.false c.loop-f.invariant.keys) c.requires

filled : (n : ℕ) (b : Bool) → b ≡ (n == 0) → b ≡ false → 0 < n
filled zero b h e = absurd (cc)
filled (suc n) b h e = omega arith

pub some_of-returns-else-is_empty : goal.some_of-returns-else-is_empty
some_of-returns-else-is_empty t c =
    let m = filled (vec_len c.in-Ok.choices) c.is_empty.result c.is_empty.ensures c.if-is_empty.false in
    let n : 0 < length c.in-Ok.choices.items = omega (arith, m, c.in-Ok.choices.ok.0) in
    some_choices c.in-Ok.choices.items _ c.in-Ok.ensures n
