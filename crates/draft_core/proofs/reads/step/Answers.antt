use Rattle.node_store.specs.Paged.{states}
use Rattle.std.proofs.Common.{◌≡◌, ◌∙◌, ◌<◌, ◌≤◌, ◌^◌, arith, sym, ap, subst, refl}
use Rattle.std.specs.Prelude.{pos}
use Rattle.std.proofs.lemmas.Int.{ints, to_z_pos}
use mir.Syntax.{w64}
use Rattle.value_model.specs.declared.key.Key.TheVariants.{Int}
use Rattle.value_model.specs.declared.kind.Kind.{Kind}
use Rattle.value_model.specs.Safe.{IsSafe}
use Rattle.run_heap.specs.Places.{step}
use Rattle.draft_core.proofs.Paths.{few_entries, safe_index}
use Rattle.draft_core.proofs.reads.step.Goals as goal

pub overflow_cast-i : goal.overflow_cast-i
overflow_cast-i c =
    let few = few_entries (states c.args.store.now) c.args.id c.requires.store c.requires.number in
    let here = c.requires.in_range in
    omega (arith, ints, few, here)

pub unreachable-requires : goal.unreachable-requires
unreachable-requires c =
    let few = few_entries (states c.args.store.now) c.args.id c.requires.store c.requires.number in
    let here = c.requires.in_range in
    let small : c.args.i < 2 ^ 63 = omega (arith, few, here) in
    let low : c.args.i ≤ 2 ^ 20 = omega (arith, few, here) in
    c.in-None.ensures.none.0 refl (subst IsSafe (sym (to_z_pos w64 c.args.i small)) (safe_index c.args.i low))

pub returns-in-Some : goal.returns-in-Some
returns-in-Some c = λ j there.
    let few = few_entries (states c.args.store.now) c.args.id c.requires.store c.requires.number in
    let here = c.requires.in_range in
    let small : c.args.i < 2 ^ 63 = omega (arith, few, here) in
    let is : c.in-Some.index ≡ pos c.args.i = c.in-Some.ensures.some ∙ to_z_pos w64 c.args.i small in
    ap Int is ∙ ap (λ (k : Kind). step k c.args.i j) c.in-List.ensures
