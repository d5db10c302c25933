-- A patch at a container below which its path goes on.
use Rattle.std.specs.Prelude.{List, [], Option, Result}
use Rattle.std.proofs.Common.{zero, suc}
use Rattle.patch_meaning.specs.Applying.{unless, is_reserved_step, as_child, into_child, patched}
use Rattle.value_model.specs.declared.key.Key.{Key}
use Rattle.value_model.specs.declared.kind.Kind.{Kind}
use Rattle.value_model.specs.declared.op.Op.{Op}
use Rattle.value_model.specs.declared.patch_why.PatchWhy.{PatchWhy}
use Rattle.value_model.specs.declared.patch_why.PatchWhy.TheVariants as why
use Rattle.value_model.specs.Places.{child_at}
use Rattle.value_model.specs.Plain.{Plain, Table}

-- what the patch makes of the container, whose next step is k
abbrev pub below : Kind → Op → Option Plain → Key → List Key → Table → Result Plain PatchWhy
below kind op v k rest es = unless (is_reserved_step kind k) why.ReservedKey (as_child kind k es (into_child (patched op v rest) (child_at kind k es)))
