-- New objects of a scope.
use Rattle.std.proofs.Common.{◌≡◌, zero, suc, ◌-◌, [], ◌∷◌}
use Rattle.std.specs.Prelude.{None, IsTrue, ⊤}
use Rattle.run_heap.specs.declared.value.Rv.{Rv}
use Rattle.run_heap.specs.declared.value.Rv.TheVariants.{Prim}
use Rattle.run_heap.specs.declared.content.Content.{Content}
use Rattle.run_heap.specs.Operations.{Rows}
use Rattle.run_heap.specs.Sound.{all_stand, ascends}
use Rattle.draft_core.specs.Seen.{heap}

abbrev pub IsPrimitive : Rv → Type 0
IsPrimitive (Prim k) = ⊤
IsPrimitive _ = ⊥

-- primitives alone, as any heap may hold them
abbrev pub AllPrimitive : Rows → Type 0
AllPrimitive [] = ⊤
AllPrimitive (e ∷ t) = IsPrimitive e.1 × AllPrimitive t

pub record IsLiteral (c : Content) : Type 0 where
  pub ascends : IsTrue (ascends c.kind c.table)
  pub stand : IsTrue (all_stand c.kind c.table)
  pub primitive : AllPrimitive c.table
  pub source : c.source ≡ None
