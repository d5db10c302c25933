-- References of other scopes, and the calls that refuse them.
use Rattle.std.proofs.Common.{◌≡◌, ◌≢◌, ◌↔◌, ◌⊎◌, List, [], ◌∷◌, Result, Err}
use Rattle.run_heap.specs.declared.value.Rv.{Rv}
use Rattle.run_heap.specs.declared.value.Rv.TheVariants.{Obj}
use Rattle.run_heap.specs.declared.fault.DraftFault.{DraftFault}
use Rattle.run_heap.specs.declared.fault.DraftFault.TheVariants.{Revoked}
use Rattle.run_heap.specs.Heap.{Heap}

-- a reference with another scope's number
abbrev pub IsForeign : Heap → Rv → Type 0
IsForeign h (Obj r) = r.scope ≢ h.scope
IsForeign h _ = ⊥

abbrev pub HasForeign : Heap → List Rv → Type 0
HasForeign h [] = ⊥
HasForeign h (v ∷ vs) = IsForeign h v ⊎ HasForeign h vs

-- the call with these operands is refused as revoked exactly where one of them is a reference of another scope
abbrev pub Revokes : {X : Type 0} → Heap → List Rv → Result X DraftFault → Type 0
Revokes h operands said = (said ≡ Err Revoked) ↔ HasForeign h operands
