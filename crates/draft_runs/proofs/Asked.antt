-- What the conditions of calls ask, and what shows it: laws.
use Rattle.std.proofs.Common.{◌≡◌, ℕ, List, [], ◌∷◌, ◌++◌, refl, sym, arith, true}
use Rattle.std.specs.Prelude.{◌≢◌, ◌==◌, not, Option, Some, None, IfSome}
use Rattle.value_model.specs.declared.kind.Kind.{Kind}
use Rattle.run_heap.specs.declared.value.Rv.{Rv}
use Rattle.run_heap.specs.declared.value.Rv.TheVariants.{Undefined, Prim, Obj, Frozen}
use Rattle.run_heap.specs.Heap.{Heap}
use Rattle.run_heap.specs.Operations.{owns, kind_of}
use Rattle.run_heap.specs.Sound.{Owned, IsStored, AllStored, IsContainer}

is_ours : (a b : ℕ) → not (not (a == b)) ≡ true → a ≡ b
is_ours a b e = grind (arith, e)

pub container_is : (h : Heap) (v : Rv) (k : Kind) → owns h v ≡ true → Owned h v → kind_of h v ≡ Some k → IsContainer h v
container_is h Undefined k e o s = absurd (cc)
container_is h (Prim j) k e o s = absurd (cc)
container_is h (Obj r) k e o s = let a = is_ours r.scope h.scope e in (a, o a)
container_is h (Frozen id) k e o s = o

pub container_some : (h : Heap) (v : Rv) (o : Option Kind) → owns h v ≡ true → Owned h v → o ≡ kind_of h v → IfSome o (λ k. IsContainer h v)
container_some h v None e w s = tt
container_some h v (Some k) e w s = container_is h v k e w (sym s)

pub stored_is : (h : Heap) (v : Rv) → v ≢ Undefined → owns h v ≡ true → Owned h v → IsStored h v
stored_is h Undefined n e o = absurd (n refl)
stored_is h (Prim j) n e o = tt
stored_is h (Obj r) n e o = let a = is_ours r.scope h.scope e in (a, o a)
stored_is h (Frozen id) n e o = o

pub stored_more : (h : Heap) (vs : List Rv) (v : Rv) → AllStored h vs → IsStored h v → AllStored h (vs ++ v ∷ [])
stored_more h [] v a o = (o, tt)
stored_more h (u ∷ vs) v a o = (a.0, stored_more h vs v a.1 o)
