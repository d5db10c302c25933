-- What a run's calls keep of the values that were answered: laws.
use Rattle.std.proofs.Common.{◌≡◌, ℕ, zero, suc, ◌<◌, List, [], ◌∷◌, ◌++◌, length, get_or, arith}
use Rattle.run_heap.specs.declared.value.Rv.{Rv}
use Rattle.run_heap.specs.declared.value.Rv.TheVariants.{Undefined, Prim, Obj, Frozen}
use Rattle.run_heap.specs.Heap.{Heap}
use Rattle.run_heap.specs.Sound.{Fits, Owned, AllOwned, Grows}

pub owned_at : (h : Heap) (vs : List Rv) (i : ℕ) (d : Rv) → AllOwned h vs → i < length vs → Owned h (get_or vs i d)
owned_at h [] i d a l = absurd (omega arith)
owned_at h (v ∷ vs) zero d a l = a.0
owned_at h (v ∷ vs) (suc i) d a l = owned_at h vs i d a.1 (omega arith)

pub fits_owned : (h : Heap) (v : Rv) → Fits h v → Owned h v
fits_owned h Undefined f = tt
fits_owned h (Prim k) f = tt
fits_owned h (Obj r) f = λ e. f.1
fits_owned h (Frozen id) f = f

pub owned_grows : (g h : Heap) (v : Rv) → Grows g h → Owned g v → Owned h v
owned_grows g h Undefined m o = tt
owned_grows g h (Prim k) m o = tt
owned_grows g h (Obj r) m o = λ e. let a : r.scope ≡ g.scope = grind (arith, e, m.scope) in let b = o a in let c = m.more in omega (arith, b, c)
owned_grows g h (Frozen id) m o = rw m.states o

pub all_grow : (g h : Heap) (vs : List Rv) → Grows g h → AllOwned g vs → AllOwned h vs
all_grow g h [] m o = tt
all_grow g h (v ∷ vs) m o = (owned_grows g h v m o.0, all_grow g h vs m o.1)

pub owned_more : (h : Heap) (vs : List Rv) (v : Rv) → AllOwned h vs → Owned h v → AllOwned h (vs ++ v ∷ [])
owned_more h [] v a o = (o, tt)
owned_more h (u ∷ vs) v a o = (a.0, owned_more h vs v a.1 o)
