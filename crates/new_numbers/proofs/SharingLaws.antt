-- What keeps its number is not numbered anew, and nothing in it is.
use Rattle.std.proofs.Common.{◌≡◌, ℕ, List, ap, sym, ◌∙◌, Bool, false, Option, Some}
use Rattle.value_model.specs.declared.kind.Kind.{Kind}
use Rattle.numbered.proofs.Laws.{number_at}
use Rattle.numbered.specs.Store.{tree_at}
use Rattle.numbered.specs.Tree.{Tree, number, containers}
use Rattle.run_heap.specs.declared.value.Rv.TheVariants.{Prim, Obj, Frozen}
use Rattle.run_heap.specs.Heap.{Heap}
use Rattle.run_heap.specs.Operations.{source_in}
use Rattle.run_heap.specs.Sound.{IsSound}
use Rattle.result_trees.specs.Final.{Final, Finals, prim, frozen, object, read_value}
use Rattle.result_trees.specs.Written.{is_written, kept, any_marked, CopiesStand}
use Rattle.result_trees.proofs.KeptLaws.{source_number}
use Rattle.result_trees.proofs.Readings.{Reads, reads}
use Rattle.result_trees.proofs.WrittenLaws.{written_by_names}
use Rattle.new_numbers.specs.Numbering.{Given, numbered, numbered_in, numbered_object}

kept_number : (h : Heap) (n id : ℕ) (w : Bool) → w ≡ false → source_in (h.object n) ≡ Some id → kept h n w ≡ Some id
kept_number h n id w a e = rw a e

pub unwritten_kept : (ts : List Tree) (h : Heap) (n id : ℕ) (of : Kind) (es : Finals) (g : Given) → source_in (h.object n) ≡ Some id → is_written h (object n of es) ≡ false → numbered ts h (object n of es) g ≡ (tree_at h.states id, g)
unwritten_kept ts h n id of es g e w = ap (λ (o : Option ℕ). numbered_object ts h n of (numbered_in ts h es) g o) (kept_number h n id (is_written h (object n of es)) w e)

read_kept : (ts : List Tree) (h : Heap) (n id : ℕ) (f : Final) (g : Given) → source_in (h.object n) ≡ Some id → Reads h f (Obj (record { scope = h.scope; slot = n })) → is_written h f ≡ false → numbered ts h f g ≡ (tree_at h.states id, g)
read_kept ts h n id (prim k) g e r w = let q : Obj (record { scope = h.scope; slot = n }) ≡ Prim k = r in absurd (cc)
read_kept ts h n id (frozen t) g e r w = let q : Obj (record { scope = h.scope; slot = n }) ≡ Frozen r.0 = r.1 in absurd (cc)
read_kept ts h n id (object m of es) g e r w =
    let q : n ≡ m = r.0 in
    unwritten_kept ts h m id of es g (ap (λ (i : ℕ). source_in (h.object i)) (sym q) ∙ e) w

pub unmarked_kept : (ts : List Tree) (h : Heap) (levels n id : ℕ) (f : Final) (g : Given) → IsSound h → CopiesStand h → source_in (h.object n) ≡ Some id → read_value levels h (Obj (record { scope = h.scope; slot = n })) ≡ Some f
    → any_marked h n (containers (tree_at h.states id)) ≡ false → numbered ts h f g ≡ (tree_at h.states id, g)
unmarked_kept ts h levels n id f g s copies e r m =
    read_kept ts h n id f g e (reads levels h (Obj (record { scope = h.scope; slot = n })) f r) (written_by_names h levels n id f s copies e r ∙ m)

pub source_is_number : (h : Heap) (n id : ℕ) → IsSound h → source_in (h.object n) ≡ Some id → number (tree_at h.states id) ≡ id
source_is_number h n id s e = number_at h.states id s.store (source_number h s n id e)
