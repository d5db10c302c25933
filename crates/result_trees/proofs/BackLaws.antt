-- What a value is read as, it is read as at every level that is deep enough.
use Rattle.std.proofs.Common.{◌≡◌, ℕ, zero, suc, ◌≤◌, max, [], ◌∷◌, refl, ap, sym, ◌∙◌, subst, arith, Option, Some, None}
use Rattle.std.specs.Prelude.{option_map}
use Rattle.value_model.specs.declared.kind.Kind.{Kind}
use Rattle.run_heap.specs.declared.value.ObjRef.{ObjRef}
use Rattle.run_heap.specs.declared.value.Rv.{Rv}
use Rattle.run_heap.specs.declared.value.Rv.TheVariants.{Undefined, Prim, Obj, Frozen}
use Rattle.run_heap.specs.declared.content.Content.{Content}
use Rattle.run_heap.specs.Heap.{Heap}
use Rattle.run_heap.specs.Operations.{Rows}
use Rattle.result_trees.specs.Final.{Final, Finals, prim, frozen, object, none, entry, with_entry, read_rows, read_object, read_value}
use Rattle.result_trees.proofs.Readings.{IfContent, Reads, ReadsRows}

abbrev mutual
  pub height : Final → ℕ
  height (prim k) = 0
  height (frozen t) = 0
  height (object n of es) = suc (tallest es)

  pub tallest : Finals → ℕ
  tallest none = 0
  tallest (entry k v es) = max (height v) (tallest es)

object_back : (h : Heap) (r : ObjRef) (g : Rv → Option Final) (n : ℕ) (of : Kind) (es : Finals) (o : Option Content) → r.slot ≡ n → IfContent o (λ c. (c.kind ≡ of) × ReadsRows h es c.table)
    → ((t : Rows) → ReadsRows h es t → read_rows g t ≡ Some es) → read_object r.slot g o ≡ Some (object n of es)
object_back h r g n of es None q a law = absurd a
object_back h r g n of es (Some c) q a law = ap (λ (x : Option Finals). option_map (object r.slot c.kind) x) (law c.table a.1) ∙ (let kinds : c.kind ≡ of = a.0 in λ i. Some (object (q i) (kinds i) es))

mutual
  pub read_back : (f : Final) (h : Heap) (v : Rv) (levels : ℕ) → Reads h f v → height f ≤ levels → read_value levels h v ≡ Some f
  read_back (prim k) h v l r le = subst (λ (w : Rv). read_value l h w ≡ Some (prim k)) (sym r) refl
  read_back (frozen t) h v l r le = subst (λ (w : Rv). read_value l h w ≡ Some (frozen t)) (sym r.1) (ap (λ x. Some (frozen x)) r.2)
  read_back (object n of es) h Undefined l r le = absurd r.0
  read_back (object n of es) h (Prim k) l r le = absurd r.0
  read_back (object n of es) h (Frozen id) l r le = absurd r.0
  read_back (object n of es) h (Obj r) zero a le = absurd (omega (arith, le))
  read_back (object n of es) h (Obj r) (suc l) a le =
      object_back h r (read_value l h) n of es (h.object r.slot) a.0 (subst (λ (i : ℕ). IfContent (h.object i) (λ c. (c.kind ≡ of) × ReadsRows h es c.table)) (sym a.0) a.1)
      (λ t b. rows_back es h t l b (omega (arith, le)))

  pub rows_back : (es : Finals) (h : Heap) (t : Rows) (levels : ℕ) → ReadsRows h es t → tallest es ≤ levels → read_rows (read_value levels h) t ≡ Some es
  rows_back none h [] l r le = refl
  rows_back none h (e ∷ t) l r le = absurd r
  rows_back (entry k f fs) h [] l r le = absurd r
  rows_back (entry k f fs) h (e ∷ t) l r le =
      let first = read_back f h e.1 l r.1 (omega (arith, le)) in
      let rest = rows_back fs h t l r.2 (omega (arith, le)) in
      let keys = r.0 in
      λ i. with_entry (keys i) (first i) (rest i)
