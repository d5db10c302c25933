-- Two objects never share a new number, and none is that of a state that was there.
use Rattle.std.proofs.Common.{◌≡◌, ℕ, ◌+◌, ◌<◌, ◌≤◌, List, [], ◌∷◌, ◌++◌, length, refl, ap, sym, ◌∙◌, arith, cond, Option, Some, None, Less, Equal, Greater, Ordering}
use Rattle.std.specs.Prelude.{⊤}
use Rattle.std.specs.FinMap.Entries.{find}
use Rattle.std.specs.Ordering.{nat_cmp, is_eq}
use Rattle.std.proofs.lemmas.Map.Lookups.{exact_unsigned}
use Rattle.value_model.specs.declared.kind.Kind.{Kind}
use Rattle.numbered.specs.Tree.{Tree, Branches, number}
use Rattle.run_heap.specs.Heap.{Heap}
use Rattle.result_trees.specs.Final.{Final, Finals, prim, frozen, object, none, entry}
use Rattle.result_trees.specs.Written.{is_written, kept}
use Rattle.new_numbers.specs.Numbering.{Given, nothing, add, renumbered, numbered_object, numbered, numbered_in}

-- the states of objects, the last first, have the numbers behind the first so many, one after another
abbrev InTurn : ℕ → List (ℕ × Tree) → Type 0
InTurn first [] = ⊤
InTurn first (d ∷ ds) = (number d.1 ≡ first + length ds + 1) × InTurn first ds

record AreInTurn (ts : List Tree) (g : Given) : Type 0 where
  turn : InTurn (length ts) g.done
  count : length g.news ≡ length g.done

length_push : (us : List Tree) (t : Tree) → length (us ++ t ∷ []) ≡ length us + 1
length_push [] t = omega arith
length_push (u ∷ us) t = omega (arith, length_push us t)

module _ (ts : List Tree) (h : Heap) where
  added : (n : ℕ) (of : Kind) (a : Branches × Given) → AreInTurn ts a.1 → AreInTurn ts (add ts n of a).1
  added n of a i =
      let c = i.count in
      let t = (add ts n of a).0 in
      let longer = length_push a.1.news t in
      record { turn = (ap (λ (m : ℕ). length ts + m + 1) c, i.turn); count = omega (arith, longer, c) }

  object_turn : (n : ℕ) (of : Kind) (es : Finals) (g : Given) (o : Option ℕ) → AreInTurn ts g → AreInTurn ts (numbered_in ts h es g).1 → AreInTurn ts (numbered_object ts h n of (numbered_in ts h es) g o).1
  object_turn n of es g (Some id) i inside = i
  object_turn n of es g None i inside = by (find nat_cmp n g.done)
    where
      by : (o : Option Tree) → AreInTurn ts (renumbered ts n of (numbered_in ts h es) g o).1
      by (Some t) = i
      by None = added n of (numbered_in ts h es g) inside

  mutual
    in_turn : (f : Final) (g : Given) → AreInTurn ts g → AreInTurn ts (numbered ts h f g).1
    in_turn (prim k) g i = i
    in_turn (frozen t) g i = i
    in_turn (object n of es) g i = object_turn n of es g (kept h n (is_written h (object n of es))) i (all_in_turn es g i)

    all_in_turn : (fs : Finals) (g : Given) → AreInTurn ts g → AreInTurn ts (numbered_in ts h fs g).1
    all_in_turn none g i = i
    all_in_turn (entry k f fs) g i = all_in_turn fs (numbered ts h f g).1 (in_turn f g i)

-- ---- what is found has a number of these
record Between (first last id : ℕ) : Type 0 where
  low : first < id
  high : id ≤ last

found_first : (first n m : ℕ) (t u : Tree) (o : Option Tree) (ds : List (ℕ × Tree)) (c : Ordering) → nat_cmp n m ≡ c → number u ≡ first + length ds + 1 → (o ≡ Some t → Between first (first + length ds) (number t)) → cond (is_eq c) (Some u) o ≡ Some t → Between first (first + length ds + 1) (number t)
found_first first n m t u o ds Less p a rest e = let b = rest e in let l = b.low in let k = b.high in record { low = l; high = omega (arith, k) }
found_first first n m t u o ds Greater p a rest e = let b = rest e in let l = b.low in let k = b.high in record { low = l; high = omega (arith, k) }
found_first first n m t u o ds Equal p a rest e =
    let q : u ≡ t = cc in
    let at : number t ≡ first + length ds + 1 = ap number (sym q) ∙ a in
    record { low = omega (arith, at); high = omega (arith, at) }

found_between : (first n : ℕ) (t : Tree) (ds : List (ℕ × Tree)) → InTurn first ds → find nat_cmp n ds ≡ Some t → Between first (first + length ds) (number t)
found_between first n t [] i e = absurd (cc)
found_between first n t (d ∷ ds) i e =
    let b = found_first first n d.0 t d.1 (find nat_cmp n ds) ds (nat_cmp n d.0) refl i.0 (λ q. found_between first n t ds i.1 q) e in
    let l = b.low in
    let k = b.high in
    record { low = l; high = omega (arith, k) }

-- one of the two is the last, or neither is
same_name : (first m n : ℕ) (t u : Tree) (ds : List (ℕ × Tree)) → InTurn first ds → find nat_cmp m ds ≡ Some t → find nat_cmp n ds ≡ Some u → number t ≡ number u → m ≡ n
same_name first m n t u [] i p q e = absurd (cc)
same_name first m n t u (d ∷ ds) i p q e = by (nat_cmp m d.0) (nat_cmp n d.0) refl refl p q (λ x y. same_name first m n t u ds i.1 x y e)
  where
    rest : (v : Tree) (k : ℕ) → find nat_cmp k ds ≡ Some v → number v ≡ first + length ds + 1 → ⊥
    rest v k a b = let x = found_between first k v ds i.1 a in let high = x.high in absurd (omega (arith, high, b))

    one : (v w : Tree) (k : ℕ) → Some d.1 ≡ Some v → find nat_cmp k ds ≡ Some w → number v ≡ number w → ⊥
    one v w k a b same = let s : d.1 ≡ v = cc in rest w k b (sym same ∙ ap number (sym s) ∙ i.0)

    by : (a b : Ordering) → nat_cmp m d.0 ≡ a → nat_cmp n d.0 ≡ b → cond (is_eq a) (Some d.1) (find nat_cmp m ds) ≡ Some t → cond (is_eq b) (Some d.1) (find nat_cmp n ds) ≡ Some u → (find nat_cmp m ds ≡ Some t → find nat_cmp n ds ≡ Some u → m ≡ n) → m ≡ n
    by Equal Equal x y p q law = exact_unsigned m d.0 x ∙ sym (exact_unsigned n d.0 y)
    by Equal Less x y p q law = absurd (one t u n p q e)
    by Equal Greater x y p q law = absurd (one t u n p q e)
    by Less Equal x y p q law = absurd (one u t m q p (sym e))
    by Greater Equal x y p q law = absurd (one u t m q p (sym e))
    by Less Less x y p q law = law p q
    by Less Greater x y p q law = law p q
    by Greater Less x y p q law = law p q
    by Greater Greater x y p q law = law p q

turns : (ts : List Tree) (h : Heap) (f : Final) → AreInTurn ts (numbered ts h f nothing).1
turns ts h f = in_turn ts h f nothing (record { turn = tt; count = refl })

pub own_number : (ts : List Tree) (h : Heap) (f : Final) (m n : ℕ) (t u : Tree) → find nat_cmp m (numbered ts h f nothing).1.done ≡ Some t → find nat_cmp n (numbered ts h f nothing).1.done ≡ Some u → number t ≡ number u → m ≡ n
own_number ts h f m n t u p q e = same_name (length ts) m n t u (numbered ts h f nothing).1.done (turns ts h f).turn p q e

pub new_number : (ts : List Tree) (h : Heap) (f : Final) (n : ℕ) (t : Tree) → find nat_cmp n (numbered ts h f nothing).1.done ≡ Some t → length ts < number t
new_number ts h f n t p = (found_between (length ts) n t (numbered ts h f nothing).1.done (turns ts h f).turn p).low
