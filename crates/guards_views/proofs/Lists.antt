-- Lists of one, two or three elements, and objects of one or two members.
use Rattle.std.proofs.Common.{◌≡◌, ◌≢◌, ℕ, List, [], ◌∷◌, length, map, Option, Some, None, IsTrue, ◌&&◌, refl, ap, arith, get_or, ◌∙◌}
use Rattle.std.specs.Ordering.{is_lt}
use Rattle.std.specs.FinMap.Entries.{is_sorted, below_all}
use Rattle.value_model.specs.declared.key.Key.{Key}
use Rattle.value_model.specs.declared.key.Key.TheVariants as key
use Rattle.value_model.specs.declared.kind.Kind.TheVariants as kind
use Rattle.value_model.specs.Order.{key_cmp}
use Rattle.values.specs.declared.val.Field.{Field}
use Rattle.values.specs.Seen.{of_field, of_fields}
use Rattle.guards_views_spec.specs.Reading.{single, pair, triple, shape_in, shape_of, names_of, choices_of, alone, together}
use Rattle.shapes.specs.Seen.{placed, NamesAscend}
use Rattle.shapes.specs.declared.shape.Named.{Named}

module _ {X Y : Type 0} (f : X → Y) where
  pub single_at : (xs : List X) (d : X) → length xs ≡ 1 → single (map f xs) ≡ Some (f (get_or xs 0 d))
  single_at [] d h = absurd (omega arith)
  single_at (x ∷ []) d h = refl
  single_at (x ∷ y ∷ xs) d h = absurd (omega arith)

  pub not_single : (xs : List X) → length xs ≢ 1 → single (map f xs) ≡ None
  not_single [] h = refl
  not_single (x ∷ []) h = absurd (h refl)
  not_single (x ∷ y ∷ xs) h = refl

  pub pair_at : (xs : List X) (d e : X) → length xs ≡ 2 → pair (map f xs) ≡ Some (f (get_or xs 0 d), f (get_or xs 1 e))
  pair_at [] d e h = absurd (omega arith)
  pair_at (x ∷ []) d e h = absurd (omega arith)
  pair_at (x ∷ y ∷ []) d e h = refl
  pair_at (x ∷ y ∷ z ∷ xs) d e h = absurd (omega arith)

  pub not_pair : (xs : List X) → length xs ≢ 2 → pair (map f xs) ≡ None
  not_pair [] h = refl
  not_pair (x ∷ []) h = refl
  not_pair (x ∷ y ∷ []) h = absurd (h refl)
  not_pair (x ∷ y ∷ z ∷ xs) h = refl

  pub triple_at : (xs : List X) (d e g : X) → length xs ≡ 3 → triple (map f xs) ≡ Some (f (get_or xs 0 d), f (get_or xs 1 e), f (get_or xs 2 g))
  triple_at [] d e g h = absurd (omega arith)
  triple_at (x ∷ []) d e g h = absurd (omega arith)
  triple_at (x ∷ y ∷ []) d e g h = absurd (omega arith)
  triple_at (x ∷ y ∷ z ∷ []) d e g h = refl
  triple_at (x ∷ y ∷ z ∷ w ∷ xs) d e g h = absurd (omega arith)

  pub not_triple : (xs : List X) → length xs ≢ 3 → triple (map f xs) ≡ None
  not_triple [] h = refl
  not_triple (x ∷ []) h = refl
  not_triple (x ∷ y ∷ []) h = refl
  not_triple (x ∷ y ∷ z ∷ []) h = absurd (h refl)
  not_triple (x ∷ y ∷ z ∷ w ∷ xs) h = refl

pub alone_at : (fs : List Field) (d : Field) → length fs ≡ 1 → shape_in kind.Obj (of_fields fs) ≡ alone (key.Text (get_or fs 0 d).key) (get_or fs 0 d).value (shape_of (get_or fs 0 d).value) (names_of (get_or fs 0 d).value) (choices_of (get_or fs 0 d).value)
alone_at [] d h = absurd (omega arith)
alone_at (f ∷ []) d h = refl
alone_at (f ∷ g ∷ fs) d h = absurd (omega arith)

pub together_at : (fs : List Field) (d e : Field) → length fs ≡ 2 → shape_in kind.Obj (of_fields fs) ≡ together (key.Text (get_or fs 0 d).key) (names_of (get_or fs 0 d).value) (key.Text (get_or fs 1 e).key) (names_of (get_or fs 1 e).value)
together_at [] d e h = absurd (omega arith)
together_at (f ∷ []) d e h = absurd (omega arith)
together_at (f ∷ g ∷ []) d e h = refl
together_at (f ∷ g ∷ i ∷ fs) d e h = absurd (omega arith)

pub neither_at : (fs : List Field) → length fs ≢ 1 → length fs ≢ 2 → shape_in kind.Obj (of_fields fs) ≡ None
neither_at [] g h = refl
neither_at (f ∷ []) g h = absurd (g refl)
neither_at (f ∷ i ∷ []) g h = absurd (h refl)
neither_at (f ∷ i ∷ j ∷ fs) g h = refl

-- names that are the keys of an object ascend as they do
below_same : (x : Key) (ns : List Named) (fs : List Field) → map (λ n. n.name) ns ≡ map (λ f. f.key) fs → below_all key_cmp x (map placed ns) ≡ below_all key_cmp x (map of_field fs)
below_same x [] [] h = refl
below_same x [] (f ∷ fs) h = absurd (cc)
below_same x (n ∷ ns) [] h = absurd (cc)
below_same x (n ∷ ns) (f ∷ fs) h =
    let e : n.name ≡ f.key = cc in
    let r : map (λ (m : Named). m.name) ns ≡ map (λ (g : Field). g.key) fs = cc in
    let rest = below_same x ns fs r in
    cc

sorted_same : (ns : List Named) (fs : List Field) → map (λ n. n.name) ns ≡ map (λ f. f.key) fs → is_sorted key_cmp (map placed ns) ≡ is_sorted key_cmp (map of_field fs)
sorted_same [] [] h = refl
sorted_same [] (f ∷ fs) h = absurd (cc)
sorted_same (n ∷ ns) [] h = absurd (cc)
sorted_same (n ∷ ns) (f ∷ fs) h =
    let e : n.name ≡ f.key = cc in
    let r : map (λ (m : Named). m.name) ns ≡ map (λ (g : Field). g.key) fs = cc in
    let below = below_same (key.Text n.name) ns fs r in
    let rest = sorted_same ns fs r in
    cc

pub names_ascend : (ns : List Named) (fs : List Field) → map (λ n. n.name) ns ≡ map (λ f. f.key) fs → IsTrue (is_sorted key_cmp (map of_field fs)) → NamesAscend ns
names_ascend ns fs h s = sorted_same ns fs h ∙ s
