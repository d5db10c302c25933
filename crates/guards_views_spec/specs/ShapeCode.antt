-- How the logic stores a shape.
use Rattle.std.proofs.Common.{◌≡◌, ◌≢◌, ℕ, ℤ, List, refl, ap, arith}
use Rattle.std.specs.Coded.{Coded, coded_ℕ, coded_ℤ, coded_list}
use base.Stored.{Gv, gnil, gnum, gcons}
use Rattle.value_model.specs.Code.{coded_kind}
use Rattle.guards_views_spec.specs.contracts.Simple as simple_type
use Rattle.guards_views_spec.specs.declared.Simple.{Simple}
use Rattle.guards_views_spec.specs.Shapes.{Shape, Names, Choices, one, range, every, members, object, either, no_name, named, no_choice, choice}

abbrev coded_simple : Coded Simple
coded_simple = simple_type.the_row.coded

abbrev coded_name : Coded (List ℕ)
coded_name = coded_list coded_ℕ

abbrev head : Gv → Gv
head gnil = gnil
head (gnum n) = gnil
head (gcons a b) = a

abbrev tail : Gv → Gv
tail gnil = gnil
tail (gnum n) = gnil
tail (gcons a b) = b

abbrev mutual
  shape_code : Shape → Gv
  shape_code (one s) = gcons (gnum 0) (coded_simple.code s)
  shape_code (range lo hi) = gcons (gnum 1) (gcons (coded_ℤ.code lo) (coded_ℤ.code hi))
  shape_code (every k s) = gcons (gnum 2) (gcons (coded_kind.code k) (shape_code s))
  shape_code (members s) = gcons (gnum 3) (coded_simple.code s)
  shape_code (object ms ns) = gcons (gnum 4) (gcons (names_code ms) (names_code ns))
  shape_code (either cs) = gcons (gnum 5) (choices_code cs)

  names_code : Names → Gv
  names_code no_name = gnil
  names_code (named n s ns) = gcons (coded_name.code n) (gcons (shape_code s) (names_code ns))

  choices_code : Choices → Gv
  choices_code no_choice = gnil
  choices_code (choice s cs) = gcons (shape_code s) (choices_code cs)

abbrev tag : Gv → ℕ
tag (gnum n) = n
tag _ = 9

mutual
  pub shape_inj : (x y : Shape) → shape_code x ≡ shape_code y → x ≡ y
  shape_inj (one s) (one t) p = ap one (coded_simple.inj s t (ap tail p))
  shape_inj (range a b) (range c d) p =
      let e = coded_ℤ.inj a c (ap (λ g. head (tail g)) p) in
      let f = coded_ℤ.inj b d (ap (λ g. tail (tail g)) p) in
      cc
  shape_inj (every j s) (every k t) p =
      let e = coded_kind.inj j k (ap (λ g. head (tail g)) p) in
      let f = shape_inj s t (ap (λ g. tail (tail g)) p) in
      cc
  shape_inj (members s) (members t) p = ap members (coded_simple.inj s t (ap tail p))
  shape_inj (object a b) (object c d) p =
      let e = names_inj a c (ap (λ g. head (tail g)) p) in
      let f = names_inj b d (ap (λ g. tail (tail g)) p) in
      cc
  shape_inj (either a) (either b) p = ap either (choices_inj a b (ap tail p))
  shape_inj x y p = let e : tag (head (shape_code x)) ≡ tag (head (shape_code y)) = ap (λ g. tag (head g)) p in absurd (omega arith)

  names_inj : (x y : Names) → names_code x ≡ names_code y → x ≡ y
  names_inj no_name no_name p = refl
  names_inj no_name (named n s ns) p = absurd (cc)
  names_inj (named n s ns) no_name p = absurd (cc)
  names_inj (named m s ms) (named n t ns) p =
      let a = coded_name.inj m n (ap head p) in
      let b = shape_inj s t (ap (λ g. head (tail g)) p) in
      let c = names_inj ms ns (ap (λ g. tail (tail g)) p) in
      cc

  choices_inj : (x y : Choices) → choices_code x ≡ choices_code y → x ≡ y
  choices_inj no_choice no_choice p = refl
  choices_inj no_choice (choice s cs) p = absurd (cc)
  choices_inj (choice s cs) no_choice p = absurd (cc)
  choices_inj (choice s cs) (choice t ds) p =
      let b = shape_inj s t (ap head p) in
      let c = choices_inj cs ds (ap tail p) in
      cc

abbrev pub coded_shape : Coded Shape
coded_shape = record { code = shape_code; inj = shape_inj }
