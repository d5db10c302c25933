-- What was read so far, and what the rest is read as.
use Rattle.std.proofs.Common.{◌≡◌, ℕ, zero, suc, ◌+◌, ◌<◌, ◌≤◌, List, [], ◌∷◌, ◌++◌, length, drop, get_or, Option, Some, None, refl, sym, ap, ◌∙◌, map, append_assoc, arith}
use Rattle.std.proofs.lemmas.List.{append-nil, map-append, at_drop_more}
use Rattle.value_model.specs.Plain.{Plain, values_in}
use Rattle.values.specs.declared.val.Field.{Field}
use Rattle.values.specs.Seen.{of_fields, of_items}
use Rattle.shapes.specs.Seen.{of_named}
use Rattle.shapes.specs.declared.shape.Named.{Named}
use Rattle.std.specs.Option.{option_map}
use Rattle.guards_views_spec.specs.Shapes.{Shape, Names, Choices, no_name, named, no_choice, choice, either, names, choices}
use Rattle.guards_views_spec.specs.Reading.{both_of, and_then, not_empty, all_read, shape_of, names_in, choices_in}

-- ---- lists
abbrev pub ahead : {X : Type 0} → List X → Option (List X) → Option (List X)
ahead xs o = option_map (λ ys. xs ++ ys) o

pub ahead_one : {X : Type 0} (xs : List X) (y : X) (o : Option (List X)) → ahead (xs ++ y ∷ []) o ≡ ahead xs (both_of (λ z zs. z ∷ zs) (Some y) o)
ahead_one xs y None = refl
ahead_one xs y (Some ys) = ap Some (append_assoc xs (y ∷ []) ys)

pub ahead_end : {X : Type 0} (xs : List X) → ahead xs (Some []) ≡ Some xs
ahead_end xs = ap Some (append-nil xs)

-- one element more
pub read_on : {X Y : Type 0} (f : X → Option Y) (out : List Y) (x : X) (y : Y) (xs : List X) → f x ≡ Some y → ahead (out ++ y ∷ []) (all_read f xs) ≡ ahead out (all_read f (x ∷ xs))
read_on f out x y xs e = rw e (ahead_one out y (all_read f xs))

-- ---- named shapes
abbrev pub with_names : List (List ℕ × Shape) → Names → Names
with_names [] ns = ns
with_names (x ∷ xs) ns = named x.0 x.1 (with_names xs ns)

abbrev pub ahead_names : List (List ℕ × Shape) → Option Names → Option Names
ahead_names xs o = option_map (with_names xs) o

with_names_one : (xs : List (List ℕ × Shape)) (x : List ℕ × Shape) (ns : Names) → with_names (xs ++ x ∷ []) ns ≡ with_names xs (named x.0 x.1 ns)
with_names_one [] x ns = refl
with_names_one (y ∷ ys) x ns = ap (named y.0 y.1) (with_names_one ys x ns)

pub names_one : (xs : List (List ℕ × Shape)) (n : List ℕ) (s : Shape) (o : Option Names) → ahead_names (xs ++ (n, s) ∷ []) o ≡ ahead_names xs (both_of (named n) (Some s) o)
names_one xs n s None = refl
names_one xs n s (Some ns) = ap Some (with_names_one xs (n, s) ns)

with_names_none : (xs : List (List ℕ × Shape)) → with_names xs no_name ≡ names xs
with_names_none [] = refl
with_names_none (x ∷ xs) = ap (named x.0 x.1) (with_names_none xs)

pub names_end : (xs : List (List ℕ × Shape)) → ahead_names xs (Some no_name) ≡ Some (names xs)
names_end xs = ap Some (with_names_none xs)

-- ---- choices
abbrev pub with_choices : List Shape → Choices → Choices
with_choices [] cs = cs
with_choices (s ∷ ss) cs = choice s (with_choices ss cs)

abbrev pub ahead_choices : List Shape → Option Choices → Option Choices
ahead_choices xs o = option_map (with_choices xs) o

with_choices_one : (xs : List Shape) (s : Shape) (cs : Choices) → with_choices (xs ++ s ∷ []) cs ≡ with_choices xs (choice s cs)
with_choices_one [] s cs = refl
with_choices_one (y ∷ ys) s cs = ap (choice y) (with_choices_one ys s cs)

pub choices_one : (xs : List Shape) (s : Shape) (o : Option Choices) → ahead_choices (xs ++ s ∷ []) o ≡ ahead_choices xs (both_of choice (Some s) o)
choices_one xs s None = refl
choices_one xs s (Some cs) = ap Some (with_choices_one xs s cs)

with_choices_none : (xs : List Shape) → with_choices xs no_choice ≡ choices xs
with_choices_none [] = refl
with_choices_none (x ∷ xs) = ap (choice x) (with_choices_none xs)

pub choices_end : (xs : List Shape) → ahead_choices xs (Some no_choice) ≡ Some (choices xs)
choices_end xs = ap Some (with_choices_none xs)

-- ---- one turn of each loop, and its end
drop_all : {X : Type 0} (xs : List X) (i : ℕ) → length xs ≤ i → drop i xs ≡ []
drop_all [] zero h = refl
drop_all [] (suc i) h = refl
drop_all (x ∷ xs) zero h = absurd (omega arith)
drop_all (x ∷ xs) (suc i) h = drop_all xs i (omega arith)

pub reads_step : {X Y Z E : Type 0} (f : E → Option Y) (g : Z → Y) (h : X → E) (xs : List X) (i : ℕ) (x : X) (out : List Z) (z : Z) (all : Option (List Y)) → i < length xs → x ≡ get_or xs i x → f (h x) ≡ Some (g z) → ahead (map g out) (all_read f (map h (drop i xs))) ≡ all → ahead (map g (out ++ z ∷ [])) (all_read f (map h (drop (i + 1) xs))) ≡ all
reads_step f g h xs i x out z all lt e ok inv =
    let rest = all_read f (map h (drop (i + 1) xs)) in
    ap (λ ys. ahead ys rest) (map-append g out (z ∷ []))
    ∙ ahead_one (map g out) (g z) rest
    ∙ ap (λ o. ahead (map g out) (both_of (λ y ys. y ∷ ys) o rest)) (sym ok)
    ∙ ap (λ y. ahead (map g out) (all_read f (h y ∷ map h (drop (i + 1) xs)))) e
    ∙ sym (at_drop_more (λ r. ahead (map g out) (all_read f (map h r))) xs i x lt)
    ∙ inv

pub choices_step : (xs : List Plain) (i : ℕ) (v : Plain) (out : List Shape) (s : Shape) (all : Option Choices) → i < length xs → v ≡ get_or xs i v → shape_of v ≡ Some s → ahead_choices out (choices_in (of_items (drop i xs))) ≡ all → ahead_choices (out ++ s ∷ []) (choices_in (of_items (drop (i + 1) xs))) ≡ all
choices_step xs i v out s all lt e ok inv =
    let rest = choices_in (of_items (drop (i + 1) xs)) in
    choices_one out s rest
    ∙ ap (λ (o : Option Shape). ahead_choices out (both_of choice o rest)) (sym ok)
    ∙ ap (λ (y : Plain). ahead_choices out (choices_in (of_items (y ∷ drop (i + 1) xs)))) e
    ∙ sym (at_drop_more (λ (r : List Plain). ahead_choices out (choices_in (of_items r))) xs i v lt)
    ∙ inv

pub items_less : (xs : List Plain) (i : ℕ) (v : Plain) → i < length xs → values_in (of_items (drop (i + 1) xs)) ≤ values_in (of_items (drop i xs))
items_less xs i v lt = let e = at_drop_more (λ (r : List Plain). values_in (of_items r)) xs i v lt in omega (arith, e)

pub choices_done : (xs : List Plain) (i : ℕ) (out : List Shape) (all : Option Choices) → length xs ≤ i → ahead_choices out (choices_in (of_items (drop i xs))) ≡ all → all ≡ Some (choices out)
choices_done xs i out all le inv = sym inv ∙ ap (λ (r : List Plain). ahead_choices out (choices_in (of_items r))) (drop_all xs i le) ∙ choices_end out

pub some_choices : (cs : List Shape) (o : Option Choices) → o ≡ Some (choices cs) → 0 < length cs → option_map either (and_then o not_empty) ≡ Some (either (choices cs))
some_choices [] o e h = absurd (omega arith)
some_choices (c ∷ cs) o e h = rw e refl

pub names_step : (fs : List Field) (i : ℕ) (f : Field) (out : List Named) (n : Named) (all : Option Names) → i < length fs → f ≡ get_or fs i f → n.name ≡ f.key → shape_of f.value ≡ Some n.shape → ahead_names (map of_named out) (names_in (of_fields (drop i fs))) ≡ all → ahead_names (map of_named (out ++ n ∷ [])) (names_in (of_fields (drop (i + 1) fs))) ≡ all
names_step fs i f out n all lt e same ok inv =
    let rest = names_in (of_fields (drop (i + 1) fs)) in
    ap (λ (ys : List (List ℕ × Shape)). ahead_names ys rest) (map-append of_named out (n ∷ []))
    ∙ names_one (map of_named out) n.name n.shape rest
    ∙ ap (λ (o : Option Shape). ahead_names (map of_named out) (both_of (named n.name) o rest)) (sym ok)
    ∙ ap (λ (k : List ℕ). ahead_names (map of_named out) (both_of (named k) (shape_of f.value) rest)) same
    ∙ ap (λ (y : Field). ahead_names (map of_named out) (names_in (of_fields (y ∷ drop (i + 1) fs)))) e
    ∙ sym (at_drop_more (λ (r : List Field). ahead_names (map of_named out) (names_in (of_fields r))) fs i f lt)
    ∙ inv

pub keys_step : (fs : List Field) (i : ℕ) (f : Field) (out : List Named) (n : Named) (all : List (List ℕ)) → i < length fs → f ≡ get_or fs i f → n.name ≡ f.key → map (λ m. m.name) out ++ map (λ g. g.key) (drop i fs) ≡ all → map (λ m. m.name) (out ++ n ∷ []) ++ map (λ g. g.key) (drop (i + 1) fs) ≡ all
keys_step fs i f out n all lt e same inv =
    let rest = map (λ (g : Field). g.key) (drop (i + 1) fs) in
    ap (λ (ys : List (List ℕ)). ys ++ rest) (map-append (λ (m : Named). m.name) out (n ∷ []))
    ∙ append_assoc (map (λ (m : Named). m.name) out) (n.name ∷ []) rest
    ∙ ap (λ (k : List ℕ). map (λ (m : Named). m.name) out ++ (k ∷ rest)) same
    ∙ ap (λ (y : Field). map (λ (m : Named). m.name) out ++ (y.key ∷ rest)) e
    ∙ sym (at_drop_more (λ (r : List Field). map (λ (m : Named). m.name) out ++ map (λ (g : Field). g.key) r) fs i f lt)
    ∙ inv

pub fields_less : (fs : List Field) (i : ℕ) (f : Field) → i < length fs → values_in (of_fields (drop (i + 1) fs)) ≤ values_in (of_fields (drop i fs))
fields_less fs i f lt = let e = at_drop_more (λ (r : List Field). values_in (of_fields r)) fs i f lt in omega (arith, e)

pub names_done : (fs : List Field) (i : ℕ) (out : List Named) (all : Option Names) → length fs ≤ i → ahead_names (map of_named out) (names_in (of_fields (drop i fs))) ≡ all → all ≡ Some (names (map of_named out))
names_done fs i out all le inv = sym inv ∙ ap (λ (r : List Field). ahead_names (map of_named out) (names_in (of_fields r))) (drop_all fs i le) ∙ names_end (map of_named out)

pub keys_done : (fs : List Field) (i : ℕ) (out : List Named) (all : List (List ℕ)) → length fs ≤ i → map (λ m. m.name) out ++ map (λ g. g.key) (drop i fs) ≡ all → map (λ m. m.name) out ≡ all
keys_done fs i out all le inv =
    sym (append-nil (map (λ (m : Named). m.name) out))
    ∙ sym (ap (λ (r : List Field). map (λ (m : Named). m.name) out ++ map (λ (g : Field). g.key) r) (drop_all fs i le))
    ∙ inv
