-- A container with another child at a step that has one: the child is there, every other entry stays, and the keys ascend as before.
use Rattle.std.specs.Prelude.{◌≡◌, ◌≢◌, ℕ, pos, negsuc, [], ◌∷◌, Some, slice_set, refl}
use Rattle.std.proofs.Common.{zero, suc, ap}
use Rattle.value_model.specs.declared.key.Key.{Key}
use Rattle.value_model.specs.declared.key.Key.TheVariants as key
use Rattle.value_model.specs.declared.kind.Kind.{Kind}
use Rattle.value_model.specs.declared.kind.Kind.TheVariants as kind
use Rattle.value_model.specs.Places.{child_at}
use Rattle.value_model.specs.Plain.{Plain, Table}
use Rattle.value_model.proofs.Tables.{find_put_same, find_put_other, put_ascends}
use Rattle.patch_meaning.specs.Applying.{element, with_child}
use Rattle.view_laws.proofs.EditLaws.{Stays, element_at, elements}

pub record Child (kind : Kind) (j : Key) (old : Table) (w : Plain) : Type 0 where
  pub here : child_at kind j (with_child kind j old w) ≡ Some w
  pub stays : Stays kind j old (with_child kind j old w)

set_here : (es : Table) (i : ℕ) (v w : Plain) → element_at i es ≡ Some v → element_at i (slice_set es i (element w)) ≡ Some w
set_here [] i v w h = absurd (cc)
set_here (e ∷ es) zero v w h = refl
set_here (e ∷ es) (suc i) v w h = set_here es i v w h

set_other : (es : Table) (i n : ℕ) (w : Plain) → n ≢ i → element_at n (slice_set es i (element w)) ≡ element_at n es
set_other [] i n w d = refl
set_other (e ∷ es) zero zero w d = absurd (d refl)
set_other (e ∷ es) zero (suc n) w d = refl
set_other (e ∷ es) (suc i) zero w d = refl
set_other (e ∷ es) (suc i) (suc n) w d = set_other es i n w (λ q. d (ap suc q))

in_list : (i : ℕ) (es : Table) (v w : Plain) → element_at i es ≡ Some v → Child kind.List (key.Int (pos i)) es w
in_list i es v w h = record {
  here = set_here es i v w h;
  stays = record { others = λ k d. elements i es _ (λ n e. set_other es i n w e) k d; ascends = λ t. refl };
}

pub child_set : (kind : Kind) (j : Key) (es : Table) (v w : Plain) → child_at kind j es ≡ Some v → Child kind j es w
child_set kind.List (key.Int (pos i)) es v w h = in_list i es v w h
child_set kind.List key.Null es v w h = absurd (cc)
child_set kind.List (key.Bool b) es v w h = absurd (cc)
child_set kind.List (key.Int (negsuc i)) es v w h = absurd (cc)
child_set kind.List (key.Text s) es v w h = absurd (cc)
child_set kind.Set j es v w h = absurd (cc)
child_set kind.Obj j es v w h = record { here = find_put_same j w es; stays = record { others = λ k d. find_put_other k j w es d; ascends = λ t. put_ascends j w es t } }
child_set kind.Map j es v w h = record { here = find_put_same j w es; stays = record { others = λ k d. find_put_other k j w es d; ascends = λ t. put_ascends j w es t } }

-- a step that isn't the changed one leads where it led
pub child_stays : (kind : Kind) (j : Key) (old new : Table) → Stays kind j old new → (k : Key) → k ≢ j → child_at kind k new ≡ child_at kind k old
child_stays kind.Obj j old new s k d = s.others k d
child_stays kind.List j old new s k d = s.others k d
child_stays kind.Map j old new s k d = s.others k d
child_stays kind.Set j old new s k d = refl
