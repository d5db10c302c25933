-- One step of the search for the first break.
use Rattle.std.proofs.Common.{◌≡◌, ℕ, List, ◌∷◌, Bool, true, false, Option, Some, None, refl}
use Rattle.std.specs.Prelude.{is_some, is_none}
use Rattle.std.specs.Option.{option_or}
use Rattle.value_model.specs.declared.key.Key.{Key}
use Rattle.value_model.specs.declared.key.Key.TheVariants as key
use Rattle.guards_views_spec.specs.Shapes.{Broken, below, broken}
use Rattle.shapes.specs.Breaks.{IsWrong}
use Rattle.shapes.specs.declared.meeting.Wrong.{Wrong}
use Rattle.shapes.specs.declared.meeting.Wrong.TheVariants as wrong

at_step : (k : Key) (p o : Broken) → o ≡ below k p → is_some p ≡ true → false ≡ is_none o
at_step k None o e h = absurd (cc)
at_step k (Some p) o e h = rw e refl

-- a value that isn't broken is passed
pub goes_on : (k : Key) (o rest : Broken) → is_none o ≡ true → option_or (below k o) rest ≡ rest
goes_on k None rest h = refl
goes_on k (Some p) rest h = absurd (cc)

-- one that is broken ends the search
pub stops : (k : Key) (o rest : Broken) → is_none o ≡ false → option_or (below k o) rest ≡ below k o
stops k None rest h = absurd (cc)
stops k (Some p) rest h = refl

-- nothing is wrong where nothing was found
pub found_none : (n : ℕ) (w : Option Wrong) (o : Broken) → IsWrong n w o → is_none w ≡ is_none o
found_none n None o h = cc
found_none n (Some (wrong.Name k)) o h = rw h refl
found_none n (Some (wrong.Field s f)) o h = at_step (key.Text f.now.key) (broken s.now f.now.value) o h.0.at h.0.breaks

pub some_from : (o : Broken) → is_none o ≡ false → is_some o ≡ true
some_from None h = absurd (cc)
some_from (Some p) h = refl
